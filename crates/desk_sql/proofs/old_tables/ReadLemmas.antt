-- What the queries of the tables of version 1 show, and that they are refused for no cause of their own.
use Rattle.std.proofs.Common.{[], ◌∷◌, map, refl, true, true≢false, arith, ◌∙◌}
use Rattle.sqlite_tied.specs.Compute.{everything}
use Rattle.sqlite.specs.Listing.{understood}
use Rattle.desk_sql.specs.declared.opening.numbers.DeskTable.TheVariants.{OldVolume, OldSpan}
use Rattle.desk_sql.specs.Rows.{columns, tables_of}
use Rattle.desk_sql.specs.Statements.{SelectsAll}
use Rattle.desk_sql.proofs.lemmas.Read.{scanned}
use Rattle.desk_sql.proofs.SureTexts.{IsSureWith, sure_scan}
use Rattle.desk_sql.proofs.StatementLemmas.{every, selects_all}
use Rattle.desk_sql.proofs.lemmas.OldTexts.{all_old_volumes_text, all_old_volumes_is, all_old_volumes_query, all_old_spans_text, all_old_spans_is, all_old_spans_query}

pub all_old_volumes_sure : IsSureWith OldVolume all_old_volumes_text
unfolding understood everything
all_old_volumes_sure others indexes views =
    sure_scan (all_old_volumes_is others indexes views) refl (omega arith) (λ trees misfit. true≢false misfit)

pub all_old_spans_sure : IsSureWith OldSpan all_old_spans_text
unfolding understood everything
all_old_spans_sure others indexes views =
    sure_scan (all_old_spans_is others indexes views) refl (omega arith) (λ trees misfit. true≢false misfit)

pub all_old_volumes_selected :
    SelectsAll OldVolume all_old_volumes_text (0 ∷ 1 ∷ 2 ∷ []) (λ db. (tables_of db).old_volumes)
all_old_volumes_selected =
    selects_all all_old_volumes_text _ _ _ _ _ _ all_old_volumes_is all_old_volumes_sure (0 ∷ 1 ∷ 2 ∷ []) _
    (λ e. refl) (λ x y. refl)
    (λ db. scanned (λ r. [] ∷ r ∷ []) all_old_volumes_query.filter all_old_volumes_query.project (columns 8)
    (λ r. true) (λ r. refl) (λ r. refl) (db 4) ∙ every (map (columns 8) (db 4)))

pub all_old_spans_selected :
    SelectsAll OldSpan all_old_spans_text (0 ∷ 1 ∷ 2 ∷ 3 ∷ []) (λ db. (tables_of db).old_spans)
all_old_spans_selected =
    selects_all all_old_spans_text _ _ _ _ _ _ all_old_spans_is all_old_spans_sure (0 ∷ 1 ∷ 2 ∷ 3 ∷ []) _
    (λ e. refl) (λ x y. refl)
    (λ db. scanned (λ r. [] ∷ r ∷ []) all_old_spans_query.filter all_old_spans_query.project (columns 10)
    (λ r. true) (λ r. refl) (λ r. refl) (db 6) ∙ every (map (columns 10) (db 6)))
