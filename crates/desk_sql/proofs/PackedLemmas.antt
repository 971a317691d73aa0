-- What the queries of `volume2` and `span2` show in a packed file, and that they are refused for no cause of
-- their own.
use Rattle.std.proofs.Common.{[], ◌∷◌, map, codes, refl, true, true≢false, arith, ◌∙◌}
use Rattle.sqlite_tied.specs.Compute.{everything}
use Rattle.sqlite.specs.Listing.{understood}
use Rattle.desk_sql.specs.declared.opening.numbers.DeskTable.TheVariants.{PackedVolume, PackedSpan}
use Rattle.desk_sql.specs.Rows.{columns, packed_tables_of}
use Rattle.desk_sql.specs.Statements.{SelectsAll, rowids}
use Rattle.desk_sql.proofs.lemmas.Texts.{volume_rows_text, all_spans_text, volume_rowids_text, span_rowids_text}
use Rattle.desk_sql.proofs.lemmas.QueryTexts.{IsWhole, volume_rows_in, spans_in, rowids_query}
use Rattle.desk_sql.proofs.lemmas.Read.{scanned}
use Rattle.desk_sql.proofs.SureTexts.{IsSureWith, sure_scan}
use Rattle.desk_sql.proofs.StatementLemmas.{every, selects_all}
use Rattle.desk_sql.proofs.lemmas.Rowid.{rowids_selected}

volume_rows_are : IsWhole PackedVolume volume_rows_text (volume_rows_in 8)
    (codes "operator" ∷ codes "id" ∷ codes "place" ∷ codes "lower" ∷ codes "upper" ∷ codes "start"
    ∷ codes "stop" ∷ codes "asked" ∷ codes "canon" ∷ [])
unfolding understood everything
volume_rows_are others indexes views = record { is = refl; plain = (refl, refl); unlisted = refl }

volume_rows_sure : IsSureWith PackedVolume volume_rows_text
unfolding understood everything
volume_rows_sure others indexes views =
    sure_scan (volume_rows_are others indexes views) refl (omega arith) (λ trees misfit. true≢false misfit)

pub volume_rows_selected :
    SelectsAll PackedVolume volume_rows_text (0 ∷ 1 ∷ 2 ∷ []) (λ db. map (columns 9) (db 8))
volume_rows_selected =
    selects_all volume_rows_text _ _ _ _ _ _ volume_rows_are volume_rows_sure (0 ∷ 1 ∷ 2 ∷ []) _
    (λ e. refl) (λ x y. refl)
    (λ db. scanned (λ r. [] ∷ r ∷ []) (volume_rows_in 8).filter (volume_rows_in 8).project (columns 9)
    (λ r. true) (λ r. refl) (λ r. refl) (db 8) ∙ every (map (columns 9) (db 8)))

spans_are : IsWhole PackedSpan all_spans_text (spans_in 10)
    (codes "operator" ∷ codes "id" ∷ codes "place" ∷ codes "first" ∷ codes "last" ∷ codes "lower"
    ∷ codes "upper" ∷ codes "start" ∷ codes "stop" ∷ codes "priority" ∷ [])
unfolding understood everything
spans_are others indexes views = record { is = refl; plain = (refl, refl); unlisted = refl }

spans_sure : IsSureWith PackedSpan all_spans_text
unfolding understood everything
spans_sure others indexes views =
    sure_scan (spans_are others indexes views) refl (omega arith) (λ trees misfit. true≢false misfit)

pub spans_selected :
    SelectsAll PackedSpan all_spans_text (0 ∷ 1 ∷ 2 ∷ 3 ∷ []) (λ db. (packed_tables_of db).spans)
spans_selected =
    selects_all all_spans_text _ _ _ _ _ _ spans_are spans_sure (0 ∷ 1 ∷ 2 ∷ 3 ∷ []) _
    (λ e. refl) (λ x y. refl)
    (λ db. scanned (λ r. [] ∷ r ∷ []) (spans_in 10).filter (spans_in 10).project (columns 10)
    (λ r. true) (λ r. refl) (λ r. refl) (db 10) ∙ every (map (columns 10) (db 10)))

volume_rowids_are : IsWhole PackedVolume volume_rowids_text (rowids_query 8) (codes "rowid" ∷ [])
unfolding understood everything
volume_rowids_are others indexes views = record { is = refl; plain = (refl, refl); unlisted = refl }

volume_rowids_sure : IsSureWith PackedVolume volume_rowids_text
unfolding understood everything
volume_rowids_sure others indexes views =
    sure_scan (volume_rowids_are others indexes views) refl (omega arith) (λ trees misfit. true≢false misfit)

pub volume_rowids_selected : SelectsAll PackedVolume volume_rowids_text (0 ∷ []) (λ db. rowids (db 8))
volume_rowids_selected = rowids_selected _ _ 8 volume_rowids_are volume_rowids_sure (λ db. refl)

span_rowids_are : IsWhole PackedSpan span_rowids_text (rowids_query 10) (codes "rowid" ∷ [])
unfolding understood everything
span_rowids_are others indexes views = record { is = refl; plain = (refl, refl); unlisted = refl }

span_rowids_sure : IsSureWith PackedSpan span_rowids_text
unfolding understood everything
span_rowids_sure others indexes views =
    sure_scan (span_rowids_are others indexes views) refl (omega arith) (λ trees misfit. true≢false misfit)

pub span_rowids_selected : SelectsAll PackedSpan span_rowids_text (0 ∷ []) (λ db. rowids (db 10))
span_rowids_selected = rowids_selected _ _ 10 span_rowids_are span_rowids_sure (λ db. refl)
