-- What each text of a whole table shows, also in a packed file.
use Rattle.std.proofs.Common.{◌≡◌, Bool, [], ◌∷◌, List, ℕ, refl, true, false}
use Rattle.sqlite.specs.Tree.{Trees}
use Rattle.desk_sql.specs.declared.opening.numbers.DeskTable.TheVariants as desk
use Rattle.desk_sql.specs.declared.reading.whole.WholeTable.{WholeTable}
use Rattle.desk_sql.specs.declared.reading.whole.WholeTable.TheVariants.{Operators, Plans, OldVolumes, OldSpans, Spans}
use Rattle.desk_sql.specs.Queries.{table_in, key_cells, rows_read, table_read, ShowsWhole}
use Rattle.desk_sql.specs.Rows.{tables_of, tables_in}
use Rattle.desk_sql.specs.Statements.{SelectsAll}
use Rattle.desk_sql.proofs.AskLemmas.{one_tree, two_trees}
use Rattle.desk_sql.proofs.PackedLemmas as packed
use Rattle.desk_sql.proofs.StatementLemmas.{all_operators_selected, all_plans_selected, all_spans_selected}
use Rattle.desk_sql.proofs.lemmas.Texts.{all_operators_text, all_plans_text, all_spans_text}
use Rattle.desk_sql.proofs.old_tables.ReadLemmas.{all_old_volumes_selected, all_old_spans_selected}
use Rattle.desk_sql.proofs.lemmas.OldTexts.{all_old_volumes_text, all_old_spans_text}

-- what is read of the tables of version 1 is the same in a packed file
abbrev IsSame : WholeTable → Type 0
IsSame whole = (packed : Bool) (db : Trees)
    → rows_read whole (tables_in packed db) ≡ rows_read whole (tables_of db)

operators_same : IsSame Operators
operators_same true db = refl
operators_same false db = refl

plans_same : IsSame Plans
plans_same true db = refl
plans_same false db = refl

old_volumes_same : IsSame OldVolumes
old_volumes_same true db = refl
old_volumes_same false db = refl

old_spans_same : IsSame OldSpans
old_spans_same true db = refl
old_spans_same false db = refl

-- what a query reads, packed or not
abbrev IsTextIn : WholeTable → List ℕ → Bool → Type 0
IsTextIn whole text packed = SelectsAll (table_in whole packed) text (key_cells (table_read whole))
    (λ db. rows_read whole (tables_in packed db))

pub operators_selected : ShowsWhole Operators all_operators_text
operators_selected =
    one_tree Operators desk.Operator _ (0 ∷ []) (λ p. refl) operators_same all_operators_selected

pub plans_selected : ShowsWhole Plans all_plans_text
plans_selected = one_tree Plans desk.Plan _ (0 ∷ 1 ∷ []) (λ p. refl) plans_same all_plans_selected

pub old_volumes_selected : ShowsWhole OldVolumes all_old_volumes_text
old_volumes_selected =
    one_tree OldVolumes desk.OldVolume _ (0 ∷ 1 ∷ 2 ∷ []) (λ p. refl) old_volumes_same all_old_volumes_selected

pub old_spans_selected : ShowsWhole OldSpans all_old_spans_text
old_spans_selected =
    one_tree OldSpans desk.OldSpan _ (0 ∷ 1 ∷ 2 ∷ 3 ∷ []) (λ p. refl) old_spans_same all_old_spans_selected

pub spans_selected : ShowsWhole Spans all_spans_text
spans_selected = two_trees (IsTextIn Spans _) all_spans_selected packed.spans_selected
