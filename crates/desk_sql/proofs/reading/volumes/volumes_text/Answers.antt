use Rattle.std.proofs.Common.{Bool, [], ◌∷◌, List, ℕ, map}
use Rattle.desk_sql.specs.Rows.{columns, volume_table_in}
use Rattle.desk_sql.specs.Schema.{tree_of}
use Rattle.desk_sql.specs.Statements.{SelectsAll}
use Rattle.desk_sql.proofs.AskLemmas.{two_trees}
use Rattle.desk_sql.proofs.PackedLemmas as packed
use Rattle.desk_sql.proofs.StatementLemmas.{volume_rows_selected}
use Rattle.desk_sql.proofs.reading.volumes.volumes_text.Goals as goal

-- what the query reads, packed or not
abbrev IsTextIn : List ℕ → Bool → Type 0
IsTextIn text packed = SelectsAll (volume_table_in packed) text (0 ∷ 1 ∷ 2 ∷ [])
    (λ db. map (columns 9) (db (tree_of (volume_table_in packed))))

pub returns : goal.returns
returns c = two_trees (IsTextIn _) volume_rows_selected packed.volume_rows_selected
