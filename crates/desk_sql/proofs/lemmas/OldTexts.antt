-- The texts of the statements on the tables of version 1, and what they mean, found by computing.
use Rattle.std.proofs.Common.{ℕ, List, [], ◌∷◌, codes, refl}
use Rattle.sqlite.specs.Collation.TheVariants.{Binary}
use Rattle.sqlite.specs.Term.{col}
use Rattle.sqlite.specs.Query.{Query, inner, end}
use Rattle.sqlite.specs.Command.TheVariants.{Delete}
use Rattle.sqlite_value.specs.Keys.{ascending}
use Rattle.sqlite_tied.specs.Compute.{everything}
use Rattle.sqlite.specs.Listing.{understood}
use Rattle.desk_sql.specs.declared.opening.numbers.DeskTable.TheVariants.{OldVolume, OldSpan}
use Rattle.desk_sql.proofs.lemmas.QueryTexts.{IsWhole, query_of}
use Rattle.desk_sql.proofs.lemmas.CommandTexts.{IsCommand}

abbrev pub all_old_volumes_text : List ℕ
all_old_volumes_text = codes
    "SELECT operator, id, place, lower, upper, start, stop, asked FROM volume ORDER BY operator, id, place"

abbrev pub all_old_spans_text : List ℕ
all_old_spans_text = codes
    "SELECT operator, id, place, first, last, lower, upper, start, stop, priority FROM span ORDER BY operator, id, place, first"

abbrev pub empty_old_volumes_text : List ℕ
empty_old_volumes_text = codes "DELETE FROM volume"

abbrev pub empty_old_spans_text : List ℕ
empty_old_spans_text = codes "DELETE FROM span"

abbrev pub all_old_volumes_query : Query
all_old_volumes_query = query_of (inner 4 end) ([])
    (col 1 1 ∷ col 1 2 ∷ col 1 3 ∷ col 1 4 ∷ col 1 5 ∷ col 1 6
    ∷ col 1 7 ∷ col 1 8 ∷ []) ((col 1 1, ascending Binary) ∷ (col 1 2, ascending Binary)
    ∷ (col 1 3, ascending Binary) ∷ [])

pub all_old_volumes_is : IsWhole OldVolume all_old_volumes_text all_old_volumes_query
    (codes "operator" ∷ codes "id" ∷ codes "place" ∷ codes "lower" ∷ codes "upper" ∷ codes "start"
    ∷ codes "stop" ∷ codes "asked" ∷ [])
unfolding understood everything
all_old_volumes_is others indexes views = record { is = refl; plain = (refl, refl); unlisted = refl }

abbrev pub all_old_spans_query : Query
all_old_spans_query = query_of (inner 6 end) ([]) (col 1 1 ∷ col 1 2 ∷ col 1 3 ∷ col 1 4 ∷ col 1 5 ∷ col 1 6
    ∷ col 1 7 ∷ col 1 8 ∷ col 1 9 ∷ col 1 10 ∷ [])
    ((col 1 1, ascending Binary) ∷ (col 1 2, ascending Binary) ∷ (col 1 3, ascending Binary)
    ∷ (col 1 4, ascending Binary) ∷ [])

pub all_old_spans_is : IsWhole OldSpan all_old_spans_text all_old_spans_query
    (codes "operator" ∷ codes "id" ∷ codes "place" ∷ codes "first" ∷ codes "last" ∷ codes "lower"
    ∷ codes "upper" ∷ codes "start" ∷ codes "stop" ∷ codes "priority" ∷ [])
unfolding understood everything
all_old_spans_is others indexes views = record { is = refl; plain = (refl, refl); unlisted = refl }

-- all rows of the table in a tree
abbrev pub empty_query : ℕ → Query
empty_query tree = query_of (inner tree end) [] (col 1 0 ∷ []) []

pub empty_old_volumes_is : IsCommand empty_old_volumes_text
    (Delete 2 (record { lets = []; body = empty_query 4 }))
unfolding understood everything
empty_old_volumes_is beside = record { is = refl; plain = (refl, refl) }

pub empty_old_spans_is : IsCommand empty_old_spans_text
    (Delete 3 (record { lets = []; body = empty_query 6 }))
unfolding understood everything
empty_old_spans_is beside = record { is = refl; plain = (refl, refl) }
