-- Whether a table has rows.
use Rattle.std.proofs.Common.{◌≡◌, Bool, true, List, [], ◌∷◌, ◌++◌, map, refl, ◌∙◌, arith, IsPermutation}
use Rattle.std.proofs.lemmas.List.Sorted.{length_permutation}
use Rattle.sqlite.specs.Order.{Row}
use Rattle.desk_sql.specs.Rows.{Lists, has_rows}
use Rattle.desk_sql.specs.Statements.{rowids}

-- rows that end with one are some
pub some_more : (rows : List Row) (row : Row) → has_rows (rows ++ row ∷ []) ≡ true
some_more [] row = refl
some_more (r ∷ rows) row = refl

-- rows in another order are none if and only if these are
some_alike : (wanted rows : List Row) → IsPermutation wanted rows → has_rows rows ≡ has_rows wanted
some_alike [] [] same = refl
some_alike (x ∷ xs) (y ∷ ys) same = refl
some_alike [] (y ∷ ys) same = absurd (omega (arith, length_permutation [] (y ∷ ys) same))
some_alike (x ∷ xs) [] same = absurd (omega (arith, length_permutation (x ∷ xs) [] same))

has_map : (f : Row → Row) (rows : List Row) → has_rows (map f rows) ≡ has_rows rows
has_map f [] = refl
has_map f (r ∷ rows) = refl

-- from an answer with the rowids of a table
pub some_shown : (rows shown : List Row) (some : Bool) → some ≡ has_rows shown → Lists (0 ∷ []) (rowids rows) shown
    → some ≡ has_rows rows
some_shown rows shown some is lists = is ∙ some_alike (rowids rows) shown lists.same ∙ has_map _ rows
