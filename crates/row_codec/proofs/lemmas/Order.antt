-- How plans, and rows that begin with their keys, are ordered.
use Rattle.std.proofs.Common.{ℕ, pos, List, ◌∷◌, drop, ◌≡◌, refl, ap, ◌∙◌, Less, Equal, Greater, ◌<◌, ◌&&◌, [], arith, IsPermutation}
use Rattle.std.specs.List.{flat_map, AllByRecursion}
use Rattle.sqlite_value.specs.declared.value.Value.TheVariants.{Int, Text}
use Rattle.sqlite_value.specs.Order.{Row, column, value_cmp}
use Rattle.volume4d.specs.Volume.{Block}
use Rattle.desk_store.specs.World.{Filed, text_cmp, filed_cmp, IsPlan}
use Rattle.row_codec.specs.Tables.{id_text, rows_from}
use Rattle.std.specs.declared.cmp.Ordering.{Ordering}
use Rattle.std.specs.Ordering.{ordering_reverse, is_eq, ordering_then, int_cmp}
use Rattle.std.specs.Cmp.Lexicographic.{nat_list_cmp_total}
use Rattle.std.specs.Cmp.{IsTotalOrder}
use Rattle.std.proofs.lemmas.Cmp.{on_total, then_total, nat_cmp_total}
use Rattle.std.proofs.lemmas.Bool.Decides.{nat_tests}
use Rattle.std.proofs.lemmas.List.Sorted.{IsPermutation-trans}
use Rattle.sqlite_value.proofs.OrderLemmas.{value_cmp_total, value_cmp-Int}
use Rattle.sqlite_trees.specs.Tree.{IsAscending}
use Rattle.sqlite_keyed.proofs.SortLemmas.{sorted_unique}
use Rattle.desk_sql.specs.Rows.{Lists, by_cells}

-- what a row has after its operator and its id
abbrev pub after_key : Row → Row
after_key r = drop 2 r

-- the row of a volume at a place, which begins with its plan's key and its place
abbrev pub placed : (Filed → ℕ → Block → Row) → Filed → ℕ → Block → Row
placed more p n v = Text p.operator ∷ Text (id_text p.row.id) ∷ Int (pos n) ∷ more p n v

-- such rows of all volumes of plans
abbrev pub placed_rows : (Filed → ℕ → Block → Row) → List Filed → List Row
placed_rows more ps = flat_map (λ p. rows_from (placed more) p 0 p.row.area) ps

-- what a row of `volume` has after the place, and what a cover's has
abbrev pub after_place : (Filed → ℕ → Block → Row) → Filed → ℕ → Block → Row
after_place row p n v = drop 3 (row p n v)

abbrev pub ArePlans : List Filed → Type 0
ArePlans ps = AllByRecursion (λ p. IsPlan p.row) ps

is_eq_turned : (n : Ordering) → is_eq (ordering_reverse n) ≡ is_eq n
is_eq_turned Less = refl
is_eq_turned Equal = refl
is_eq_turned Greater = refl

pub turned : (a b : List ℕ) → is_eq (text_cmp a b) ≡ is_eq (text_cmp b a)
turned a b = ap is_eq (nat_list_cmp_total.antisymm a b) ∙ is_eq_turned (text_cmp b a)

by_cells_total : (cells : List ℕ) → IsTotalOrder (by_cells cells)
by_cells_total [] = on_total (λ (r : Row). 0) nat_cmp_total
by_cells_total (at ∷ more) = then_total (on_total (λ (r : Row). column r at) value_cmp_total)
    (by_cells_total more)

-- rows that ascend by the cells are those of the answer, in its order
pub in_order : (cells : List ℕ) (xs wanted rows : List Row)
    → IsAscending (λ a b. by_cells cells a b ≡ Less) xs → IsPermutation xs wanted
    → Lists cells wanted rows
    → rows ≡ xs
in_order cells xs wanted rows up same lists = sorted_unique (by_cells cells) (by_cells_total cells) xs
    rows up
    (IsPermutation-trans xs wanted rows same lists.same) lists.sorted

pub places_less : (n m : ℕ) → n < m → value_cmp (Int (pos n)) (Int (pos m)) ≡ Less
places_less n m h = value_cmp-Int (pos n) (pos m) ∙ ints where
  ints : int_cmp (pos n) (pos m) ≡ Less
  ints = grind (arith, nat_tests, h)

pub filed_total : IsTotalOrder filed_cmp
filed_total = then_total (on_total (λ (p : Filed). p.operator) nat_list_cmp_total)
    (on_total (λ (p : Filed). p.row.id) nat_list_cmp_total)

pub own_at : (n m : Ordering) → is_eq (ordering_then n m) ≡ (is_eq n && is_eq m)
own_at Less m = refl
own_at Equal m = refl
own_at Greater m = refl
