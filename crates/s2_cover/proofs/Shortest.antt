-- No list of cells with the leaves of a set is shorter than its canonical list.
use Rattle.std.proofs.Common.{◌≡◌, ℕ, ◌≤◌, Bool, List, length, sym, ◌∙◌, ap, arith, inl, inr}
use Rattle.std.specs.Prelude.{IsTrue, Contains}
use Rattle.std.proofs.lemmas.Bool.{cases_lt}
use Rattle.std.proofs.lemmas.List.Folds.{Any-from_list_any, list_any_at}
use Rattle.std.proofs.lemmas.List.Kept.{AllPairs-from_increasing}
use Rattle.s2_cellid.specs.Cell.{lowest_place, IsCellId, first_leaf, cell_has}
use Rattle.s2_cellid.proofs.lemmas.Block.{first_belongs}
use Rattle.s2_cover.specs.Covers.{leaves_of, IsLargest, IsCanonical}
use Rattle.s2_cover.proofs.Laid.{has_position, none_larger, largest_apart}
use Rattle.s2_cover.proofs.Nesting.{has_leaves, nested}
use Rattle.s2_cover.proofs.Pigeons.{no_longer}

-- a cell of a list gives its leaves to the list
has_leaf : (ids : List ℕ) (id p : ℕ) → Contains ids id → IsTrue (cell_has id p) → IsTrue (leaves_of ids p)
has_leaf ids id p there has =
    list_any_at (λ x. cell_has x p) ids there.0 id there.1 (ap (λ x. cell_has x p) there.2 ∙ has)

-- a cell of the set that has the first leaf of a largest cell lies in it
own_cell : (set : ℕ → Bool) (others : List ℕ) (id : ℕ) → ((x : ℕ) → Contains others x → IsCellId x)
    → ((p : ℕ) → leaves_of others p ≡ set p) → IsLargest set id
    → (other : ℕ) × (Contains others other × IsTrue (cell_has id (first_leaf other)))
own_cell set others id valid same largest =
    let p = first_leaf id in
    let here = first_belongs id largest.valid in
    let any = Any-from_list_any (λ x. cell_has x p) others (same p ∙ largest.inside p here) in
    let other = any.1 in
    let there : Contains others other = (any.0, any.2, any.3) in
    let is = valid other there in
    elim (cases_lt (lowest_place id) (lowest_place other)) [
      | inl less ↦
          absurd (none_larger set id other p largest is
          (λ q has. sym (same q) ∙ has_leaf others other q there has)
          here any.4 less)
      | inr at_least ↦
          let lies = nested other id p is largest.valid any.4 here at_least in
          let leaves = has_leaves other is in (
            other,
            (
              there,
              has_position id (first_leaf other) largest.valid lies.first
                  (omega (arith, lies.last, leaves)),
            ),
          )
    ]

pub no_shorter : (set : ℕ → Bool) (ids others : List ℕ) → IsCanonical set ids
    → ((id : ℕ) → Contains others id → IsCellId id) → ((p : ℕ) → leaves_of others p ≡ set p)
    → length ids ≤ length others
no_shorter set ids others canonical valid same =
    no_longer (λ id other. IsTrue (cell_has id (first_leaf other))) ids others
    (AllPairs-from_increasing ids canonical.ascending)
    (λ id there. own_cell set others id valid same ((canonical.members id).0 there))
    (λ a b other there_a there_b one two.
    largest_apart set a b (first_leaf other) ((canonical.members a).0 there_a)
    ((canonical.members b).0 there_b) one two)
