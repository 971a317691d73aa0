-- The canonical list, as a function, is the canonical list.
use Rattle.std.proofs.Common.{◌≡◌, ℕ, ◌+◌, ◌-◌, ◌^◌, ◌<◌, ◌≤◌, Bool, true, false, ◌||◌, cond, List, [], ◌∷◌, length, get_or, refl, sym, ◌∙◌, ap, subst, arith, inl, inr, ◌⊎◌}
use Rattle.std.specs.Prelude.{IsTrue, Contains, not, ◌==◌}
use Rattle.std.specs.List.{list_all, filter, range_with_len}
use Rattle.std.specs.List.Sorted.{IsStrictlyIncreasing}
use Rattle.std.proofs.lemmas.Bool.{and_parts, and_from, cases_Bool, both_ways}
use Rattle.std.proofs.lemmas.Bool.Decides.{nat_tests}
use Rattle.std.proofs.lemmas.List.FromFn.{length-range_with_len, get_or-range_with_len}
use Rattle.std.proofs.lemmas.List.Kept.{IsStrictlyIncreasing-filter}
use Rattle.std.proofs.lemmas.List.Sums.{AllPass-from_list_all, list_all-from_AllPass}
use Rattle.s2_cellid.specs.Cell.{lowest_place, level_of, is_cell_id, IsCellId, first_leaf, last_leaf, cell_has}
use Rattle.s2_cellid.proofs.lemmas.Block.{id_between, ends_below}
use Rattle.s2_cover.specs.Covers.{parent_of, IsLargest, IsCanonical, has_cell, is_largest, canonical_list, IsLonger, IsRefused}
use Rattle.s2_cover.specs.declared.walk.CoverFault.{CoverFault}
use Rattle.s2_cover.specs.declared.walk.CoverFault.TheVariants.{TooManyCells, OutOfMemory}
use Rattle.s2_cover.proofs.Existence.{all_or_one}
use Rattle.s2_cover.proofs.Laid.{has_position, position_in}
use Rattle.s2_cover.proofs.Nesting.{place_of, parent_is}
use Rattle.s2_cover.proofs.RangeTests.{or_left, or_right}
use Rattle.s2_cover.proofs.Uniqueness.{contains_first, contains_later, contains_cases, same_canonical}

-- the numbers of a range, one after the other
listed : (first n p : ℕ) → first ≤ p → p < first + n → (d : ℕ)
    → get_or (range_with_len first n) (p - first) d
    ≡ p
listed first n p low high d = get_or-range_with_len first n (p - first) d (omega (arith, low, high))
    ∙ omega (arith, low)

pub rises : (first n : ℕ) → IsStrictlyIncreasing (range_with_len first n)
rises first n k below =
    let long : length (range_with_len first n) ≡ n = length-range_with_len first n in
    let here : get_or (range_with_len first n) k 0 ≡ first + k =
    get_or-range_with_len first n k 0 (omega (arith, below, long)) in
    let next : get_or (range_with_len first n) (k + 1) 0 ≡ first + (k + 1) =
    get_or-range_with_len first n (k + 1) 0 (omega (arith, below, long)) in
    omega (arith, here, next)

pub within : (n p : ℕ) → p < n → Contains (range_with_len 0 n) p
within n p below = (
  p,
  (let long : length (range_with_len 0 n) ≡ n = length-range_with_len 0 n
      in omega (arith, long, below)),
  get_or-range_with_len 0 n p p below ∙ omega arith,
)

-- what a filter keeps
kept_step : (test : ℕ → Bool) (x : ℕ) (rest : List ℕ) (z : ℕ) (b : Bool) → test x ≡ b
    → (Contains rest z → test z ≡ true) → Contains (cond b (x ∷ rest) rest) z → test z ≡ true
kept_step test x rest z true is below there = elim (contains_cases x z rest there) [
  | inl same ↦ ap test (sym same) ∙ is
  | inr later ↦ below later
]
kept_step test x rest z false is below there = below there

pub passes : (test : ℕ → Bool) (xs : List ℕ) (z : ℕ) → Contains (filter test xs) z → test z ≡ true
passes test [] z there = absurd (omega (arith, there.1))
passes test (x ∷ xs) z there = kept_step test x (filter test xs) z (test x) refl (passes test xs z)
    there

keep_step : (test : ℕ → Bool) (x : ℕ) (rest : List ℕ) (z : ℕ) (b : Bool) → test x ≡ b → test z ≡ true
    → (x ≡ z) ⊎ Contains rest z → Contains (cond b (x ∷ rest) rest) z
keep_step test x rest z true is has (inl same) =
    subst (Contains (x ∷ rest)) same (contains_first x rest)
keep_step test x rest z true is has (inr later) = contains_later x z rest later
keep_step test x rest z false is has (inl same) = absurd (both_ways (test x) is (ap test same ∙ has))
keep_step test x rest z false is has (inr later) = later

or_later : (x z : ℕ) (xs rest : List ℕ) → (Contains xs z → Contains rest z) → Contains (x ∷ xs) z
    → (x ≡ z) ⊎ Contains rest z
or_later x z xs rest on there = elim (contains_cases x z xs there) [
  | inl same ↦ inl same
  | inr later ↦ inr (on later)
]

pub keeps : (test : ℕ → Bool) (xs : List ℕ) (z : ℕ) → test z ≡ true → Contains xs z
    → Contains (filter test xs) z
keeps test [] z has there = absurd (omega (arith, there.1))
keeps test (x ∷ xs) z has there =
    keep_step test x (filter test xs) z (test x) refl has
    (or_later x z xs (filter test xs) (keeps test xs z has) there)

-- the test of a cell's leaves
all_listed : (set : ℕ → Bool) (first n : ℕ) → ((p : ℕ) → first ≤ p → p < first + n → set p ≡ true)
    → list_all set (range_with_len first n) ≡ true
all_listed set first n all =
    list_all-from_AllPass set (range_with_len first n) (λ k d below.
    let long : length (range_with_len first n) ≡ n = length-range_with_len first n in
    let at : get_or (range_with_len first n) k d ≡ first + k =
    get_or-range_with_len first n k d (omega (arith, below, long)) in
    ap set at ∙ all (first + k) (omega arith) (omega (arith, below, long)))

each_listed : (set : ℕ → Bool) (first n p : ℕ) → list_all set (range_with_len first n) ≡ true
    → first ≤ p
    → p < first + n → set p ≡ true
each_listed set first n p all low high =
    let long : length (range_with_len first n) ≡ n = length-range_with_len first n in
    let each = AllPass-from_list_all set (range_with_len first n) all in
    ap set (sym (listed first n p low high p)) ∙ each (p - first) p (omega (arith, long, low, high))

has_all : (set : ℕ → Bool) (id : ℕ) → IsCellId id → has_cell set id ≡ true
    → (p : ℕ) → IsTrue (cell_has id p) → IsTrue (set p)
unfolding has_cell
has_all set id valid all p there =
    let range = position_in id p valid there in
    each_listed set (first_leaf id) (last_leaf id + 1 - first_leaf id) p all range.0
    (omega (arith, range, ends_below id valid))

has_when_all : (set : ℕ → Bool) (id : ℕ) → IsCellId id
    → ((p : ℕ) → IsTrue (cell_has id p) → IsTrue (set p))
    → has_cell set id ≡ true
unfolding has_cell
has_when_all set id valid all =
    all_listed set (first_leaf id) (last_leaf id + 1 - first_leaf id) (λ p low high.
    all p (has_position id p valid low (omega (arith, high, ends_below id valid))))

-- a cell that fails it has a leaf outside the set
has_not : (set : ℕ → Bool) (id : ℕ) → IsCellId id → has_cell set id ≡ false
    → (p : ℕ) × (IsTrue (cell_has id p) × (set p ≡ false))
has_not set id valid fails =
    let ends = ends_below id valid in
    elim (all_or_one set (first_leaf id) (last_leaf id - first_leaf id)) [
      | inl all ↦
          let has = has_when_all set id valid (λ p there.
          let range = position_in id p valid there in
          all p range.0 (omega (arith, range, ends))) in
          absurd (both_ways (has_cell set id) fails has)
      | inr some ↦ (
        some.number,
        (
          has_position id some.number valid some.low (omega (arith, some.high, ends)),
          some.is,
        ),
      )
    ]

-- the level of a cell with a larger one round it
above : (id : ℕ) → IsCellId id → (level_of id == 0) ≡ false → lowest_place id < 60
above id valid fails = let place = place_of id valid in grind (arith, nat_tests)

whole : (id : ℕ) → (level_of id == 0) ≡ true → level_of id ≡ 0
whole id holds = grind (arith, nat_tests)

whole_test : (id : ℕ) → level_of id ≡ 0 → (level_of id == 0) ≡ true
whole_test id is = grind (arith, nat_tests)

not_true : (b : Bool) → not b ≡ true → b ≡ false
not_true true e = cc
not_true false e = refl

not_false : (b : Bool) → b ≡ false → not b ≡ true
not_false b e = ap not e

largest_if : (set : ℕ → Bool) (id : ℕ) → is_largest set id ≡ true → IsLargest set id
unfolding is_largest
largest_if set id test =
    let parts = and_parts (is_cell_id id) _ test in
    let more = and_parts (has_cell set id) _ parts.1 in
    record {
      valid = parts.0;
      inside = has_all set id parts.0 more.0;
      outside = elim (cases_Bool (level_of id == 0)) [
        | inl holds ↦ inl (whole id holds)
        | inr fails ↦
            let parent = parent_is id parts.0 (above id parts.0 fails) in
            let outer : not (has_cell set (parent_of id)) ≡ true =
            sym (ap (λ b. b || not (has_cell set (parent_of id))) fails) ∙ more.1 in
            inr (has_not set (parent_of id) parent.valid (not_true _ outer))
      ];
    }

-- a cell whose parent has a leaf outside the set
opened_test : (set : ℕ → Bool) (id : ℕ) → IsCellId id
    → (level_of id ≡ 0) ⊎ ((p : ℕ) × (IsTrue (cell_has (parent_of id) p) × (set p ≡ false)))
    → (level_of id == 0 || not (has_cell set (parent_of id))) ≡ true
opened_test set id valid (inl is) = or_left _ _ (whole_test id is)
opened_test set id valid (inr (p, (there, out))) = elim (cases_Bool (level_of id == 0)) [
  | inl holds ↦ or_left _ _ holds
  | inr fails ↦
      let parent = parent_is id valid (above id valid fails) in
      elim (cases_Bool (has_cell set (parent_of id))) [
        | inl has ↦ absurd (both_ways (set p) out (has_all set (parent_of id) parent.valid has p there))
        | inr lacks ↦ or_right _ _ (not_false _ lacks)
      ]
]

if_largest : (set : ℕ → Bool) (id : ℕ) → IsLargest set id → is_largest set id ≡ true
unfolding is_largest
if_largest set id largest =
    and_from _ _ largest.valid (and_from _ _ (has_when_all set id largest.valid largest.inside)
    (opened_test set id largest.valid largest.outside))

filtered : (set : ℕ → Bool) (n : ℕ) → ((id : ℕ) → IsLargest set id → id < n)
    → IsCanonical set (filter (is_largest set) (range_with_len 0 n))
filtered set n below = record {
  ascending = IsStrictlyIncreasing-filter (is_largest set) (range_with_len 0 n) (rises 0 n);
  members = λ id. (
    λ there. largest_if set id (passes (is_largest set) (range_with_len 0 n) id there),
    λ largest. keeps (is_largest set) (range_with_len 0 n) id (if_largest set id largest)
        (within n id (below id largest)),
  );
}

pub list_is : (set : ℕ → Bool) → IsCanonical set (canonical_list set)
unfolding canonical_list
list_is set = filtered set (2 ^ 64) (λ id largest. (id_between id largest.valid).1)

pub same_list : (set : ℕ → Bool) (ids : List ℕ) → IsCanonical set ids → ids ≡ canonical_list set
same_list set ids canonical = same_canonical set ids (canonical_list set) canonical (list_is set)

pub longer : (set : ℕ → Bool) (limit : ℕ) (fault : CoverFault) → IsRefused set limit fault
    → IsLonger set limit fault
longer set limit (TooManyCells looked) refused =
    subst (λ ids. limit < length ids) (same_list set refused.1.0 refused.1.1.0) refused.1.1.1
longer set limit OutOfMemory refused = tt
