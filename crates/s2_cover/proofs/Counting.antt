-- The ranges of a set are counted by the positions that begin one.
use Rattle.std.proofs.Common.{◌≡◌, ℕ, ◌-◌, ◌*◌, ◌^◌, ◌<◌, ◌≤◌, Bool, true, false, List, length, get_or, map, sym, ◌∙◌, ap, subst, arith, inl, inr}
use Rattle.std.specs.Prelude.{IsTrue, Contains, AllPairs, not, ◌==◌, ◌↔◌}
use Rattle.std.specs.List.{filter, range_with_len}
use Rattle.std.proofs.lemmas.Bool.{and_parts, and_from, or_cases, cases_Bool, cases_lt, both_ways}
use Rattle.std.proofs.lemmas.Bool.Decides.{nat_tests}
use Rattle.std.proofs.lemmas.List.{length-map, get_or-map, get_or_default}
use Rattle.std.proofs.lemmas.List.Elements.{All-get_or}
use Rattle.std.proofs.lemmas.List.Folds.{Any-from_list_any, list_any_at}
use Rattle.std.proofs.lemmas.List.Kept.{AllPairs-from_increasing, IsStrictlyIncreasing-filter}
use Rattle.s2_cellid.specs.Cell.{first_leaf_id, last_leaf_id, leaf_id_at, cell_has}
use Rattle.s2_cover.specs.Covers.{leaves_of, IsSpan, IsRanges, span_has, spans_have, begins_range, range_count}
use Rattle.s2_cover.specs.declared.spans.Span.{Span}
use Rattle.s2_cover.proofs.Listing.{rises, within, passes, keeps}
use Rattle.s2_cover.proofs.Pigeons.{no_longer}
use Rattle.s2_cover.proofs.RangeTests.{in_range, of_range, or_left, or_right}
use Rattle.s2_cover.proofs.Uniqueness.{same_ascending}

origin : Span
origin = record { first = 0; last = 0 }

abbrev span_at : List Span → ℕ → Span
span_at spans k = get_or spans k origin

abbrev firsts : List Span → List ℕ
firsts spans = map (λ s. s.first) spans

first_at : (spans : List Span) (k : ℕ) → k < length spans → (d : ℕ)
    → get_or (firsts spans) k d ≡ (span_at spans k).first
first_at spans k below d = get_or-map (λ s. s.first) spans k origin d below

-- the span of a list that has a position
record IsIn (spans : List Span) (p : ℕ) : Type 0 where
  place : ℕ
  below : place < length spans
  low : (span_at spans place).first ≤ p
  high : p ≤ (span_at spans place).last

in_one : (spans : List Span) (p : ℕ) → spans_have spans p ≡ true → IsIn spans p
in_one spans p has =
    let any = Any-from_list_any (λ s. span_has s p) spans has in
    let is : span_at spans any.0 ≡ any.1 = get_or_default spans any.0 origin any.1 any.2 ∙ any.3 in
    let range = in_range any.1.first any.1.last p any.4 in
    record {
      place = any.0;
      below = any.2;
      low = subst (λ s. s.first ≤ p) (sym is) range.0;
      high = subst (λ s. p ≤ s.last) (sym is) range.1;
    }

of_one : (spans : List Span) (k p : ℕ) → k < length spans → (span_at spans k).first ≤ p
    → p ≤ (span_at spans k).last → spans_have spans p ≡ true
of_one spans k p below low high =
    list_any_at (λ s. span_has s p) spans k origin below
    (of_range (span_at spans k).first (span_at spans k).last p low high)

not_where : (b : Bool) → b ≡ false → not b ≡ true
not_where b e = ap not e

-- a position with none of the set before it begins a range
begins : (set : ℕ → Bool) (p : ℕ) → set p ≡ true → (0 < p → set (p - 1) ≡ false)
    → begins_range set p ≡ true
begins set p has before = and_from (set p) _ has (elim (cases_Bool (p == 0)) [
  | inl zero ↦ or_left _ _ zero
  | inr more ↦ or_right _ _ (not_where _ (before (grind (arith, nat_tests))))
])

not_true : (b : Bool) → not b ≡ true → b ≡ false
not_true b e = elim (cases_Bool b) [
  | inl holds ↦ absurd (both_ways (not b) (ap not holds) e)
  | inr fails ↦ fails
]

-- and has none of it before it
none_before : (set : ℕ → Bool) (p : ℕ) → begins_range set p ≡ true → 0 < p → set (p - 1) ≡ false
none_before set p is more =
    elim (or_cases (p == 0) (not (set (p - 1))) (and_parts (set p) _ is).1) [
      | inl zero ↦ absurd (grind (arith, nat_tests))
      | inr lacks ↦ not_true _ lacks
    ]

module _ (set : ℕ → Bool) (spans : List Span) (ranges : IsRanges set spans) where
  is_span : (k : ℕ) → k < length spans → IsSpan (span_at spans k)
  is_span k below = All-get_or IsSpan spans k origin below ranges.each

  -- the first position of a span begins a range
  first_begins : (k : ℕ) → k < length spans → begins_range set (span_at spans k).first ≡ true
  first_begins k below =
      let p = (span_at spans k).first in
      let has : set p ≡ true =
      sym (ranges.positions p) ∙ of_one spans k p below (omega arith) (is_span k below).ordered in
      begins set p has (λ more. elim (cases_Bool (set (p - 1))) [
        | inr lacks ↦ lacks
        | inl has_too ↦
            let other = in_one spans (p - 1) (ranges.positions (p - 1) ∙ has_too) in
            elim (cases_lt other.place k) [
              | inl earlier ↦
                  let gap = ranges.apart other.place k origin earlier below in
                  absurd (omega (arith, gap, other.high, more))
              | inr at_least ↦ elim (cases_lt k other.place) [
                | inl later ↦
                    let gap = ranges.apart k other.place origin later other.below in
                    absurd (omega (arith, gap, other.low, (is_span k below).ordered))
                | inr at_most ↦
                    let same : other.place ≡ k = omega (arith, at_least, at_most) in
                    let low : (span_at spans k).first ≤ p - 1 =
                    subst (λ n. (span_at spans n).first ≤ p - 1) same other.low in
                    absurd (omega (arith, low, more))
              ]
            ]
      ])

  -- a position that begins a range is the first of a span
  begins_first : (p : ℕ) → begins_range set p ≡ true → Contains (firsts spans) p
  begins_first p is =
      let one = in_one spans p (ranges.positions p ∙ (and_parts (set p) _ is).0) in
      elim (cases_lt (span_at spans one.place).first p) [
        | inr at_most ↦
            let same : (span_at spans one.place).first ≡ p = omega (arith, at_most, one.low) in (
              one.place,
              subst (λ n. one.place < n) (sym (length-map spans (λ s. s.first))) one.below,
              first_at spans one.place one.below p ∙ same,
            )
        | inl less ↦
            let here : set (p - 1) ≡ true =
            sym (ranges.positions (p - 1))
            ∙ of_one spans one.place (p - 1) one.below (omega (arith, less))
            (omega (arith, less, one.high)) in
            absurd (both_ways (set (p - 1)) (none_before set p is (omega (arith, less))) here)
      ]

  ascend : AllPairs ◌<◌ (firsts spans)
  ascend i j d less below =
      let within : j < length spans = subst (λ n. j < n) (length-map spans (λ s. s.first)) below in
      let gap = ranges.apart i j origin less within in
      let here = first_at spans i (omega (arith, less, within)) d in
      let there = first_at spans j within d in
      omega (arith, gap, here, there, (is_span i (omega (arith, less, within))).ordered)

  same_members : (n : ℕ) → ((p : ℕ) → p < 6 * 2 ^ 60 → p < n) → (p : ℕ)
      → Contains (firsts spans) p ↔ Contains (filter (begins_range set) (range_with_len 0 n)) p
  same_members n enough p = (
    λ there.
        let below : there.0 < length spans =
        subst (λ k. there.0 < k) (length-map spans (λ s. s.first)) there.1 in
        let is : (span_at spans there.0).first ≡ p =
        sym (first_at spans there.0 below p) ∙ there.2 in
        let span = is_span there.0 below in
        keeps (begins_range set) (range_with_len 0 n) p
        (subst (λ q. begins_range set q ≡ true) is (first_begins there.0 below))
        (within n p (enough p (omega (arith, is, span.ordered, span.below)))),
    λ there. begins_first p (passes (begins_range set) (range_with_len 0 n) p there),
  )

  counted_below : (n : ℕ) → ((p : ℕ) → p < 6 * 2 ^ 60 → p < n)
      → length spans ≡ length (filter (begins_range set) (range_with_len 0 n))
  counted_below n enough =
      let begun = filter (begins_range set) (range_with_len 0 n) in
      sym (length-map spans (λ s. s.first))
      ∙ ap length (same_ascending (firsts spans) begun ascend
      (AllPairs-from_increasing begun
      (IsStrictlyIncreasing-filter (begins_range set) (range_with_len 0 n) (rises 0 n)))
      (same_members n enough))

pub counted : (set : ℕ → Bool) (spans : List Span) → IsRanges set spans
    → length spans ≡ range_count set
unfolding range_count
counted set spans ranges = counted_below set spans ranges (6 * 2 ^ 60) (λ p below. below)

-- the position before one that begins a range isn't in the range of a cell of the set
one_begins : (set : ℕ → Bool) (ids : List ℕ) (id a b : ℕ) → ((p : ℕ) → leaves_of ids p ≡ set p)
    → Contains ids id → begins_range set b ≡ true → IsTrue (cell_has id a) → IsTrue (cell_has id b)
    → b ≤ a
one_begins set ids id a b same there is has_a has_b = elim (cases_lt a b) [
  | inr at_most ↦ at_most
  | inl less ↦
      let low = in_range (first_leaf_id id) (last_leaf_id id) (leaf_id_at a) has_a in
      let high = in_range (first_leaf_id id) (last_leaf_id id) (leaf_id_at b) has_b in
      let between : cell_has id (b - 1) ≡ true =
      of_range (first_leaf_id id) (last_leaf_id id) (leaf_id_at (b - 1)) (omega (arith, low.0, less))
      (omega (arith, high.1, less)) in
      let here : set (b - 1) ≡ true =
      sym (same (b - 1))
      ∙ list_any_at (λ x. cell_has x (b - 1)) ids there.0 id there.1
      (ap (λ x. cell_has x (b - 1)) there.2 ∙ between) in
      absurd (both_ways (set (b - 1)) (none_before set b is (omega (arith, less))) here)
]

pub few : (set : ℕ → Bool) (ids : List ℕ) → ((p : ℕ) → leaves_of ids p ≡ set p)
    → range_count set ≤ length ids
unfolding range_count
few set ids same =
    let begun = filter (begins_range set) (range_with_len 0 (6 * 2 ^ 60)) in
    let test = passes (begins_range set) (range_with_len 0 (6 * 2 ^ 60)) in
    no_longer (λ p id. Contains ids id × IsTrue (cell_has id p)) begun ids
    (AllPairs-from_increasing begun
    (IsStrictlyIncreasing-filter (begins_range set) (range_with_len 0 (6 * 2 ^ 60))
    (rises 0 (6 * 2 ^ 60))))
    (λ p there.
    let any =
    Any-from_list_any (λ id. cell_has id p) ids (same p ∙ (and_parts (set p) _ (test p there)).0) in
    let has : Contains ids any.1 = (any.0, any.2, any.3) in
    (any.1, (has, (has, any.4))))
    (λ a b id there_a there_b one two.
    omega (
      arith,
      one_begins set ids id a b same one.0 (test b there_b) one.1 two.1,
      one_begins set ids id b a same one.0 (test a there_a) two.1 one.1,
    ))
