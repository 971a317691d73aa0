-- A set of leaves has one canonical list and one list of ranges.
use Rattle.std.proofs.Common.{◌≡◌, ℕ, ◌+◌, ◌<◌, ◌≤◌, zero, suc, Bool, true, List, [], ◌∷◌, get_or, refl, sym, ◌∙◌, ap, arith, inl, inr, ◌⊎◌}
use Rattle.std.specs.Prelude.{Contains, AllPairs, ◌↔◌}
use Rattle.std.specs.Int.{IsInRange}
use Rattle.std.proofs.lemmas.Bool.{cases_lt, or_cases, both_ways}
use Rattle.std.proofs.lemmas.List.Elements.{All-head, All-tail}
use Rattle.std.proofs.lemmas.List.Folds.{Any-from_list_any}
use Rattle.std.proofs.lemmas.List.Kept.{AllPairs-from_increasing}
use Rattle.s2_cover.specs.Covers.{IsCanonical, IsSpan, IsApart, IsRanges, span_has, spans_have}
use Rattle.s2_cover.specs.declared.spans.Span.{Span}
use Rattle.s2_cover.proofs.RangeTests.{in_range, of_range, or_left, or_right, same_test}

pub contains_first : (x : ℕ) (xs : List ℕ) → Contains (x ∷ xs) x
contains_first x xs = (0, omega arith, refl)

pub contains_later : (x z : ℕ) (xs : List ℕ) → Contains xs z → Contains (x ∷ xs) z
contains_later x z xs there = (suc there.0, omega (arith, there.1), there.2)

pub contains_cases : (x z : ℕ) (xs : List ℕ) → Contains (x ∷ xs) z → (x ≡ z) ⊎ Contains xs z
contains_cases x z xs (zero, below, is) = inl is
contains_cases x z xs (suc k, below, is) = inr (k, omega (arith, below), is)

pub pairs_tail : {X : Type 0} (R : X → X → Type 0) (x : X) (xs : List X) → AllPairs R (x ∷ xs)
    → AllPairs R xs
pairs_tail R x xs pairs = λ i j d less below.
    pairs (suc i) (suc j) d (omega (arith, less)) (omega (arith, below))

pub above_first : (x z : ℕ) (xs : List ℕ) → AllPairs ◌<◌ (x ∷ xs) → Contains xs z → x < z
above_first x z xs pairs there =
    let less = pairs 0 (suc there.0) z (omega arith) (omega (arith, there.1)) in
    omega (arith, less, there.2)

-- the first of two ascending lists with the same elements
same_first : (x y : ℕ) (xs ys : List ℕ) → AllPairs ◌<◌ (x ∷ xs) → AllPairs ◌<◌ (y ∷ ys)
    → ((z : ℕ) → Contains (x ∷ xs) z ↔ Contains (y ∷ ys) z) → x ≡ y
same_first x y xs ys up_x up_y same =
    elim (contains_cases y x ys ((same x).0 (contains_first x xs))) [
      | inl is ↦ sym is
      | inr later ↦ elim (contains_cases x y xs ((same y).1 (contains_first y ys))) [
        | inl is ↦ is
        | inr later_too ↦
            absurd (omega (arith, above_first y x ys up_y later, above_first x y xs up_x later_too))
      ]
    ]

rest_within : (x y z : ℕ) (xs ys : List ℕ) → x ≡ y → AllPairs ◌<◌ (x ∷ xs)
    → (Contains (x ∷ xs) z → Contains (y ∷ ys) z) → Contains xs z → Contains ys z
rest_within x y z xs ys is up within there =
    elim (contains_cases y z ys (within (contains_later x z xs there))) [
      | inl same ↦ absurd (omega (arith, above_first x z xs up there, is, same))
      | inr later ↦ later
    ]

-- ascending lists with the same elements are equal
pub same_ascending : (xs ys : List ℕ) → AllPairs ◌<◌ xs → AllPairs ◌<◌ ys
    → ((z : ℕ) → Contains xs z ↔ Contains ys z) → xs ≡ ys
same_ascending [] [] up_x up_y same = refl
same_ascending [] (y ∷ ys) up_x up_y same =
    let none = (same y).1 (contains_first y ys) in absurd (omega (arith, none.1))
same_ascending (x ∷ xs) [] up_x up_y same =
    let none = (same x).0 (contains_first x xs) in absurd (omega (arith, none.1))
same_ascending (x ∷ xs) (y ∷ ys) up_x up_y same =
    let first : x ≡ y = same_first x y xs ys up_x up_y same in
    let rest : xs ≡ ys =
    same_ascending xs ys (pairs_tail ◌<◌ x xs up_x) (pairs_tail ◌<◌ y ys up_y) (λ z. (
      rest_within x y z xs ys first up_x (same z).0,
      rest_within y x z ys xs (sym first) up_y (same z).1,
    )) in
    cc

pub same_canonical : (set : ℕ → Bool) (one other : List ℕ) → IsCanonical set one
    → IsCanonical set other → one ≡ other
same_canonical set one other canonical_one canonical_other =
    same_ascending one other (AllPairs-from_increasing one canonical_one.ascending)
    (AllPairs-from_increasing other canonical_other.ascending) (λ id. (
      λ there. (canonical_other.members id).1 ((canonical_one.members id).0 there),
      λ there. (canonical_one.members id).1 ((canonical_other.members id).0 there),
    ))

has_first : (set : ℕ → Bool) (x : Span) (xs : List Span) → IsRanges set (x ∷ xs)
    → set x.first ≡ true
has_first set x xs ranges =
    let is = All-head IsSpan x xs ranges.each in
    sym (ranges.positions x.first)
    ∙ or_left (span_has x x.first) (spans_have xs x.first)
    (of_range x.first x.last x.first (omega arith) is.ordered)

-- the spans after the first begin after it, and after one more position
after_first : (set : ℕ → Bool) (x : Span) (xs : List Span) (p : ℕ) → IsRanges set (x ∷ xs)
    → spans_have xs p ≡ true → x.last + 1 < p
after_first set x xs p ranges has =
    let any = Any-from_list_any (λ span. span_has span p) xs has in
    let span = any.1 in
    let gap = ranges.apart 0 (suc any.0) span (omega arith) (omega (arith, any.2)) in
    let first : (get_or xs any.0 span).first ≡ span.first = ap (λ s. s.first) any.3 in
    let range = in_range span.first span.last p any.4 in omega (arith, gap, first, range)

first_or_later : (set : ℕ → Bool) (x : Span) (xs : List Span) (p : ℕ) → IsRanges set (x ∷ xs)
    → set p ≡ true → IsInRange x.first x.last p ⊎ (spans_have xs p ≡ true)
first_or_later set x xs p ranges has =
    elim (or_cases (span_has x p) (spans_have xs p) (ranges.positions p ∙ has)) [
      | inl here ↦ inl (in_range x.first x.last p here)
      | inr later ↦ inr later
    ]

begins_first : (set : ℕ → Bool) (x y : Span) (xs ys : List Span) → IsRanges set (x ∷ xs)
    → IsRanges set (y ∷ ys) → x.first ≤ y.first
begins_first set x y xs ys ranges_x ranges_y =
    let is = All-head IsSpan x xs ranges_x.each in
    elim (first_or_later set x xs y.first ranges_x (has_first set y ys ranges_y)) [
      | inl range ↦ range.0
      | inr later ↦ omega (arith, after_first set x xs y.first ranges_x later, is)
    ]

ends_last : (set : ℕ → Bool) (x y : Span) (xs ys : List Span) → IsRanges set (x ∷ xs)
    → IsRanges set (y ∷ ys) → x.first ≡ y.first → x.last ≤ y.last
ends_last set x y xs ys ranges_x ranges_y same = elim (cases_lt y.last x.last) [
  | inr within ↦ within
  | inl beyond ↦
      let is = All-head IsSpan y ys ranges_y.each in
      let p = y.last + 1 in
      let has : set p ≡ true =
      sym (ranges_x.positions p)
      ∙ or_left (span_has x p) (spans_have xs p)
      (of_range x.first x.last p (omega (arith, same, is)) (omega (arith, beyond))) in
      elim (first_or_later set y ys p ranges_y has) [
        | inl range ↦ absurd (omega (arith, range))
        | inr later ↦ absurd (omega (arith, after_first set y ys p ranges_y later))
      ]
]

rest_has : (set : ℕ → Bool) (x y : Span) (xs ys : List Span) (p : ℕ) → IsRanges set (x ∷ xs)
    → IsRanges set (y ∷ ys) → x.last ≡ y.last → spans_have xs p ≡ true → spans_have ys p ≡ true
rest_has set x y xs ys p ranges_x ranges_y same has =
    let in_set : set p ≡ true =
    sym (ranges_x.positions p) ∙ or_right (span_has x p) (spans_have xs p) has in
    elim (first_or_later set y ys p ranges_y in_set) [
      | inl range ↦ absurd (omega (arith, after_first set x xs p ranges_x has, range, same))
      | inr later ↦ later
    ]

same_span : (x y : Span) → x.first ≡ y.first → x.last ≡ y.last → x ≡ y
same_span x y first last =
    let span : ℕ → ℕ → Span = λ from upto. record { first = from; last = upto } in
    ap (λ from. span from x.last) first ∙ ap (λ upto. span y.first upto) last

rest_alone : (set : ℕ → Bool) (x : Span) (xs : List Span) (other : ℕ → Bool) → IsRanges set (x ∷ xs)
    → ((p : ℕ) → spans_have xs p ≡ other p) → IsRanges other xs
rest_alone set x xs other ranges same = record {
  each = All-tail IsSpan x xs ranges.each;
  apart = pairs_tail IsApart x xs ranges.apart;
  positions = same;
}

pub same_ranges : (set : ℕ → Bool) (one other : List Span) → IsRanges set one
    → IsRanges set other → one ≡ other
same_ranges set [] [] ranges_x ranges_y = refl
same_ranges set [] (y ∷ ys) ranges_x ranges_y =
    absurd (both_ways (set y.first) (sym (ranges_x.positions y.first)) (has_first set y ys ranges_y))
same_ranges set (x ∷ xs) [] ranges_x ranges_y =
    absurd (both_ways (set x.first) (sym (ranges_y.positions x.first)) (has_first set x xs ranges_x))
same_ranges set (x ∷ xs) (y ∷ ys) ranges_x ranges_y =
    let low = begins_first set x y xs ys ranges_x ranges_y in
    let high = begins_first set y x ys xs ranges_y ranges_x in
    let first : x.first ≡ y.first = omega (arith, low, high) in
    let most = ends_last set x y xs ys ranges_x ranges_y first in
    let least = ends_last set y x ys xs ranges_y ranges_x (sym first) in
    let last : x.last ≡ y.last = omega (arith, most, least) in
    let is : x ≡ y = same_span x y first last in
    let rest : xs ≡ ys =
    same_ranges (spans_have xs) xs ys (rest_alone set x xs (spans_have xs) ranges_x (λ p. refl))
    (rest_alone set y ys (spans_have xs) ranges_y (λ p.
    same_test (spans_have ys p) (spans_have xs p)
    (rest_has set y x ys xs p ranges_y ranges_x (sym last))
    (rest_has set x y xs ys p ranges_x ranges_y last))) in
    cc
