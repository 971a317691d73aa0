-- The spans of ranges, one after another.
use Rattle.std.proofs.Common.{◌≡◌, ℕ, ◌+◌, ◌<◌, ◌≤◌, zero, suc, Bool, false, List, length, get_or, sym, ◌∙◌, ap, subst, arith, inl, inr}
use Rattle.std.specs.Prelude.{IsTrue}
use Rattle.std.specs.Int.{IsInRange}
use Rattle.std.proofs.lemmas.Bool.{cases_lt, cases_Bool}
use Rattle.std.proofs.lemmas.Bool.Decides.{nat_tests}
use Rattle.std.proofs.lemmas.List.Folds.{list_any_at, Any-from_list_any}
use Rattle.std.proofs.lemmas.List.{get_or_default}
use Rattle.s2_cover.specs.Covers.{IsSpan, IsRanges, span_has, IsLongestRun, IsLaid}
use Rattle.s2_cover.specs.declared.spans.Span.{Span}
use Rattle.s2_cover.proofs.Laid.{laid_upto}

-- the span at a place of a list
abbrev pub span_at : List Span → ℕ → Span
span_at spans i = get_or spans i (record { first = 0; last = 0 })

-- where the first spans end: the position after the last of them
abbrev pub end_of : List Span → ℕ → ℕ
end_of spans zero = 0
end_of spans (suc i) = (span_at spans i).last + 1

in_span : (span : Span) (p : ℕ) → IsTrue (span_has span p) → IsInRange span.first span.last p
in_span span p has = (grind (arith, nat_tests), grind (arith, nat_tests))

-- which span a position of the set lies in
record LiesAt (spans : List Span) (p : ℕ) : Type 0 where
  place : ℕ
  within : place < length spans
  range : IsInRange (span_at spans place).first (span_at spans place).last p

lies_at : (set : ℕ → Bool) (spans : List Span) (p : ℕ) → IsRanges set spans → IsTrue (set p)
    → LiesAt spans p
lies_at set spans p ranges has =
    let any =
    Any-from_list_any (λ span. span_has span p) spans (ranges.positions p ∙ has) in
    let same : span_at spans any.0 ≡ any.1 =
    get_or_default spans any.0 (record { first = 0; last = 0 }) any.1 any.2 ∙ any.3 in
    record {
      place = any.0;
      within = any.2;
      range = subst (λ span. IsInRange span.first span.last p) (sym same) (in_span any.1 p any.4);
    }

-- a position that lies in no span is not in the set
not_lying : (set : ℕ → Bool) (spans : List Span) (p : ℕ) → IsRanges set spans
    → (LiesAt spans p → ⊥) → set p ≡ false
not_lying set spans p ranges never = elim (cases_Bool (set p)) [
  | inl has ↦ absurd (never (lies_at set spans p ranges has))
  | inr not ↦ not
]

span_is : (set : ℕ → Bool) (spans : List Span) (i : ℕ) → IsRanges set spans → i < length spans
    → IsSpan (span_at spans i)
span_is set spans i ranges there = ranges.each i (record { first = 0; last = 0 }) there

apart_at : (set : ℕ → Bool) (spans : List Span) (i j : ℕ) → IsRanges set spans → i < j
    → j < length spans → (span_at spans i).last + 1 < (span_at spans j).first
apart_at set spans i j ranges = ranges.apart i j (record { first = 0; last = 0 })

-- each of the first spans ends before their end
ended : (set : ℕ → Bool) (spans : List Span) (i k : ℕ) → IsRanges set spans → k < i
    → i ≤ length spans → (span_at spans k).last < end_of spans i
ended set spans zero k ranges less within = absurd (omega (arith, less))
ended set spans (suc i) k ranges less within = elim (cases_lt k i) [
  | inl before ↦
      let there : i < length spans = omega (arith, within) in
      omega (arith, apart_at set spans k i ranges before there, span_is set spans i ranges there)
  | inr last ↦
      let same : k ≡ i = omega (arith, less, last) in
      let ends : (span_at spans k).last ≡ (span_at spans i).last =
      ap (λ j. (span_at spans j).last) same in omega (arith, ends)
]

-- no position lies between a span and those before it
between_spans : (set : ℕ → Bool) (spans : List Span) (i p : ℕ) → IsRanges set spans
    → i < length spans → end_of spans i ≤ p → p < (span_at spans i).first → set p ≡ false
between_spans set spans i p ranges there low high = not_lying set spans p ranges (λ lies.
    elim (cases_lt lies.place i) [
      | inl before ↦
          omega (
            arith,
            ended set spans i lies.place ranges before (omega (arith, there)),
            lies.range,
            low,
          )
      | inr not_before ↦ elim (cases_lt i lies.place) [
        | inl after ↦
            omega (
              arith,
              apart_at set spans i lies.place ranges after lies.within,
              span_is set spans i ranges there,
              lies.range,
              high,
            )
        | inr not_after ↦
            let same : lies.place ≡ i = omega (arith, not_before, not_after) in
            let first : (span_at spans lies.place).first ≡ (span_at spans i).first =
            ap (λ j. (span_at spans j).first) same in omega (arith, first, lies.range, high)
      ]
    ])

-- the spans before a span end before the position before its first
ends_below : (set : ℕ → Bool) (spans : List Span) (i p : ℕ) → IsRanges set spans
    → i < length spans → p + 1 ≡ (span_at spans i).first → end_of spans i ≤ p
ends_below set spans zero p ranges there next = omega arith
ends_below set spans (suc i) p ranges there next =
    omega (arith, apart_at set spans i (suc i) ranges (omega arith) there, next)

reaches : (set : ℕ → Bool) (spans : List Span) (i : ℕ) → IsRanges set spans → i < length spans
    → end_of spans i ≤ (span_at spans i).first
reaches set spans zero ranges there = omega arith
reaches set spans (suc i) ranges there =
    omega (arith, apart_at set spans i (suc i) ranges (omega arith) there)

-- each span is a longest run
pub run_at : (set : ℕ → Bool) (spans : List Span) (i : ℕ) → IsRanges set spans → i < length spans
    → IsLongestRun set (span_at spans i)
run_at set spans i ranges there =
    let is = span_is set spans i ranges there in
    record {
      is = is;
      inside = λ p has.
          sym (ranges.positions p)
          ∙ list_any_at (λ span. span_has span p) spans i (record { first = 0; last = 0 }) there has;
      before = λ p next.
          between_spans set spans i p ranges there (ends_below set spans i p ranges there next)
          (omega (arith, next));
      after = not_lying set spans ((span_at spans i).last + 1) ranges (λ lies.
          elim (cases_lt lies.place i) [
            | inl before ↦
                omega (arith, apart_at set spans lies.place i ranges before there, is, lies.range)
            | inr not_before ↦ elim (cases_lt i lies.place) [
              | inl after ↦
                  omega (arith, apart_at set spans i lies.place ranges after lies.within, lies.range)
              | inr not_after ↦
                  let same : lies.place ≡ i = omega (arith, not_before, not_after) in
                  let last : (span_at spans lies.place).last ≡ (span_at spans i).last =
                  ap (λ j. (span_at spans j).last) same in omega (arith, last, lies.range)
            ]
          ]);
    }

-- what is laid up to the end of the spans before a span is laid up to its first position
pub laid_before : (set : ℕ → Bool) (spans : List Span) (ids : List ℕ) (i : ℕ) → IsRanges set spans
    → i < length spans → IsLaid set ids (end_of spans i) → IsLaid set ids (span_at spans i).first
laid_before set spans ids i ranges there laid =
    laid_upto set ids (end_of spans i) (span_at spans i).first laid
    (reaches set spans i ranges there)
    (λ p low high. between_spans set spans i p ranges there low high)

-- all positions lie before the end of all spans
pub all_below : (set : ℕ → Bool) (spans : List Span) (p : ℕ) → IsRanges set spans
    → IsTrue (set p) → p < end_of spans (length spans)
all_below set spans p ranges has =
    let lies = lies_at set spans p ranges has in
    omega (
      arith,
      ended set spans (length spans) lies.place ranges lies.within (omega arith),
      lies.range,
    )
