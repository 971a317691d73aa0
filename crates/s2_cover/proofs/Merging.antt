-- Spans that are joined and appended to ranges.
use Rattle.std.proofs.Common.{◌≡◌, ℕ, ◌+◌, ◌<◌, ◌≤◌, max, suc, Bool, true, false, List, [], ◌∷◌, ◌++◌, length, take, get_or, add-one, refl, sym, ◌∙◌, ap, subst, arith, inl, inr}
use Rattle.std.specs.Prelude.{Contains, All, AllPairs, ◌||◌}
use Rattle.std.specs.Int.{is_in_range}
use Rattle.std.specs.List.{list_any}
use Rattle.std.specs.List.Sorted.{IsPermutation, IsNonDecreasingBy}
use Rattle.std.proofs.Math.Bool.{or_assoc}
use Rattle.std.proofs.lemmas.Bool.{both_ways, cases_lt, or_cases}
use Rattle.std.proofs.lemmas.List.{get_or_default, take_all}
use Rattle.std.proofs.lemmas.List.Elements.{All-head, All-weaker, All-push}
use Rattle.std.proofs.lemmas.List.Quantifiers.{all_pairs_push}
use Rattle.std.proofs.lemmas.List.Folds.{list_any-append, list_any_more, Any-from_list_any, list_any_at}
use Rattle.std.proofs.lemmas.List.Sorted.{Contains-permutation, IsPermutation-sym}
use Rattle.s2_cellid.specs.Cell.{first_leaf, cell_has}
use Rattle.s2_cover.specs.Covers.{leaves_of, IsSpan, IsApart, IsRanges, span_has, spans_have}
use Rattle.s2_cover.specs.declared.spans.Span.{Span}
use Rattle.s2_cover.proofs.RangeTests.{same_test, in_range, of_range, or_left, or_right}

or_none : (b : Bool) → (b || false) ≡ b
or_none true = refl
or_none false = refl

-- one more span has its own positions and those before
pub spans_have-push : (spans : List Span) (span : Span) (p : ℕ)
    → spans_have (spans ++ span ∷ []) p ≡ (spans_have spans p || span_has span p)
spans_have-push spans span p =
    list_any-append (λ s. span_has s p) spans (span ∷ [])
    ∙ ap (λ b. spans_have spans p || b) (or_none (span_has span p))

-- ranges whose last span, which may still grow, is told apart
pub record EndsIn (set : ℕ → Bool) (spans : List Span) (current : Span) : Type 0 where
  pub each : All IsSpan spans
  pub apart : AllPairs IsApart spans
  pub is : IsSpan current
  pub before : All (λ span. IsApart span current) spans
  pub positions : (p : ℕ) → (spans_have spans p || span_has current p) ≡ set p

pub closed : (set : ℕ → Bool) (spans : List Span) (current : Span) → EndsIn set spans current
    → IsRanges set (spans ++ current ∷ [])
closed set spans current ends = record {
  each = All-push IsSpan spans current ends.each ends.is;
  apart = all_pairs_push IsApart spans current ends.apart ends.before;
  positions = λ p. spans_have-push spans current p ∙ ends.positions p;
}

-- a span that begins after the last one and does not touch it
pub opened : (set more : ℕ → Bool) (spans : List Span) (current span : Span)
    → EndsIn set spans current → IsSpan span → IsApart current span
    → ((p : ℕ) → more p ≡ (set p || span_has span p)) → EndsIn more (spans ++ current ∷ []) span
opened set more spans current span ends is apart adds =
    let ranges = closed set spans current ends in
    let further : (other : Span) → IsApart other current → IsApart other span =
    λ other before. omega (arith, before, ends.is, apart) in
    record {
      each = ranges.each;
      apart = ranges.apart;
      is = is;
      before =
          All-push (λ other. IsApart other span) spans current
          (All-weaker (λ other. IsApart other current) (λ other. IsApart other span) further spans
          ends.before) apart;
      positions = λ p. ap (λ b. b || span_has span p) (ranges.positions p) ∙ sym (adds p);
    }

-- two ranges that overlap or touch, as one
joined_range : (first upto middle last p : ℕ) → first ≤ middle → middle ≤ upto + 1
    → is_in_range first (max upto last) p ≡ (is_in_range first upto p || is_in_range middle last p)
joined_range first upto middle last p low near =
    same_test (is_in_range first (max upto last) p)
    (is_in_range first upto p || is_in_range middle last p)
    (λ combined_overlap.
    let range = in_range first (max upto last) p combined_overlap in
    elim (cases_lt upto p) [
      | inl beyond ↦
          or_right (is_in_range first upto p) (is_in_range middle last p)
          (of_range middle last p (omega (arith, near, beyond)) (omega (arith, range, beyond)))
      | inr within ↦
          or_left (is_in_range first upto p) (is_in_range middle last p)
          (of_range first upto p (omega (arith, range)) within)
    ])
    (λ either. elim (or_cases (is_in_range first upto p) (is_in_range middle last p) either) [
      | inl one ↦
          let range = in_range first upto p one in
          of_range first (max upto last) p (omega (arith, range)) (omega (arith, range))
      | inr other ↦
          let range = in_range middle last p other in
          of_range first (max upto last) p (omega (arith, range, low)) (omega (arith, range))
    ])

-- a span that begins in the last one, or touches it
pub joined : (set more : ℕ → Bool) (spans : List Span) (current span : Span)
    → EndsIn set spans current → IsSpan span → current.first ≤ span.first
    → span.first ≤ current.last + 1 → ((p : ℕ) → more p ≡ (set p || span_has span p))
    → EndsIn more spans (record { first = current.first; last = max current.last span.last })
joined set more spans current span ends is low near adds = record {
  each = ends.each;
  apart = ends.apart;
  is = record { ordered = omega (arith, ends.is); below = omega (arith, ends.is, is) };
  before = ends.before;
  positions = λ p.
      ap (λ b. spans_have spans p || b)
      (joined_range current.first current.last span.first span.last p low near)
      ∙ sym (or_assoc (spans_have spans p) (span_has current p) (span_has span p))
      ∙ ap (λ b. b || span_has span p) (ends.positions p) ∙ sym (adds p);
}

list_any_moved : (q : ℕ → Bool) (xs ys : List ℕ) → IsPermutation xs ys → list_any q xs ≡ true
    → list_any q ys ≡ true
list_any_moved q xs ys moved holds =
    let any = Any-from_list_any q xs holds in
    let there : Contains ys any.1 =
    Contains-permutation xs ys any.1 moved (any.0, any.2, any.3) in
    list_any_at q ys there.0 any.1 there.1 (ap q there.2 ∙ any.4)

-- the leaves of a list's cells, in any order
pub leaves_of-permutation : (ids other : List ℕ) (p : ℕ) → IsPermutation ids other
    → leaves_of other p ≡ leaves_of ids p
leaves_of-permutation ids other p moved =
    same_test (leaves_of other p) (leaves_of ids p)
    (list_any_moved (λ id. cell_has id p) other ids (IsPermutation-sym ids other moved))
    (list_any_moved (λ id. cell_has id p) ids other moved)

-- the ranges of the first cells of a list, and a last span that begins no later than the rest
pub record IsMerged (cells : List ℕ) (count : ℕ) (spans : List Span) (current : Span) : Type 0 where
  pub ends : EndsIn (leaves_of (take count cells)) spans current
  pub ahead :
      (k : ℕ) → count ≤ k → k < length cells → current.first ≤ first_leaf (get_or cells k 0)

-- a span with the leaves of a cell of a list
pub record IsSpanOf (cells : List ℕ) (place : ℕ) (span : Span) : Type 0 where
  pub there : place < length cells
  pub is : IsSpan span
  pub first : span.first ≡ first_leaf (get_or cells place 0)
  pub leaves : (p : ℕ) → span_has span p ≡ cell_has (get_or cells place 0) p

ahead_of : (cells : List ℕ) (place : ℕ) (span : Span) → IsNonDecreasingBy first_leaf cells
    → IsSpanOf cells place span → (k : ℕ) → place + 1 ≤ k → k < length cells
    → span.first ≤ first_leaf (get_or cells k 0)
ahead_of cells place span ascends of k later below =
    let ascending = ascends place k 0 (omega (arith, later)) below in omega (arith, ascending, of.first)

adds : (cells : List ℕ) (place : ℕ) (span : Span) → IsSpanOf cells place span → (p : ℕ)
    → leaves_of (take (place + 1) cells) p ≡ (leaves_of (take place cells) p || span_has span p)
adds cells place span of p =
    list_any_more (λ id. cell_has id p) cells place 0 of.there
    ∙ ap (λ b. leaves_of (take place cells) p || b) (sym (of.leaves p))

pub merged_joined : (cells : List ℕ) (count : ℕ) (spans : List Span) (current span : Span)
    → IsMerged cells count spans current → IsSpanOf cells count span
    → span.first ≤ current.last + 1
    → IsMerged cells (count + 1) spans (record {
      first = current.first;
      last = max current.last span.last;
    })
merged_joined cells count spans current span merged of near = record {
  ends =
      joined (leaves_of (take count cells)) (leaves_of (take (count + 1) cells)) spans current span
      merged.ends of.is (omega (arith, of.first, merged.ahead count (omega arith) of.there)) near
      (adds cells count span of);
  ahead = λ k later below. merged.ahead k (omega (arith, later)) below;
}

pub merged_opened : (cells : List ℕ) (count : ℕ) (spans : List Span) (current span : Span)
    → IsNonDecreasingBy first_leaf cells → IsMerged cells count spans current
    → IsSpanOf cells count span → current.last + 1 < span.first
    → IsMerged cells (count + 1) (spans ++ current ∷ []) span
merged_opened cells count spans current span ascends merged of apart = record {
  ends =
      opened (leaves_of (take count cells)) (leaves_of (take (count + 1) cells)) spans current span
      merged.ends of.is apart (adds cells count span of);
  ahead = ahead_of cells count span ascends of;
}

pub merged_all : (cells : List ℕ) (count : ℕ) (spans : List Span) (current : Span)
    → IsMerged cells count spans current → length cells ≤ count
    → IsRanges (leaves_of cells) (spans ++ current ∷ [])
merged_all cells count spans current merged all =
    subst (λ ids. IsRanges (leaves_of ids) (spans ++ current ∷ [])) (take_all count cells all)
    (closed (leaves_of (take count cells)) spans current merged.ends)

-- a span of a cell of the rest, where the list is a first cell and the rest
pub span_of_rest : (cells rest : List ℕ) (first id place : ℕ) (span : Span) → cells ≡ first ∷ rest
    → place < length rest → id ≡ get_or rest place id → IsSpan span → span.first ≡ first_leaf id
    → ((p : ℕ) → span_has span p ≡ cell_has id p) → IsSpanOf cells (place + 1) span
span_of_rest cells rest first id place span whole there at is begins leaves =
    let longer : length cells ≡ suc (length rest) = ap length whole in
    let same : get_or cells (place + 1) 0 ≡ id =
    ap (λ xs. get_or xs (place + 1) 0) whole ∙ ap (λ j. get_or (first ∷ rest) j 0) (add-one place)
    ∙ get_or_default rest place 0 id there ∙ sym at in
    record {
      there = omega (arith, there, longer);
      is = is;
      first = begins ∙ ap first_leaf (sym same);
      leaves = λ p. leaves p ∙ ap (λ cell. cell_has cell p) (sym same);
    }

-- sets with the same positions have the same ranges
pub ranges_same : (set other : ℕ → Bool) (spans : List Span) → ((p : ℕ) → set p ≡ other p)
    → IsRanges set spans → IsRanges other spans
ranges_same set other spans same ranges = record {
  each = ranges.each;
  apart = ranges.apart;
  positions = λ p. ranges.positions p ∙ same p;
}

-- ranges are those of their own positions
pub ranges_alone : (set : ℕ → Bool) (spans : List Span) → IsRanges set spans
    → IsRanges (spans_have spans) spans
ranges_alone set spans ranges =
    ranges_same set (spans_have spans) spans (λ p. sym (ranges.positions p)) ranges

-- the ranges of a list's cells in another order have its leaves
pub given_leaves : (cells copied sorted slice : List ℕ) (spans ranges : List Span) → copied ≡ cells
    → IsPermutation copied sorted → slice ≡ sorted → IsRanges (leaves_of slice) ranges
    → spans ≡ ranges → (p : ℕ) → spans_have spans p ≡ leaves_of cells p
given_leaves cells copied sorted slice spans ranges copy moved whole is same p =
    ap (λ list. spans_have list p) same ∙ is.positions p ∙ ap (λ ids. leaves_of ids p) whole
    ∙ leaves_of-permutation copied sorted p moved ∙ ap (λ ids. leaves_of ids p) copy

-- where there is a span, a list of cells with its leaves has a cell
pub some_kept : (spans : List Span) (ids : List ℕ) → All IsSpan spans
    → ((p : ℕ) → leaves_of ids p ≡ spans_have spans p) → 0 < length spans → 0 < length ids
some_kept [] ids each same some = absurd (omega (arith, some))
some_kept (span ∷ rest) [] each same some =
    let is = All-head IsSpan span rest each in
    let here : spans_have (span ∷ rest) span.first ≡ true =
    or_left (span_has span span.first) (spans_have rest span.first)
    (of_range span.first span.last span.first (omega arith) is.ordered) in
    absurd (both_ways (spans_have (span ∷ rest) span.first) (sym (same span.first)) here)
some_kept (span ∷ rest) (id ∷ ids) each same some = omega arith
