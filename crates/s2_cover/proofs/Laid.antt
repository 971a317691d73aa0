-- The largest cells of a set, laid from the first leaf position on.
use Rattle.std.proofs.Common.{◌≡◌, ℕ, ◌+◌, ◌-◌, ◌<◌, ◌≤◌, Bool, false, List, [], ◌∷◌, ◌++◌, length, get_or, sym, ◌∙◌, ap, subst, arith, inl, inr}
use Rattle.std.specs.Prelude.{IsTrue, Contains}
use Rattle.std.specs.Int.{IsInRange}
use Rattle.std.proofs.lemmas.Bool.{cases_lt, both_ways}
use Rattle.std.proofs.lemmas.Bool.Decides.{nat_tests}
use Rattle.std.proofs.lemmas.List.Elements.{Contains-push_cases, Contains-get_or}
use Rattle.std.proofs.lemmas.List.Quantifiers.{all_pairs_push}
use Rattle.std.proofs.lemmas.List.Folds.{list_any-append, Any-from_list_any}
use Rattle.std.specs.List.Sorted.{IsNonDecreasingBy}
use Rattle.std.proofs.lemmas.List.Sorted.{IsNonDecreasingBy-from_default}
use Rattle.std.proofs.lemmas.List.Kept.{AllPairs-from_increasing}
use Rattle.s2_cellid.specs.Cell.{lowest_place, IsCellId, first_leaf, last_leaf, cell_has}
use Rattle.s2_cellid.proofs.lemmas.Block.{leaves_between, first_belongs}
use Rattle.s2_cover.specs.Covers.{leaves_of, parent_of, IsLargest, IsCanonical, IsLongestRun, IsLaid, IsLargestFrom}
use Rattle.s2_cover.specs.declared.spans.Span.{Span}
use Rattle.s2_cover.proofs.RangeTests.{same_test, or_left, or_right}
use Rattle.s2_cover.proofs.Nesting.{has_leaves, nested, leaves_inside, same_cell, place_of, IsParent, parent_is}

pub not_in : (b : Bool) → IsTrue b → b ≡ false → ⊥
not_in b holds fails = both_ways b fails holds

-- a position in a cell, from its ends
pub has_position : (id p : ℕ) → IsCellId id → first_leaf id ≤ p → p ≤ last_leaf id
    → IsTrue (cell_has id p)
has_position id p valid low high = (leaves_between id valid p).1 (low, high)

pub position_in : (id p : ℕ) → IsCellId id → IsTrue (cell_has id p)
    → IsInRange (first_leaf id) (last_leaf id) p
position_in id p valid = (leaves_between id valid p).0

-- no cell in the set lies round one of the largest
pub none_larger : (set : ℕ → Bool) (a b p : ℕ) → IsLargest set a → IsCellId b
    → ((q : ℕ) → IsTrue (cell_has b q) → IsTrue (set q))
    → IsTrue (cell_has a p) → IsTrue (cell_has b p) → lowest_place a < lowest_place b → ⊥
none_larger set a b p largest_a valid_b inside_b has_a has_b less =
    let place_a = place_of a largest_a.valid in
    let place_b = place_of b valid_b in
    elim largest_a.outside [
      | inl whole ↦ omega (arith, whole, place_a, place_b, less)
      | inr (q, (in_parent, out)) ↦
          let parent = parent_is a largest_a.valid (omega (arith, place_b, less)) in
          let has_parent =
          leaves_inside a (parent_of a) p largest_a.valid parent.valid parent.lies has_a in
          let lies =
          nested (parent_of a) b p parent.valid valid_b has_parent has_b
          (omega (arith, parent.place, place_a, place_b, less)) in
          not_in (set q) (inside_b q
          (leaves_inside (parent_of a) b q parent.valid valid_b lies in_parent)) out
    ]

-- two of the largest cells of a set with a common leaf are one
pub largest_apart : (set : ℕ → Bool) (a b p : ℕ) → IsLargest set a → IsLargest set b
    → IsTrue (cell_has a p) → IsTrue (cell_has b p) → a ≡ b
largest_apart set a b p largest_a largest_b has_a has_b =
    elim (cases_lt (lowest_place a) (lowest_place b)) [
      | inl less ↦
          absurd (none_larger set a b p largest_a largest_b.valid largest_b.inside has_a has_b less)
      | inr at_least ↦ elim (cases_lt (lowest_place b) (lowest_place a)) [
        | inl more ↦
            absurd (none_larger set b a p largest_b largest_a.valid largest_a.inside has_b has_a more)
        | inr at_most ↦
            same_cell a b p largest_a.valid largest_b.valid has_a has_b
            (omega (arith, at_least, at_most))
      ]
    ]

-- each cell of the span that begins before the position and reaches it ends after the span
abbrev pub IsCutAt : Span → ℕ → Type 0
IsCutAt span position =
    (id : ℕ) → IsCellId id → span.first ≤ first_leaf id → first_leaf id < position
    → position ≤ last_leaf id → span.last < last_leaf id

-- the parent of the largest cell that begins at a cut has a leaf outside the run
outside_run : (set : ℕ → Bool) (span : Span) (position id parent : ℕ) → IsLongestRun set span
    → IsCutAt span position → span.first ≤ position → IsLargestFrom position span.last id
    → IsParent id parent → (p : ℕ) × (IsTrue (cell_has parent p) × (set p ≡ false))
outside_run set span position id parent run cut from largest is =
    let leaves = has_leaves id largest.is.valid in
    elim (cases_lt (first_leaf parent) span.first) [
      | inl before ↦ (
        span.first - 1,
        (
          has_position parent (span.first - 1) is.valid (omega (arith, before))
              (omega (arith, before, from, is.lies, largest.is, leaves)),
          run.before (span.first - 1) (omega (arith, before)),
        ),
      )
      | inr not_before ↦ elim (cases_lt span.last (last_leaf parent)) [
        | inl after ↦ (
          span.last + 1,
          (
            has_position parent (span.last + 1) is.valid
                (omega (arith, is.lies, largest.is, leaves)) (omega (arith, after)),
            run.after,
          ),
        )
        | inr not_after ↦ elim (cases_lt (first_leaf parent) position) [
          | inl earlier ↦
              let past =
              cut parent is.valid not_before earlier (omega (arith, is.lies, largest.is, leaves)) in
              absurd (omega (arith, past, not_after))
          | inr not_earlier ↦
              let begins : first_leaf parent ≡ position =
              omega (arith, not_earlier, is.lies, largest.is) in
              let small =
              largest.largest parent
              (record { valid = is.valid; begins = begins; ends = not_after }) in
              absurd (omega (arith, small, is.place))
        ]
      ]
    ]

-- the largest cell that begins at a cut is one of the largest of the set
pub largest_at : (set : ℕ → Bool) (span : Span) (position id : ℕ) → IsLongestRun set span
    → IsCutAt span position → span.first ≤ position → IsLargestFrom position span.last id
    → IsLargest set id
largest_at set span position id run cut from largest =
    let place = place_of id largest.is.valid in
    record {
      valid = largest.is.valid;
      inside = λ p has.
          let range = position_in id p largest.is.valid has in
          let low : span.first ≤ p = omega (arith, range, from, largest.is) in
          let high : p ≤ span.last = omega (arith, range, largest.is) in
          run.inside p (grind (arith, nat_tests));
      outside = elim (cases_lt (lowest_place id) 60) [
        | inl inner ↦
            inr (outside_run set span position id (parent_of id) run cut from largest
            (parent_is id largest.is.valid inner))
        | inr whole ↦ inl (omega (arith, whole, place))
      ];
    }

-- where that cell ends is the next cut
pub next_cut : (span : Span) (position id : ℕ) → IsCutAt span position
    → IsLargestFrom position span.last id → IsCutAt span (last_leaf id + 1)
next_cut span position id cut largest other valid from begins reaches =
    let leaves = has_leaves id largest.is.valid in
    elim (cases_lt (first_leaf other) position) [
      | inl earlier ↦
          cut other valid from earlier (omega (arith, reaches, leaves, largest.is))
      | inr later ↦
          let p = first_leaf other in
          let has_id =
          has_position id p largest.is.valid (omega (arith, later, largest.is)) (omega (arith, begins))
          in
          elim (cases_lt (lowest_place id) (lowest_place other)) [
            | inl small ↦
                let lies =
                nested id other p largest.is.valid valid has_id (first_belongs other valid)
                (omega (arith, small)) in
                let same : first_leaf other ≡ position = omega (arith, lies, later, largest.is) in
                elim (cases_lt span.last (last_leaf other)) [
                  | inl past ↦ past
                  | inr within ↦
                      let at_most =
                      largest.largest other (record { valid = valid; begins = same; ends = within }) in
                      absurd (omega (arith, at_most, small))
                ]
            | inr large ↦
                let lies =
                nested other id p valid largest.is.valid (first_belongs other valid) has_id large in
                absurd (omega (arith, lies, reaches))
          ]
    ]

pub laid_none : (set : ℕ → Bool) → IsLaid set [] 0
laid_none set = record {
  ascending = λ i j d less below. absurd (omega (arith, below));
  largest = λ id there. absurd (omega (arith, there.1));
  ended = λ id there. absurd (omega (arith, there.1));
  covered = λ p below. absurd (omega (arith, below));
}

-- positions that the set has not need no cell
pub laid_upto : (set : ℕ → Bool) (ids : List ℕ) (low high : ℕ) → IsLaid set ids low → low ≤ high
    → ((p : ℕ) → low ≤ p → p < high → set p ≡ false) → IsLaid set ids high
laid_upto set ids low high laid within free = record {
  ascending = laid.ascending;
  largest = laid.largest;
  ended = λ id there. omega (arith, laid.ended id there);
  covered = λ p below has. elim (cases_lt p low) [
    | inl covered ↦ laid.covered p covered has
    | inr beyond ↦ absurd (not_in (set p) has (free p beyond below))
  ];
}

-- one more cell, which begins where the others end
pub laid_more : (set : ℕ → Bool) (ids : List ℕ) (position id : ℕ) → IsLaid set ids position
    → IsLargest set id → first_leaf id ≡ position → IsLaid set (ids ++ id ∷ []) (last_leaf id + 1)
laid_more set ids position id laid largest begins =
    let leaves = has_leaves id largest.valid in
    record {
      ascending = all_pairs_push ◌<◌ ids id laid.ascending (λ k d below.
          let there = Contains-get_or ids k d below in
          let other = has_leaves (get_or ids k d) (laid.largest (get_or ids k d) there).valid in
          omega (arith, laid.ended (get_or ids k d) there, other, leaves, begins));
      largest = λ x there. elim (Contains-push_cases ids id x there) [
        | inl old ↦ laid.largest x old
        | inr same ↦ subst (IsLargest set) same largest
      ];
      ended = λ x there. elim (Contains-push_cases ids id x there) [
        | inl old ↦ omega (arith, laid.ended x old, leaves, begins)
        | inr same ↦ omega (arith, ap last_leaf same)
      ];
      covered = λ p below has.
          let parts = list_any-append (λ x. cell_has x p) ids (id ∷ []) in
          elim (cases_lt p position) [
            | inl covered ↦
                parts ∙ or_left (leaves_of ids p) (leaves_of (id ∷ []) p) (laid.covered p covered has)
            | inr beyond ↦
                let here : IsTrue (cell_has id p) =
                has_position id p largest.valid (omega (arith, beyond, begins)) (omega (arith, below))
                in
                parts ∙ or_right (leaves_of ids p) (leaves_of (id ∷ []) p)
                (or_left (cell_has id p) false here)
          ];
    }

-- the cells of a set that has no position beyond them are the canonical ones
pub canonical_when_laid : (set : ℕ → Bool) (ids : List ℕ) (upto : ℕ) → IsLaid set ids upto
    → ((p : ℕ) → IsTrue (set p) → p < upto) → IsCanonical set ids
canonical_when_laid set ids upto laid within = record {
  ascending = λ k below. laid.ascending k (k + 1) 0 (omega arith) below;
  members = λ id. (
    laid.largest id,
    λ largest.
        let p = first_leaf id in
        let here = first_belongs id largest.valid in
        let has = largest.inside p here in
        let any =
        Any-from_list_any (λ x. cell_has x p) ids (laid.covered p (within p has) has) in
        let other = any.1 in
        let there : Contains ids other = (any.0, any.2, any.3) in
        let same : other ≡ id =
        largest_apart set other id p (laid.largest other there) largest any.4 here in
        subst (Contains ids) same there,
  );
}

-- their leaves are the set's
pub leaves_when_laid : (set : ℕ → Bool) (ids : List ℕ) (upto : ℕ) → IsLaid set ids upto
    → ((p : ℕ) → IsTrue (set p) → p < upto) → (p : ℕ) → leaves_of ids p ≡ set p
leaves_when_laid set ids upto laid within p =
    same_test (leaves_of ids p) (set p)
    (λ has.
    let any = Any-from_list_any (λ id. cell_has id p) ids has in
    (laid.largest any.1 (any.0, any.2, any.3)).inside p any.4)
    (λ has. laid.covered p (within p has) has)

largest_same : (set other : ℕ → Bool) (id : ℕ) → ((p : ℕ) → set p ≡ other p) → IsLargest set id
    → IsLargest other id
largest_same set other id same largest = record {
  valid = largest.valid;
  inside = λ p has. sym (same p) ∙ largest.inside p has;
  outside = elim largest.outside [
    | inl whole ↦ inl whole
    | inr (p, (has, out)) ↦ inr (p, (has, sym (same p) ∙ out))
  ];
}

-- sets with the same leaves have the same canonical list
pub canonical_same : (set other : ℕ → Bool) (ids : List ℕ) → ((p : ℕ) → set p ≡ other p)
    → IsCanonical set ids → IsCanonical other ids
canonical_same set other ids same canonical = record {
  ascending = canonical.ascending;
  members = λ id. (
    λ there. largest_same set other id same ((canonical.members id).0 there),
    λ largest. (canonical.members id).1
        (largest_same other set id (λ p. sym (same p)) largest),
  );
}

-- of two of the largest cells the one with the lesser id begins first
begins_before : (set : ℕ → Bool) (a b : ℕ) → IsLargest set a → IsLargest set b → a < b
    → first_leaf a ≤ first_leaf b
begins_before set a b largest_a largest_b less = elim (cases_lt (first_leaf b) (first_leaf a)) [
  | inr order ↦ order
  | inl before ↦
      let leaves_a = has_leaves a largest_a.valid in
      let leaves_b = has_leaves b largest_b.valid in
      elim (cases_lt (last_leaf b) (first_leaf a)) [
        | inl apart ↦ absurd (omega (arith, apart, less, leaves_a, leaves_b))
        | inr within ↦
            let p = first_leaf a in
            let in_b = has_position b p largest_b.valid (omega (arith, before)) within in
            let same =
            largest_apart set a b p largest_a largest_b (first_belongs a largest_a.valid) in_b in
            absurd (omega (arith, same, less))
      ]
]

-- the cells of a canonical list ascend by their first leaves too
pub canonical_ascends : (set : ℕ → Bool) (ids : List ℕ) → IsCanonical set ids
    → IsNonDecreasingBy first_leaf ids
canonical_ascends set ids canonical =
    let pairs = AllPairs-from_increasing ids canonical.ascending in
    let largest : (k : ℕ) → k < length ids → IsLargest set (get_or ids k 0) =
    λ k below. (canonical.members (get_or ids k 0)).0 (Contains-get_or ids k 0 below) in
    IsNonDecreasingBy-from_default first_leaf ids 0 (λ i j order below. elim (cases_lt i j) [
      | inl less ↦
          begins_before set (get_or ids i 0) (get_or ids j 0) (largest i (omega (arith, less, below)))
          (largest j below) (pairs i j 0 less below)
      | inr not_less ↦
          let same : i ≡ j = omega (arith, order, not_less) in
          let firsts : first_leaf (get_or ids i 0) ≡ first_leaf (get_or ids j 0) =
          ap (λ k. first_leaf (get_or ids k 0)) same in omega (arith, firsts)
    ])
