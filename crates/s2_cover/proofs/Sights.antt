-- What a look at a square says of the leaves in it.
use Rattle.std.proofs.Common.{◌≡◌, ◌≢◌, ℕ, ◌-◌, ◌*◌, ◌/◌, ◌^◌, ◌<◌, ◌≤◌, Bool, true, false, refl, sym, ◌∙◌, ap, subst, arith, inl, inr, ◌⊎◌}
use Rattle.std.specs.Prelude.{◌↔◌, ◌&&◌, ◌==◌}
use Rattle.std.specs.Int.{IsInRange}
use Rattle.std.proofs.Math.Nat.{div-mul-le_self, mul-div_cancel, mul-le-mul_right}
use Rattle.std.proofs.lemmas.Nat.{le-div, pow_pos}
use Rattle.std.proofs.lemmas.Bool.{cases_lt}
use Rattle.std.proofs.lemmas.Bool.Decides.{nat_tests}
use Rattle.s2_hilbert.specs.Grid.{GridLeaf, grid_leaf, IsLeaf, GridSquare, IsSquare, LiesInSquare, side_of}
use Rattle.s2_hilbert.specs.Curve.{position_of, grid_leaf_at, first_position, last_position}
use Rattle.s2_hilbert.proofs.lemmas.Curve.{leaf_is, position_undone, leaf_undone, square_leaves}
use Rattle.s2_cover.specs.Covers.{WideParts, is_along, wide_set, AllIn, SomeIn, IsRangeOverlap, IsSquareOverlap, combined_overlap}
use Rattle.s2_cover.specs.declared.sight.Overlap.{Overlap}
use Rattle.s2_cover.specs.declared.sight.Overlap.TheVariants.{Outside, Inside, Across}
use Rattle.s2_cover.proofs.RangeTests.{of_range}
use Rattle.s2_cover.proofs.SquareCells.{last_below}

pub div_mono : (m n side : ℕ) → 0 < side → m ≤ n → m / side ≤ n / side
div_mono m n side some order = le-div (m / side) n side some
    (omega (arith, order, div-mul-le_self m side))

-- a number whose square comes before the least
not_low : (side least greatest n : ℕ) → n / side < least → is_along side least greatest n ≡ false
not_low side least greatest n low = grind (arith, nat_tests)

not_high : (side least greatest n : ℕ) → greatest < n / side → is_along side least greatest n ≡ false
not_high side least greatest n high = grind (arith, nat_tests)

pub after_all : (side least greatest first last : ℕ) → 0 < side → greatest < first / side
    → AllIn first last (is_along side least greatest) false
after_all side least greatest first last some after n low high =
    not_high side least greatest n (omega (arith, div_mono first n side some low, after))

pub within_all : (side least greatest first last : ℕ) → 0 < side → least ≤ first / side
    → last / side ≤ greatest
    → AllIn first last (is_along side least greatest) true
within_all side least greatest first last some from upto n low high =
    of_range least greatest (n / side) (omega (arith, div_mono first n side some low, from))
    (omega (arith, div_mono n last side some high, upto))

-- a range that begins before the least square and reaches it
pub across_low : (side least greatest first last : ℕ) → 0 < side → first ≤ last → least ≤ greatest
    → first / side < least → least ≤ last / side
    → SomeIn first last (is_along side least greatest) true
    × SomeIn first last (is_along side least greatest) false
across_low side least greatest first last some order bounds before reaches =
    let inner = least * side in
    let low : first ≤ inner = elim (cases_lt inner first) [
      | inl above ↦ absurd (omega (arith, before, le-div least first side some (omega (arith, above))))
      | inr upto ↦ upto
    ] in
    let high : inner ≤ last =
    omega (arith, mul-le-mul_right side reaches, div-mul-le_self last side) in
    let square : inner / side ≡ least = mul-div_cancel least some in (
      record {
        number = inner;
        low = low;
        high = high;
        is = of_range least greatest (inner / side) (omega (arith, square))
            (omega (arith, square, bounds));
      },
      record {
        number = first;
        low = omega arith;
        high = order;
        is = not_low side least greatest first before;
      },
    )

-- a range that begins in the squares and ends after the greatest
pub across_high : (side least greatest first last : ℕ) → first ≤ last
    → least ≤ first / side → first / side ≤ greatest → greatest < last / side
    → SomeIn first last (is_along side least greatest) true
    × SomeIn first last (is_along side least greatest) false
across_high side least greatest first last order from within beyond = (
  record {
    number = first;
    low = omega arith;
    high = order;
    is = of_range least greatest (first / side) from within;
  },
  record {
    number = last;
    low = order;
    high = omega arith;
    is = not_high side least greatest last beyond;
  },
)

-- the coordinates of a square's leaves, as ranges
pub record HasSpans (square : GridSquare) (i_first i_last j_first j_last : ℕ) : Type 0 where
  pub i : (n : ℕ) → (n / side_of square.level ≡ square.a) ↔ IsInRange i_first i_last n
  pub i_below : i_last < 2 ^ 30
  pub j : (n : ℕ) → (n / side_of square.level ≡ square.b) ↔ IsInRange j_first j_last n
  pub j_below : j_last < 2 ^ 30

-- a range of the numbers with a quotient has a number
pub some_span : (level quotient first last : ℕ)
    → ((n : ℕ) → (n / side_of level ≡ quotient) ↔ IsInRange first last n) → first ≤ last
some_span level quotient first last spans =
    let side = side_of level in
    let some : 0 < side = pow_pos (30 - level) in
    let range = (spans (quotient * side)).0 (mul-div_cancel quotient some) in omega (arith, range)

-- what two tests of coordinates give together
abbrev both_tests : WideParts → ℕ → ℕ → Bool
both_tests w i j = is_along (side_of w.level) w.a_min w.a_max i
    && is_along (side_of w.level) w.b_min w.b_max j

pub on_face : (w : WideParts) (leaf : GridLeaf) → leaf.face ≡ w.face → (leaf.face == w.face) ≡ true
on_face w leaf same = grind (arith, nat_tests)

-- the leaf at a position of a square has coordinates of the square
record IsPoint (w : WideParts) (i_first i_last j_first j_last p : ℕ) : Type 0 where
  i : ℕ
  j : ℕ
  i_in : IsInRange i_first i_last i
  j_in : IsInRange j_first j_last j
  is : wide_set w p ≡ both_tests w i j

point_of : (w : WideParts) (square : GridSquare) (i_first i_last j_first j_last p : ℕ) → IsSquare square
    → square.face ≡ w.face → HasSpans square i_first i_last j_first j_last
    → first_position square ≤ p → p ≤ last_position square → IsPoint w i_first i_last j_first j_last p
unfolding wide_set
point_of w square i_first i_last j_first j_last p is face spans low high =
    let leaf = grid_leaf_at p in
    let leaf_here : IsLeaf leaf = leaf_is p (omega (arith, last_below square is, high)) in
    let same : position_of leaf ≡ p = position_undone p in
    let within : LiesInSquare leaf square =
    (square_leaves leaf square leaf_here is).1 (omega (arith, same, low), omega (arith, same, high)) in
    record {
      i = leaf.i;
      j = leaf.j;
      i_in = (spans.i leaf.i).0 within.i_within;
      j_in = (spans.j leaf.j).0 within.j_within;
      is = ap (λ b. b && (is_along (side_of w.level) w.a_min w.a_max leaf.i
          && is_along (side_of w.level) w.b_min w.b_max leaf.j))
          (on_face w leaf (within.on_face ∙ face));
    }

-- and each two coordinates of the square are those of a leaf at one of its positions
some_at : (w : WideParts) (square : GridSquare) (i_first i_last j_first j_last i j : ℕ) (b : Bool)
    → IsSquare square
    → square.face ≡ w.face → HasSpans square i_first i_last j_first j_last → IsInRange i_first i_last i
    → IsInRange j_first j_last j → both_tests w i j ≡ b
    → SomeIn (first_position square) (last_position square) (wide_set w) b
unfolding wide_set
some_at w square i_first i_last j_first j_last i j b is face spans i_in j_in holds =
    let leaf = grid_leaf square.face i j in
    let leaf_here : IsLeaf leaf = record {
      face_below = is.face_below;
      i_below = omega (arith, i_in, spans.i_below);
      j_below = omega (arith, j_in, spans.j_below);
    } in
    let within : LiesInSquare leaf square = record {
      on_face = refl;
      i_within = (spans.i i).1 i_in;
      j_within = (spans.j j).1 j_in;
    } in
    let range = (square_leaves leaf square leaf_here is).0 within in
    let undone : grid_leaf_at (position_of leaf) ≡ leaf = leaf_undone leaf leaf_here in
    let has : GridLeaf → Bool = λ l. l.face == w.face && (is_along (side_of w.level) w.a_min w.a_max l.i
    && is_along (side_of w.level) w.b_min w.b_max l.j) in
    record {
      number = position_of leaf;
      low = range.0;
      high = range.1;
      is = ap has undone ∙ ap (λ c. c && (is_along (side_of w.level) w.a_min w.a_max i
          && is_along (side_of w.level) w.b_min w.b_max j)) (on_face w leaf face) ∙ holds;
    }

and_none : (b : Bool) → (b && false) ≡ false
and_none true = refl
and_none false = refl

-- the sight of a square, from the tests of its two coordinates
saw_both : (w : WideParts) (square : GridSquare) (i_first i_last j_first j_last : ℕ)
    (i_overlap j_overlap : Overlap)
    → IsSquare square → square.face ≡ w.face → HasSpans square i_first i_last j_first j_last
    → IsRangeOverlap i_first i_last (is_along (side_of w.level) w.a_min w.a_max) i_overlap
    → IsRangeOverlap j_first j_last (is_along (side_of w.level) w.b_min w.b_max) j_overlap
    → IsRangeOverlap (first_position square) (last_position square) (wide_set w) (combined_overlap i_overlap j_overlap)
saw_both w square i_first i_last j_first j_last i_overlap j_overlap is face spans =
    by_sights i_overlap j_overlap where
      Test : Type 0
      Test = ℕ → Bool

      i_test : ℕ → Bool
      i_test = is_along (side_of w.level) w.a_min w.a_max

      j_test : ℕ → Bool
      j_test = is_along (side_of w.level) w.b_min w.b_max

      all : (b : Bool) → ((i j : ℕ) → IsInRange i_first i_last i → IsInRange j_first j_last j
          → (i_test i && j_test j) ≡ b)
          → AllIn (first_position square) (last_position square) (wide_set w) b
      all b tests p low high =
          let point = point_of w square i_first i_last j_first j_last p is face spans low high in
          point.is ∙ tests point.i point.j point.i_in point.j_in

      some : (b : Bool) (i j : ℕ) → i_first ≤ i → i ≤ i_last → j_first ≤ j → j ≤ j_last
          → (i_test i && j_test j)
          ≡ b
          → SomeIn (first_position square) (last_position square) (wide_set w) b
      some b i j i_low i_high j_low j_high holds =
          some_at w square i_first i_last j_first j_last i j b is face spans (i_low, i_high)
          (j_low, j_high) holds

      i_order : i_first ≤ i_last
      i_order = some_span square.level square.a i_first i_last spans.i

      j_order : j_first ≤ j_last
      j_order = some_span square.level square.b j_first j_last spans.j

      by_sights : (i_overlap j_overlap : Overlap) → IsRangeOverlap i_first i_last i_test i_overlap
          → IsRangeOverlap j_first j_last j_test j_overlap
          → IsRangeOverlap (first_position square) (last_position square) (wide_set w) (combined_overlap i_overlap j_overlap)
      by_sights Outside j_overlap i_saw j_saw = all false
          (λ i j i_in j_in. ap (λ b. b && j_test j) (i_saw i i_in.0 i_in.1))
      by_sights Inside Outside i_saw j_saw = all false (λ i j i_in j_in.
          ap (λ b. b && j_test j) (i_saw i i_in.0 i_in.1) ∙ j_saw j j_in.0 j_in.1)
      by_sights Inside Inside i_saw j_saw = all true (λ i j i_in j_in.
          ap (λ b. b && j_test j) (i_saw i i_in.0 i_in.1) ∙ j_saw j j_in.0 j_in.1)
      by_sights Inside Across i_saw j_saw = (
        some true i_first j_saw.0.number (omega arith) i_order j_saw.0.low j_saw.0.high
            (ap (λ b. b && j_test j_saw.0.number) (i_saw i_first (omega arith) i_order) ∙ j_saw.0.is),
        some false i_first j_saw.1.number (omega arith) i_order j_saw.1.low j_saw.1.high
            (ap (λ b. b && j_test j_saw.1.number) (i_saw i_first (omega arith) i_order) ∙ j_saw.1.is),
      )
      by_sights Across Outside i_saw j_saw = all false (λ i j i_in j_in.
          ap (λ b. i_test i && b) (j_saw j j_in.0 j_in.1) ∙ and_none (i_test i))
      by_sights Across Inside i_saw j_saw = (
        some true i_saw.0.number j_first i_saw.0.low i_saw.0.high (omega arith) j_order
            (ap (λ b. b && j_test j_first) i_saw.0.is ∙ j_saw j_first (omega arith) j_order),
        some false i_saw.1.number j_first i_saw.1.low i_saw.1.high (omega arith) j_order
            (ap (λ b. b && j_test j_first) i_saw.1.is),
      )
      by_sights Across Across i_saw j_saw = (
        some true i_saw.0.number j_saw.0.number i_saw.0.low i_saw.0.high j_saw.0.low j_saw.0.high
            (ap (λ b. b && j_test j_saw.0.number) i_saw.0.is ∙ j_saw.0.is),
        some false i_saw.1.number j_saw.0.number i_saw.1.low i_saw.1.high j_saw.0.low j_saw.0.high
            (ap (λ b. b && j_test j_saw.0.number) i_saw.1.is),
      )

across_cases : (i_overlap j_overlap : Overlap) → combined_overlap i_overlap j_overlap ≡ Across
    → (i_overlap ≡ Across) ⊎ (j_overlap ≡ Across)
across_cases Outside j_overlap e = let clash : Outside ≡ Across = e in cc
across_cases Inside j_overlap e = inr e
across_cases Across Outside e = let clash : Outside ≡ Across = e in cc
across_cases Across Inside e = inl refl
across_cases Across Across e = inl refl

-- at the rectangle's own level no square lies across
never_level : (square : GridSquare) (level quotient first last : ℕ)
    → ((n : ℕ) → (n / side_of square.level ≡ quotient) ↔ IsInRange first last n)
    → first / side_of level ≢ last / side_of level → square.level ≢ level
never_level square level quotient first last spans apart same =
    let order = some_span square.level quotient first last spans in
    let sides : side_of level ≡ side_of square.level = ap side_of (sym same) in
    let low : first / side_of square.level ≡ quotient = (spans first).1 (omega arith, order) in
    let high : last / side_of square.level ≡ quotient = (spans last).1 (order, omega arith) in
    apart (ap (λ s. first / s) sides ∙ low ∙ sym high ∙ sym (ap (λ s. last / s) sides))

-- a look reports how the square lies to the set
pub square_seen : (w : WideParts) (square : GridSquare) (i_first i_last j_first j_last side : ℕ)
    (i_overlap j_overlap : Overlap)
    → side ≡ side_of w.level → IsSquare square → square.face ≡ w.face → square.level ≤ w.level
    → HasSpans square i_first i_last j_first j_last
    → IsRangeOverlap i_first i_last (is_along side w.a_min w.a_max) i_overlap
    → (i_overlap ≡ Across → i_first / side ≢ i_last / side)
    → IsRangeOverlap j_first j_last (is_along side w.b_min w.b_max) j_overlap
    → (j_overlap ≡ Across → j_first / side ≢ j_last / side)
    → IsSquareOverlap (wide_set w) w.level square (combined_overlap i_overlap j_overlap)
square_seen w square i_first i_last j_first j_last side i_overlap j_overlap sides is face within spans i_saw
    i_apart j_saw j_apart = record {
      is_overlap = saw_both w square i_first i_last j_first j_last i_overlap j_overlap is face spans
          (subst (λ s. IsRangeOverlap i_first i_last (is_along s w.a_min w.a_max) i_overlap) sides i_saw)
          (subst (λ s. IsRangeOverlap j_first j_last (is_along s w.b_min w.b_max) j_overlap) sides j_saw);
      above = λ across.
          let other : square.level ≢ w.level = elim (across_cases i_overlap j_overlap across) [
            | inl i_across ↦ never_level square w.level square.a i_first i_last spans.i
                (subst (λ s. i_first / s ≢ i_last / s) sides (i_apart i_across))
            | inr j_across ↦ never_level square w.level square.b j_first j_last spans.j
                (subst (λ s. j_first / s ≢ j_last / s) sides (j_apart j_across))
          ] in
          elim (cases_lt square.level w.level) [
            | inl less ↦ less
            | inr not_less ↦ absurd (other (omega (arith, within, not_less)))
          ];
    }
