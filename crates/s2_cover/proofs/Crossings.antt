-- The cells that have a leaf of a set and another leaf, as a walk down the squares meets them.
use Rattle.std.proofs.Common.{◌≡◌, ◌≢◌, ℕ, ◌+◌, ◌-◌, ◌*◌, ◌<◌, ◌≤◌, suc, Bool, true, false, List, [], ◌∷◌, ◌++◌, get_or, refl, sym, ◌∙◌, ap, subst, arith, inl, inr}
use Rattle.std.specs.Prelude.{IsTrue, Contains, AllPairs}
use Rattle.std.proofs.lemmas.Bool.{cases_lt}
use Rattle.std.proofs.lemmas.List.Elements.{Contains-append_left, Contains-append_right, Contains-append_cases, Contains-push_cases, Contains-get_or}
use Rattle.std.proofs.lemmas.List.Kept.{AllPairs-cons}
use Rattle.s2_hilbert.specs.Curve.{leaf_count}
use Rattle.s2_cellid.specs.Cell.{lowest_place, IsCellId, first_leaf, last_leaf, cell_has}
use Rattle.s2_cellid.proofs.lemmas.Block.{first_belongs, last_belongs}
use Rattle.s2_cover.specs.Covers.{AllIn, IsCrossed, IsCrossedIn, AreCrossedIn}
use Rattle.s2_cover.proofs.Beginnings.{same_place}
use Rattle.s2_cover.proofs.Laid.{has_position, position_in}
use Rattle.s2_cover.proofs.Nesting.{has_leaves, place_of, nested, same_cell}
use Rattle.s2_cover.proofs.SquareCells.{IsBlock, some_leaves}
use Rattle.s2_cover.proofs.Uniqueness.{pairs_tail}

-- two lists, of which each element of one differs from each of the other
pairs_append : (xs ys : List ℕ) → AllPairs ◌≢◌ xs → AllPairs ◌≢◌ ys
    → ((x y : ℕ) → Contains xs x → Contains ys y → x ≢ y) → AllPairs ◌≢◌ (xs ++ ys)
pairs_append [] ys one two apart = two
pairs_append (x ∷ xs) ys one two apart =
    let rest =
    pairs_append xs ys (pairs_tail ◌≢◌ x xs one) two (λ a b there_a there_b.
    apart a b (suc there_a.0, omega (arith, there_a.1), there_a.2) there_b) in
    AllPairs-cons ◌≢◌ x (xs ++ ys) (λ i d below.
    let z = get_or (xs ++ ys) i d in
    elim (Contains-append_cases xs ys z (Contains-get_or (xs ++ ys) i d below)) [
      | inl there ↦ λ same.
          one 0 (suc there.0) z (omega arith) (omega (arith, there.1)) (same ∙ sym there.2)
      | inr there ↦ apart x z (0, omega arith, refl) there
    ]) rest

-- positions that are all in the set, or all outside it, cross no cell
pub crossed_none : (set : ℕ → Bool) (b : Bool) (most first last upto : ℕ) → AllIn first last set b
    → upto ≡ last + 1
    → AreCrossedIn set most first upto []
crossed_none set b most first last upto all is = record {
  once = λ i j d less below. absurd (omega (arith, below));
  members = λ id. (
    λ there. absurd (omega (arith, there.1)),
    λ here.
        let at : (p : ℕ) → IsTrue (cell_has id p) → set p ≡ b = λ p has.
        let range = position_in id p here.crossed.valid has in
        all p (omega (arith, range, here.begins)) (omega (arith, range, here.ends, is)) in
        let inside = here.crossed.inside in
        let outside = here.crossed.outside in
        let clash : true ≡ false =
        sym inside.1.1 ∙ at inside.0 inside.1.0 ∙ sym (at outside.0 outside.1.0) ∙ outside.1.1 in
        cc,
  );
}

-- no cell lies in an empty range
pub crossed_nowhere : (set : ℕ → Bool) (most first upto : ℕ) → upto ≡ first
    → AreCrossedIn set most first upto []
crossed_nowhere set most first upto is = record {
  once = λ i j d less below. absurd (omega (arith, below));
  members = λ id. (
    λ there. absurd (omega (arith, there.1)),
    λ here.
        let leaves = has_leaves id here.crossed.valid in
        absurd (omega (arith, leaves, here.begins, here.ends, is)),
  );
}

-- cells with the same leaves have the same lowest bit
same_size : (a b : ℕ) → IsCellId a → IsCellId b → first_leaf a ≡ first_leaf b → last_leaf a
    ≡ last_leaf b
    → lowest_place a ≡ lowest_place b
same_size a b valid_a valid_b first last =
    same_place (lowest_place a) (lowest_place b)
    (omega (arith, has_leaves a valid_a, has_leaves b valid_b, first, last))

-- a cell that lies in a block is no larger
within_place : (id block level first : ℕ) → IsCellId id → IsBlock block level first
    → first ≤ first_leaf id
    → last_leaf id < first + leaf_count level → lowest_place id ≤ lowest_place block
within_place id block level first valid is begins ends =
    elim (cases_lt (lowest_place block) (lowest_place id)) [
      | inr at_most ↦ at_most
      | inl less ↦
          let leaves = has_leaves id valid in
          let p = first_leaf id in
          let here : IsTrue (cell_has block p) =
          has_position block p is.valid (omega (arith, is.begins, begins))
          (omega (arith, is.ends, leaves, ends))
          in
          let lies = nested block id p is.valid valid here (first_belongs id valid)
          (omega (arith, less)) in
          let same =
          same_size id block valid is.valid (omega (arith, lies.first, is.begins, begins))
          (omega (arith, lies.last, is.ends, ends)) in
          absurd (omega (arith, same, less))
    ]

-- the cells up to a quarter, and then those in the quarter
pub crossings_append : (set : ℕ → Bool) (most first middle upto quarter level : ℕ) (one two : List ℕ)
    → IsBlock quarter level middle → lowest_place quarter ≡ most → upto ≡ middle + leaf_count level
    → first ≤ middle
    → AreCrossedIn set most first middle one → AreCrossedIn set 60 middle upto two
    → AreCrossedIn set most first upto (one ++ two)
crossings_append set most first middle upto quarter level one two block place is order before here =
    record {
      once = pairs_append one two before.once here.once (λ x y there_x there_y same.
          let in_x = (before.members x).0 there_x in
          let in_y = (here.members y).0 there_y in
          let leaves = has_leaves x in_x.crossed.valid in
          omega (arith, in_x.ends, in_y.begins, ap first_leaf same, leaves));
      members = λ id. (
        λ there. elim (Contains-append_cases one two id there) [
          | inl early ↦
              let reported = (before.members id).0 early in
              record {
                crossed = reported.crossed;
                place = reported.place;
                begins = reported.begins;
                ends = omega (arith, reported.ends, is);
              }
          | inr late ↦
              let reported = (here.members id).0 late in
              let at_most =
              within_place id quarter level middle reported.crossed.valid block reported.begins
              (omega (arith, reported.ends, is)) in
              record {
                crossed = reported.crossed;
                place = omega (arith, at_most, place);
                begins = omega (arith, reported.begins, order);
                ends = reported.ends;
              }
        ],
        λ reported. elim (cases_lt (last_leaf id) middle) [
          | inl early ↦
              Contains-append_left one two id ((before.members id).1
              (record {
                crossed = reported.crossed;
                place = reported.place;
                begins = reported.begins;
                ends = early;
              }))
          | inr late ↦
              let p = last_leaf id in
              let valid = reported.crossed.valid in
              let in_quarter : IsTrue (cell_has quarter p) =
              has_position quarter p block.valid (omega (arith, block.begins, late))
              (omega (arith, block.ends, reported.ends, is)) in
              let lies =
              nested id quarter p valid block.valid (last_belongs id valid) in_quarter
              (omega (arith, reported.place, place)) in
              Contains-append_right one two id ((here.members id).1 (record {
                crossed = reported.crossed;
                place = omega (arith, place_of id valid);
                begins = omega (arith, lies.first, block.begins);
                ends = reported.ends;
              }))
        ],
      );
    }

-- all quarters of a crossed cell, and the cell itself
pub crossings_whole : (set : ℕ → Bool) (most first upto id level : ℕ) (ids : List ℕ)
    → IsBlock id level first
    → level < 30 → most ≡ 60 - 2 * (level + 1) → upto ≡ first + leaf_count level → IsCrossed set id
    → AreCrossedIn set most first upto ids → AreCrossedIn set 60 first upto (ids ++ id ∷ [])
crossings_whole set most first upto id level ids block inner place is crossed below = record {
  once = pairs_append ids (id ∷ []) below.once (λ i j d less within. absurd
      (omega (arith, less, within)))
      (λ x y there_x there_y same.
      let reported = (below.members x).0 there_x in
      let last : id ≡ y = elim (Contains-push_cases [] id y there_y) [
        | inl none ↦ absurd (omega (arith, none.1))
        | inr is ↦ is
      ] in
      omega (arith, reported.place, block.place, place, inner, ap lowest_place (same ∙ sym last)));
  members = λ x. (
    λ there. elim (Contains-push_cases ids id x there) [
      | inl smaller ↦
          let reported = (below.members x).0 smaller in
          record {
            crossed = reported.crossed;
            place = omega (arith, place_of x reported.crossed.valid);
            begins = reported.begins;
            ends = reported.ends;
          }
      | inr same ↦ subst (IsCrossedIn set 60 first upto) same (record {
        crossed = crossed;
        place = omega (arith, place_of id block.valid);
        begins = omega (arith, block.begins);
        ends = omega (arith, block.ends, is, some_leaves level);
      })
    ],
    λ reported. elim (cases_lt most (lowest_place x)) [
      | inr smaller ↦
          Contains-append_left ids (id ∷ []) x ((below.members x).1
          (record { crossed = reported.crossed; place = smaller; begins = reported.begins; ends = reported.ends }))
      | inl larger ↦
          let valid = reported.crossed.valid in
          let p = first_leaf x in
          let leaves = has_leaves x valid in
          let at_most = within_place x id level first valid block reported.begins
          (omega (arith, reported.ends, is))
          in
          let here : IsTrue (cell_has id p) =
          has_position id p block.valid (omega (arith, block.begins, reported.begins))
          (omega (arith, block.ends, reported.ends, is, leaves)) in
          let same : id ≡ x =
          same_cell id x p block.valid valid here (first_belongs x valid)
          (omega (arith, larger, at_most, place, block.place, place_of x valid, inner)) in
          Contains-append_right ids (id ∷ []) x (0, omega arith, same)
    ],
  );
}
