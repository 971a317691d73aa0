-- The plans of an account.
use Rattle.std.proofs.Common.{◌≡◌, ℕ, zero, suc, ◌+◌, ◌<◌, ◌≤◌, true, List, [], ◌∷◌, ◌++◌, map, take, drop, length, get_or, set, refl, sym, ap, ◌∙◌, arith, Less, Equal, Greater}
use Rattle.std.specs.declared.cmp.Ordering.{Ordering}
use Rattle.std.specs.Ordering.{is_eq, match_ordering}
use Rattle.std.proofs.lemmas.List.{append_assoc, drop_more, take_more, length-append, length-drop, length-map}
use Rattle.std.proofs.Math.Seq.{get_or-append_seam, set-append_seam}
use Rattle.desk_store.specs.World.{text_cmp}
use Rattle.operator_index.specs.declared.account.PlanState.{PlanState}
use Rattle.operator_index.specs.Roll.{first_has_id_of, put_state}

-- ---- the place of a plan

-- all plans before a place come before the plan's
pub record IsSoFar (s : PlanState) (plans : List PlanState) (at : ℕ) : Type 0 where
  pub within : at ≤ length plans
  pub place : put_state s plans ≡ take at plans ++ put_state s (drop at plans)

-- ---- put there

length_take : (at : ℕ) (xs : List PlanState) → at ≤ length xs → length (take at xs) ≡ at
length_take zero xs h = refl
length_take (suc at) [] h = absurd (omega (arith, h))
length_take (suc at) (x ∷ xs) h = let rest = length_take at xs (omega (arith, h)) in omega (arith, rest)

-- in the place of the plan that is there
pub put_over : (s : PlanState) (plans : List PlanState) (at : ℕ) → at ≤ length plans
    → put_state s plans ≡ take at plans ++ put_state s (drop at plans)
    → true ≡ first_has_id_of s (drop at plans) → set plans at s ≡ put_state s plans
put_over s plans at within place begins =
    go (drop at plans) (sym (take_then at plans)) begins ∙ sym place where
      take_then : (n : ℕ) (xs : List PlanState) → take n xs ++ drop n xs ≡ xs
      take_then zero xs = refl
      take_then (suc n) [] = refl
      take_then (suc n) (x ∷ xs) = ap (λ ys. x ∷ ys) (take_then n xs)

      by_order : (p : PlanState) (rest : List PlanState) (n : Ordering) → true ≡ is_eq n
          → s ∷ rest ≡ match_ordering n (s ∷ p ∷ rest) (s ∷ rest) (p ∷ put_state s rest)
      by_order p rest Less e = cc
      by_order p rest Equal e = refl
      by_order p rest Greater e = cc

      go : (left : List PlanState) → plans ≡ take at plans ++ left → true ≡ first_has_id_of s left
          → set plans at s ≡ take at plans ++ put_state s left
      go [] is e = cc
      go (p ∷ rest) is e =
          (λ i. set (is i) (sym (length_take at plans within) i) s)
          ∙ set-append_seam (take at plans) p rest s
          ∙ ap (λ ps. take at plans ++ ps) (by_order p rest (text_cmp s.id p.id) e)

-- ---- each plan in turn

module _ (f : PlanState → PlanState) where
  map_after : (xs : List PlanState) (x : PlanState) → map f (xs ++ x ∷ []) ≡ map f xs ++ f x ∷ []
  map_after [] x = refl
  map_after (y ∷ xs) x = ap (λ ys. f y ∷ ys) (map_after xs x)

  pub mapped_on : (old now : List PlanState) (at : ℕ) (d : PlanState)
      → now ≡ map f (take at old) ++ drop at old → at < length now
      → set now at (f (get_or now at d)) ≡ map f (take (at + 1) old) ++ drop (at + 1) old
  mapped_on old now at d is within =
      (λ i. set (there i) (place i) (f (mine i)))
      ∙ set-append_seam done one (drop (at + 1) old) (f one)
      ∙ sym (append_assoc done (f one ∷ []) (drop (at + 1) old))
      ∙ ap (λ ys. ys ++ drop (at + 1) old)
      (sym (map_after (take at old) one) ∙ ap (map f) (sym (take_more old at d below))) where
        done : List PlanState
        done = map f (take at old)

        below : at < length old
        below = omega (
          arith,
          within,
          ap length is,
          length-append done (drop at old),
          length-map (take at old) f,
          length-drop at old,
          take_length at old,
        ) where
          take_length : (n : ℕ) (xs : List PlanState) → length (take n xs) ≤ n
          take_length zero xs = omega arith
          take_length (suc n) [] = omega arith
          take_length (suc n) (x ∷ xs) = let h = take_length n xs in omega (arith, h)

        one : PlanState
        one = get_or old at d

        there : now ≡ done ++ one ∷ drop (at + 1) old
        there = is ∙ ap (λ ys. done ++ ys) (drop_more old at d below)

        place : at ≡ length done
        place = sym (length-map (take at old) f ∙ length_take at old (omega (arith, below)))

        mine : get_or now at d ≡ one
        mine = (λ i. get_or (there i) (place i) d) ∙ get_or-append_seam done one (drop (at + 1) old) d
