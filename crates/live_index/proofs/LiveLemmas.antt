-- All that is kept, before a change and after it.
use Rattle.std.proofs.Common.{◌≡◌, ℕ, ◌+◌, ◌<◌, Bool, true, false, cond, not, ◌&&◌, ◌||◌, List, [], ◌∷◌, ◌++◌, length, take, get_or, refl, sym, ap, subst, ◌∙◌, IsPermutation}
use Rattle.std.specs.List.{filter}
use Rattle.std.proofs.lemmas.List.{append_assoc}
use Rattle.std.proofs.lemmas.List.Elements.{filter-append}
use Rattle.std.proofs.lemmas.List.Folds.{list_any_more}
use Rattle.std.proofs.lemmas.List.Sorted.{IsPermutation-trans, IsPermutation-append_left, IsPermutation-append_comm}
use Rattle.desk_store.specs.World.{World}
use Rattle.live_index.specs.declared.volume.LiveVolume.{LiveVolume}
use Rattle.live_index.specs.Live.{AreLive, is_of_other_plan, is_of_any, is_volume_of}
use Rattle.live_index.proofs.lemmas.Live.{live_permuted}

-- what is left of those in groups and of the others
pub left_of_both : (o id : List ℕ) (old left unindexed younger : List LiveVolume)
    → left ≡ filter (is_of_other_plan o id) old → younger ≡ filter (is_of_other_plan o id) unindexed
    → left ++ younger ≡ filter (is_of_other_plan o id) (old ++ unindexed)
left_of_both o id old left unindexed younger a b =
    (λ i. a i ++ b i) ∙ sym (filter-append (is_of_other_plan o id) old unindexed)

-- and then some more
pub followed : (stays : LiveVolume → Bool) (old left younger now fresh : List LiveVolume)
    → left ++ younger ≡ filter stays old → now ≡ younger ++ fresh → left ++ now ≡ filter stays old ++ fresh
followed stays old left younger now fresh a b =
    ap (λ ys. left ++ ys) b ∙ sym (append_assoc left younger fresh) ∙ ap (λ vs. vs ++ fresh) a

-- ---- plans of some ids

filter_both : (p q r : LiveVolume → Bool) → ((x : LiveVolume) → r x ≡ (q x && p x)) → (xs : List LiveVolume)
    → filter p (filter q xs) ≡ filter r xs
filter_both p q r same [] = refl
filter_both p q r same (x ∷ xs) = go (q x) (p x) refl (filter_both p q r same xs)
    ∙ ap (λ b. cond b (x ∷ filter r xs) (filter r xs)) (sym (same x)) where
      go : (a b : Bool) → p x ≡ b → filter p (filter q xs) ≡ filter r xs
          → filter p (cond a (x ∷ filter q xs) (filter q xs)) ≡ cond (a && b) (x ∷ filter r xs) (filter r xs)
      go true true e h = ap (λ b. cond b (x ∷ filter p (filter q xs)) (filter p (filter q xs))) e
          ∙ ap (λ vs. x ∷ vs) h
      go true false e h = ap (λ b. cond b (x ∷ filter p (filter q xs)) (filter p (filter q xs))) e ∙ h
      go false b e h = h

filter_none : (xs : List LiveVolume) → xs ≡ filter (λ l. not false) xs
filter_none [] = refl
filter_none (x ∷ xs) = ap (λ vs. x ∷ vs) (filter_none xs)

pub none_named : (o : List ℕ) (xs : List LiveVolume) → xs ≡ filter (λ l. not (is_of_any o [] l)) xs
none_named o xs = filter_none xs

-- one more id
pub one_more_named : (o : List ℕ) (ids : List (List ℕ)) (i : ℕ) (id : List ℕ) (old mid new : List LiveVolume)
    → i < length ids → id ≡ get_or ids i id
    → mid ≡ filter (λ l. not (is_of_any o (take i ids) l)) old → new ≡ filter (is_of_other_plan o id) mid
    → new ≡ filter (λ l. not (is_of_any o (take (i + 1) ids) l)) old
one_more_named o ids i id old mid new below is before then =
    then ∙ ap (filter (is_of_other_plan o id)) before
    ∙ filter_both (is_of_other_plan o id) (λ l. not (is_of_any o (take i ids) l))
    (λ l. not (is_of_any o (take (i + 1) ids) l)) each old where
      or_not : (a b : Bool) → not (a || b) ≡ (not a && not b)
      or_not true b = refl
      or_not false b = refl

      each : (l : LiveVolume) → not (is_of_any o (take (i + 1) ids) l)
          ≡ (not (is_of_any o (take i ids) l) && is_of_other_plan o id l)
      each l = ap not (list_any_more (λ k. is_volume_of o k l) ids i id below
          ∙ ap (λ k. is_of_any o (take i ids) l || is_volume_of o k l) (sym is))
          ∙ or_not (is_of_any o (take i ids) l) (is_volume_of o id l)

-- no change
pub all_stay : (xs : List LiveVolume) → xs ≡ filter (λ l. true) xs
all_stay [] = refl
all_stay (x ∷ xs) = ap (λ vs. x ∷ vs) (all_stay xs)

-- ---- the last one goes into groups

pub last_moved : (w : World) (live : LiveVolume) (old new unindexed left now : List LiveVolume)
    → AreLive w (old ++ unindexed) → unindexed ≡ left ++ live ∷ [] → now ≡ take (length left) unindexed
    → IsPermutation (live ∷ old) new → AreLive w (new ++ now)
last_moved w live old new unindexed left now h is rest same =
    live_permuted w (old ++ unindexed) (new ++ now) h
    (subst (λ ys. IsPermutation (old ++ unindexed) (new ++ ys))
    (sym (rest ∙ ap (take (length left)) is ∙ taken left))
    (subst (λ ys. IsPermutation (old ++ ys) (new ++ left)) (sym is)
    (IsPermutation-trans (old ++ (left ++ live ∷ [])) ((live ∷ old) ++ left) (new ++ left)
    (IsPermutation-trans (old ++ (left ++ live ∷ [])) ((left ++ live ∷ []) ++ old) ((live ∷ old) ++ left)
    (IsPermutation-append_comm old (left ++ live ∷ []))
    (subst (λ xs. IsPermutation xs ((live ∷ old) ++ left)) (sym (append_assoc left (live ∷ []) old))
    (IsPermutation-append_comm left (live ∷ old))))
    (IsPermutation-append_left left (live ∷ old) new same)))) where
      taken : (xs : List LiveVolume) → take (length xs) (xs ++ live ∷ []) ≡ xs
      taken [] = refl
      taken (x ∷ xs) = ap (λ ys. x ∷ ys) (taken xs)

-- those in groups in another order
pub groups_moved : (w : World) (old new unindexed : List LiveVolume) → AreLive w (old ++ unindexed)
    → IsPermutation old new → AreLive w (new ++ unindexed)
groups_moved w old new unindexed h same =
    live_permuted w (old ++ unindexed) (new ++ unindexed) h (IsPermutation-append_left unindexed old new same)
