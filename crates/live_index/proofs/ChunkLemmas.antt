-- Volumes in chunks and groups.
use Rattle.std.proofs.Common.{◌≡◌, ℕ, zero, suc, ◌<◌, Bool, true, List, [], ◌∷◌, ◌++◌, IfSome, length, slice_get, sym, ap, subst, ◌∙◌, arith, IsPermutation}
use Rattle.std.specs.List.{AllByRecursion, list_any}
use Rattle.std.proofs.lemmas.Bool.{or_left, or_right}
use Rattle.std.proofs.lemmas.List.{append_assoc}
use Rattle.desk_store.proofs.lemmas.Order.{all_append}
use Rattle.live_index.specs.declared.volume.LiveVolume.{LiveVolume}
use Rattle.live_index.specs.Live.{gather}
use Rattle.live_index.proofs.lemmas.Lists.{along_permutation}
use Rattle.live_index.proofs.GatherLemmas.{volumes-one}

-- ---- made one after the other

-- the volumes in things, and then those that are left, are all
module _ {C : Type 0} (vols : C → List LiveVolume) (P : C → Type 0) where
  pub record AreCut (all : List LiveVolume) (cs : List C) (rest : List LiveVolume) : Type 0 where
    pub same : gather vols cs ++ rest ≡ all
    pub whole : AllByRecursion P cs

  pub cut_goes_on : (all : List LiveVolume) (cs next : List C) (rest part later : List LiveVolume) (c : C)
      → AreCut all cs rest → rest ≡ part ++ later → vols c ≡ part → P c → next ≡ cs ++ c ∷ []
      → AreCut all next later
  cut_goes_on all cs next rest part later c cut parts has whole then = record {
    same = ap (λ ds. gather vols ds ++ later) then ∙ ap (λ vs. vs ++ later) (volumes-one vols cs c)
        ∙ append_assoc (gather vols cs) (vols c) later
        ∙ ap (λ vs. gather vols cs ++ (vs ++ later)) has
        ∙ ap (λ vs. gather vols cs ++ vs) (sym parts) ∙ cut.same;
    whole = subst (AllByRecursion P) (sym then) (all_append P cs (c ∷ []) cut.whole (whole, tt));
  }

-- what holds of all of a list holds of all in another order
pub all_permuted : (P : LiveVolume → Type 0) (xs ys : List LiveVolume) → IsPermutation xs ys
    → AllByRecursion P xs → AllByRecursion P ys
all_permuted P = along_permutation (λ xs ys. AllByRecursion P xs → AllByRecursion P ys) (λ xs h. h)
    (λ x xs ys f h. (h.0, f h.1)) (λ x y xs h. (h.1.0, (h.0, h.1.1))) (λ xs ys zs f g h. g (f h))

-- ---- found

-- a test that is passed at a place is passed by one of all
pub any_where : {C : Type 0} (test : C → Bool) (cs : List C) (at : ℕ) → at < length cs
    → IfSome (slice_get cs at) (λ c. test c ≡ true) → list_any test cs ≡ true
any_where test [] at below h = absurd (omega (arith, below))
any_where test (c ∷ cs) zero below h = or_left (test c) _ h
any_where test (c ∷ cs) (suc at) below h = or_right (test c) _ (any_where test cs at (omega (arith, below)) h)
