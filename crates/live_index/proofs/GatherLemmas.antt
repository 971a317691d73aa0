-- Volumes of things one after the other, of which one is changed, put in or taken out.
use Rattle.std.proofs.Common.{◌≡◌, ℕ, zero, suc, ◌+◌, ◌<◌, Bool, List, [], ◌∷◌, ◌++◌, take, drop, length, get_or, set, insert, remove, refl, sym, ap, subst, ◌∙◌, arith, IsPermutation}
use Rattle.std.specs.List.{AllByRecursion, filter}
use Rattle.std.proofs.lemmas.List.{append_assoc, append-nil, drop_more, take_more, length-append, length-drop}
use Rattle.std.proofs.Math.Seq.{set-append_seam}
use Rattle.std.proofs.Math.Seq.{get_or-append_seam}
use Rattle.std.proofs.lemmas.List.Elements.{filter-append}
use Rattle.std.proofs.lemmas.List.Sorted.{IsPermutation-refl, IsPermutation-sym, IsPermutation-trans, IsPermutation-middle, IsPermutation-append_comm, IsPermutation-append_left, IsPermutation-append_right}
use Rattle.desk_store.proofs.lemmas.Order.{all_append}
use Rattle.live_index.specs.declared.volume.LiveVolume.{LiveVolume}
use Rattle.live_index.specs.Live.{gather}

pub pushed : (v : LiveVolume) (xs ys zs : List LiveVolume) → zs ≡ ys ++ v ∷ [] → ys ≡ xs
    → IsPermutation (v ∷ xs) zs
pushed v xs ys zs is same = subst (IsPermutation (v ∷ xs)) (sym (is ∙ ap (λ vs. vs ++ v ∷ []) same))
    (IsPermutation-append_comm (v ∷ []) xs)

pub unmoved : (xs ys : List LiveVolume) → ys ≡ xs → IsPermutation xs ys
unmoved xs ys is = subst (IsPermutation xs) (sym is) (IsPermutation-refl xs)

-- ---- what holds of all of them

module _ {C : Type 0} (P : C → Type 0) where
  pub all_at : (cs : List C) (at : ℕ) (d : C) → AllByRecursion P cs → at < length cs → P (get_or cs at d)
  all_at [] at d h k = absurd (omega (arith, k))
  all_at (x ∷ cs) zero d h k = h.0
  all_at (x ∷ cs) (suc at) d h k = all_at cs at d h.1 (omega (arith, k))

module _ {C : Type 0} (vols : C → List LiveVolume) where
  pub volumes-append : (xs ys : List C) → gather vols (xs ++ ys) ≡ gather vols xs ++ gather vols ys
  volumes-append [] ys = refl
  volumes-append (c ∷ xs) ys = ap (λ vs. vols c ++ vs) (volumes-append xs ys)
      ∙ sym (append_assoc (vols c) (gather vols xs) (gather vols ys))

  pub volumes-one : (xs : List C) (c : C) → gather vols (xs ++ c ∷ []) ≡ gather vols xs ++ vols c
  volumes-one xs c = volumes-append xs (c ∷ []) ∙ ap (λ vs. gather vols xs ++ vs) (append-nil (vols c))

  -- ---- one more

  pub gathered_more : (cs : List C) (i : ℕ) (c : C) (now next : List LiveVolume)
      → i < length cs → c ≡ get_or cs i c → now ≡ gather vols (take i cs)
      → next ≡ now ++ vols c → next ≡ gather vols (take (i + 1) cs)
  gathered_more cs i c now next below is before then =
      then ∙ ap (λ vs. vs ++ vols c) before ∙ sym (volumes-one (take i cs) c)
      ∙ ap (λ d. gather vols (take i cs ++ d ∷ [])) is
      ∙ ap (gather vols) (sym (take_more cs i c below))

  -- ---- one in the place of another

  module _ (R : List LiveVolume → List LiveVolume → Type 0)
      (before : (us xs ys : List LiveVolume) → R xs ys → R (us ++ xs) (us ++ ys))
      (behind : (us xs ys : List LiveVolume) → R xs ys → R (xs ++ us) (ys ++ us)) where
    pub set_one : (cs : List C) (at : ℕ) (d c : C) → at < length cs → R (vols (get_or cs at d)) (vols c)
        → R (gather vols cs) (gather vols (set cs at c))
    set_one [] at d c h r = absurd (omega (arith, h))
    set_one (x ∷ cs) zero d c h r = behind (gather vols cs) (vols x) (vols c) r
    set_one (x ∷ cs) (suc at) d c h r =
        before (vols x) (gather vols cs) (gather vols (set cs at c)) (set_one cs at d c (omega (arith, h)) r)

  pub added_one : (v : LiveVolume) (cs : List C) (at : ℕ) (d c : C) → at < length cs
      → IsPermutation (v ∷ vols (get_or cs at d)) (vols c)
      → IsPermutation (v ∷ gather vols cs) (gather vols (set cs at c))
  added_one v = set_one (λ xs ys. IsPermutation (v ∷ xs) ys)
      (λ us xs ys h. IsPermutation-trans (v ∷ (us ++ xs)) (us ++ v ∷ xs) (us ++ ys)
      (IsPermutation-sym (us ++ v ∷ xs) (v ∷ (us ++ xs)) (IsPermutation-middle us v xs))
      (IsPermutation-append_right us (v ∷ xs) ys h))
      (λ us xs ys h. IsPermutation-append_left us (v ∷ xs) ys h)

  pub kept_one : (cs : List C) (at : ℕ) (d c : C) → at < length cs
      → IsPermutation (vols (get_or cs at d)) (vols c)
      → IsPermutation (gather vols cs) (gather vols (set cs at c))
  kept_one = set_one IsPermutation IsPermutation-append_right IsPermutation-append_left

  pub last_added : (v : LiveVolume) (cs next : List C) (c : C) → next ≡ cs ++ c ∷ [] → vols c ≡ v ∷ []
      → IsPermutation (v ∷ gather vols cs) (gather vols next)
  last_added v cs next c then is =
      subst (IsPermutation (v ∷ gather vols cs))
      (sym (ap (gather vols) then ∙ volumes-one cs c ∙ ap (λ vs. gather vols cs ++ vs) is))
      (IsPermutation-append_comm (v ∷ []) (gather vols cs))

  -- ---- one cut in two

  cut_there : (cs : List C) (at : ℕ) (d a b : C) → at < length cs
      → IsPermutation (vols (get_or cs at d)) (vols a ++ vols b)
      → IsPermutation (gather vols cs) (gather vols (set (insert cs (suc at) b) at a))
  cut_there [] at d a b h r = absurd (omega (arith, h))
  cut_there (x ∷ cs) zero d a b h r =
      subst (IsPermutation (vols x ++ gather vols cs)) (append_assoc (vols a) (vols b) (gather vols cs))
      (IsPermutation-append_left (gather vols cs) (vols x) (vols a ++ vols b) r)
  cut_there (x ∷ cs) (suc at) d a b h r =
      IsPermutation-append_right (vols x) (gather vols cs) (gather vols (set (insert cs (suc at) b) at a))
      (cut_there cs at d a b (omega (arith, h)) r)

  next_is : (at : ℕ) → suc at ≡ at + 1
  next_is at = omega arith

  pub cut_in_two : (cs : List C) (at : ℕ) (d a b : C) → at < length cs
      → IsPermutation (vols (get_or cs at d)) (vols a ++ vols b)
      → IsPermutation (gather vols cs) (gather vols (set (insert cs (at + 1) b) at a))
  cut_in_two cs at d a b h r =
      subst (λ n. IsPermutation (gather vols cs) (gather vols (set (insert cs n b) at a))) (next_is at)
      (cut_there cs at d a b h r)

  put_there : (cs : List C) (at : ℕ) (d a b : C) → at < length cs
      → vols (get_or cs at d) ≡ vols a ++ vols b
      → gather vols (insert (set cs at a) (suc at) b) ≡ gather vols cs
  put_there [] at d a b h r = absurd (omega (arith, h))
  put_there (x ∷ cs) zero d a b h r =
      sym (append_assoc (vols a) (vols b) (gather vols cs)) ∙ ap (λ vs. vs ++ gather vols cs) (sym r)
  put_there (x ∷ cs) (suc at) d a b h r =
      ap (λ vs. vols x ++ vs) (put_there cs at d a b (omega (arith, h)) r)

  pub insert_after : (cs : List C) (at : ℕ) (d a b : C) → at < length cs
      → vols (get_or cs at d) ≡ vols a ++ vols b
      → gather vols (insert (set cs at a) (at + 1) b) ≡ gather vols cs
  insert_after cs at d a b h r =
      ap (λ n. gather vols (insert (set cs at a) n b)) (sym (next_is at)) ∙ put_there cs at d a b h r

  -- ---- an empty one taken out

  pub removed : (cs : List C) (at : ℕ) (d : C) → at < length cs → vols (get_or cs at d) ≡ []
      → gather vols (remove cs at) ≡ gather vols cs
  removed [] at d h r = absurd (omega (arith, h))
  removed (x ∷ cs) zero d h r = ap (λ vs. vs ++ gather vols cs) (sym r)
  removed (x ∷ cs) (suc at) d h r = ap (λ vs. vols x ++ vs) (removed cs at d (omega (arith, h)) r)

  -- ---- one joined with the next one

  pub merged : (cs : List C) (at : ℕ) (d e c : C) → at + 1 < length cs → d ≡ get_or (remove cs (at + 1)) at d
      → e ≡ get_or cs (at + 1) e → vols c ≡ vols d ++ vols e
      → gather vols (set (remove cs (at + 1)) at c) ≡ gather vols cs
  merged cs at d e c h is are same =
      ap (λ n. gather vols (set (remove cs n) at c)) (sym (next_is at))
      ∙ merged_there cs at d e c (omega (arith, h))
      (is ∙ ap (λ n. get_or (remove cs n) at d) (sym (next_is at)))
      (are ∙ ap (λ n. get_or cs n e) (sym (next_is at))) same where
        merged_there : (cs : List C) (at : ℕ) (d e c : C) → suc at < length cs
            → d ≡ get_or (remove cs (suc at)) at d → e ≡ get_or cs (suc at) e → vols c ≡ vols d ++ vols e
            → gather vols (set (remove cs (suc at)) at c) ≡ gather vols cs
        merged_there [] at d e c h is are same = absurd (omega (arith, h))
        merged_there (x ∷ []) at d e c h is are same = absurd (omega (arith, h))
        merged_there (x ∷ y ∷ cs) zero d e c h is are same =
            ap (λ vs. vs ++ gather vols cs) (same ∙ (λ i. vols (is i) ++ vols (are i)))
            ∙ append_assoc (vols x) (vols y) (gather vols cs)
        merged_there (x ∷ y ∷ cs) (suc at) d e c h is are same =
            ap (λ vs. vols x ++ vs) (merged_there (y ∷ cs) at d e c (omega (arith, h)) is are same)

  -- ---- volumes taken out of each

  module _ (P : C → Type 0) (stays : LiveVolume → Bool) where
    -- some are done, and the others are what they were
    pub record AreLeft (old : List C) (at : ℕ) (now : List C) : Type 0 where
      pub done : List C
      pub count : length done ≡ at
      pub is : now ≡ done ++ drop at old
      pub same : gather vols done ≡ filter stays (gather vols (take at old))
      pub whole : AllByRecursion P old → AllByRecursion P done

    pub leave_begins : (old : List C) → AreLeft old 0 old
    leave_begins old = record {
      done = [];
      count = refl;
      is = refl;
      same = refl;
      whole = λ h. tt;
    }

    -- one more is
    pub leave_goes_on : (old : List C) (at : ℕ) (now next : List C) (d c : C)
        → AreLeft old at now → at < length now → next ≡ set now at c
        → vols c ≡ filter stays (vols (get_or now at d)) → (P (get_or now at d) → P c)
        → AreLeft old (at + 1) next
    leave_goes_on old at now next d c before within then items kept = record {
      done = before.done ++ c ∷ [];
      count = length-append before.done (c ∷ []) ∙ ap (λ n. n + 1) before.count;
      is = then ∙ (λ i. set (there i) (sym before.count i) c)
          ∙ set-append_seam before.done one (drop (at + 1) old) c
          ∙ sym (append_assoc before.done (c ∷ []) (drop (at + 1) old));
      same = volumes-one before.done c
          ∙ (λ i. before.same i ++ (items ∙ ap (λ k. filter stays (vols k)) mine) i)
          ∙ sym (ap (λ cs. filter stays (gather vols cs)) (take_more old at d below)
          ∙ ap (filter stays) (volumes-one (take at old) one)
          ∙ filter-append stays (gather vols (take at old)) (vols one));
      whole = λ h. all_append P before.done (c ∷ []) (before.whole h)
          (kept (subst P (sym mine) (all_at P old at d h below)), tt);
    } where
      below : at < length old
      below = omega (
        arith,
        within,
        before.count,
        ap length before.is,
        length-append before.done (drop at old),
        length-drop at old,
      )

      one : C
      one = get_or old at d

      there : now ≡ before.done ++ one ∷ drop (at + 1) old
      there = before.is ∙ ap (λ cs. before.done ++ cs) (drop_more old at d below)

      mine : get_or now at d ≡ one
      mine = (λ i. get_or (there i) (sym before.count i) d)
          ∙ get_or-append_seam before.done one (drop (at + 1) old) d
