-- Volumes of a plan that are taken out of some.
use Rattle.std.proofs.Common.{◌≡◌, ℕ, suc, ◌+◌, ◌-◌, ◌≤◌, Bool, true, false, cond, not, List, [], ◌∷◌, ◌++◌, length, refl, sym, ap, subst, ◌∙◌, arith}
use Rattle.std.specs.List.{filter}
use Rattle.std.proofs.lemmas.List.{length-append}
use Rattle.std.proofs.lemmas.List.Elements.{filter-append}
use Rattle.live_index.specs.declared.volume.LiveVolume.{LiveVolume}
use Rattle.live_index.specs.Live.{RemovesPlanVolumes, count_of, is_of_other_plan, is_volume_of}

module _ (o id : List ℕ) where
  count-append : (xs ys : List LiveVolume) → count_of o id (xs ++ ys) ≡ count_of o id xs + count_of o id ys
  count-append xs ys = ap length (filter-append (is_volume_of o id) xs ys)
      ∙ length-append (filter (is_volume_of o id) xs) (filter (is_volume_of o id) ys)

  -- ---- between others

  pub left_behind : (n : ℕ) (us xs ys : List LiveVolume) → RemovesPlanVolumes o id xs ys n
      → RemovesPlanVolumes o id (us ++ xs) (us ++ ys) n
  left_behind n us xs ys h = record {
    others = filter-append (is_of_other_plan o id) us ys
        ∙ ap (λ vs. filter (is_of_other_plan o id) us ++ vs) h.others
        ∙ sym (filter-append (is_of_other_plan o id) us xs);
    fewer = let a = count-append us xs in let b = count-append us ys in omega (arith, a, b, h.fewer);
  }

  pub left_before : (n : ℕ) (us xs ys : List LiveVolume) → RemovesPlanVolumes o id xs ys n
      → RemovesPlanVolumes o id (xs ++ us) (ys ++ us) n
  left_before n us xs ys h = record {
    others = filter-append (is_of_other_plan o id) ys us
        ∙ ap (λ vs. vs ++ filter (is_of_other_plan o id) us) h.others
        ∙ sym (filter-append (is_of_other_plan o id) xs us);
    fewer = let a = count-append xs us in let b = count-append ys us in omega (arith, a, b, h.fewer);
  }

  -- ---- all of some

  both_counted : (xs : List LiveVolume) → count_of o id xs + length (filter (is_of_other_plan o id) xs) ≡ length xs
  both_counted [] = refl
  both_counted (x ∷ xs) = go (is_volume_of o id x) (both_counted xs) where
    go : (b : Bool) → count_of o id xs + length (filter (is_of_other_plan o id) xs) ≡ length xs
        → length (cond b (x ∷ filter (is_volume_of o id) xs) (filter (is_volume_of o id) xs))
        + length (cond (not b) (x ∷ filter (is_of_other_plan o id) xs) (filter (is_of_other_plan o id) xs))
        ≡ suc (length xs)
    go true e = omega (arith, e)
    go false e = omega (arith, e)

  twice : (xs : List LiveVolume) → filter (is_of_other_plan o id) (filter (is_of_other_plan o id) xs)
      ≡ filter (is_of_other_plan o id) xs
  twice [] = refl
  twice (x ∷ xs) = go (is_volume_of o id x) refl (twice xs) where
    go : (b : Bool) → is_volume_of o id x ≡ b
        → filter (is_of_other_plan o id) (filter (is_of_other_plan o id) xs) ≡ filter (is_of_other_plan o id) xs
        → filter (is_of_other_plan o id) (cond (not b) (x ∷ filter (is_of_other_plan o id) xs) (filter (is_of_other_plan o id) xs))
        ≡ cond (not b) (x ∷ filter (is_of_other_plan o id) xs) (filter (is_of_other_plan o id) xs)
    go true e h = h
    go false e h = ap (λ b. cond (not b) (x ∷ filter (is_of_other_plan o id) (filter (is_of_other_plan o id) xs))
        (filter (is_of_other_plan o id) (filter (is_of_other_plan o id) xs))) e ∙ ap (λ vs. x ∷ vs) h

  pub none_of : (xs : List LiveVolume) → count_of o id (filter (is_of_other_plan o id) xs) ≡ 0
  none_of xs =
      let a = both_counted (filter (is_of_other_plan o id) xs) in
      let b = ap length (twice xs) in omega (arith, a, b)

  pub left_filtered : (old new : List LiveVolume) (gone : ℕ) → new ≡ filter (is_of_other_plan o id) old
      → gone ≡ length old - length new → RemovesPlanVolumes o id old new gone
  left_filtered old new gone is count = record {
    others = ap (filter (is_of_other_plan o id)) is ∙ twice old;
    fewer =
        let a = both_counted old in
        let b = ap length is in
        let c = ap (count_of o id) is ∙ none_of old in omega (arith, a, b, c, count);
  }

  none_there : (xs : List LiveVolume) → count_of o id xs ≡ 0 → filter (is_of_other_plan o id) xs ≡ xs
  none_there [] = λ e. refl
  none_there (x ∷ xs) = go (is_volume_of o id x) (none_there xs) where
    go : (b : Bool) → (count_of o id xs ≡ 0 → filter (is_of_other_plan o id) xs ≡ xs)
        → length (cond b (x ∷ filter (is_volume_of o id) xs) (filter (is_volume_of o id) xs)) ≡ 0
        → cond (not b) (x ∷ filter (is_of_other_plan o id) xs) (filter (is_of_other_plan o id) xs) ≡ x ∷ xs
    go true h e = absurd (omega (arith, e))
    go false h e = ap (λ vs. x ∷ vs) (h e)

  -- so many as there were
  pub left_all : (old new : List LiveVolume) (gone : ℕ) → RemovesPlanVolumes o id old new gone → count_of o id old ≤ gone
      → new ≡ filter (is_of_other_plan o id) old
  left_all old new gone h all = sym (none_there new (omega (arith, h.fewer, all))) ∙ h.others

  -- ---- counts

  pub count_less : (test : LiveVolume → Bool) (xs : List LiveVolume)
      → count_of o id (filter test xs) ≤ count_of o id xs
  count_less test [] = omega arith
  count_less test (x ∷ xs) = go (test x) (is_volume_of o id x) refl (count_less test xs) where
    go : (a b : Bool) → is_volume_of o id x ≡ b → count_of o id (filter test xs) ≤ count_of o id xs
        → count_of o id (cond a (x ∷ filter test xs) (filter test xs))
        ≤ length (cond b (x ∷ filter (is_volume_of o id) xs) (filter (is_volume_of o id) xs))
    go true true e h = subst (λ b. length (cond b (x ∷ filter (is_volume_of o id) (filter test xs))
        (filter (is_volume_of o id) (filter test xs))) ≤ suc (count_of o id xs)) (sym e) (omega (arith, h))
    go true false e h = subst (λ b. length (cond b (x ∷ filter (is_volume_of o id) (filter test xs))
        (filter (is_volume_of o id) (filter test xs))) ≤ count_of o id xs) (sym e) h
    go false true e h = omega (arith, h)
    go false false e h = h

  -- the same volumes
  pub left_as : (xs ys zs : List LiveVolume) (n : ℕ) → RemovesPlanVolumes o id xs ys n → zs ≡ ys → RemovesPlanVolumes o id xs zs n
  left_as xs ys zs n h is = subst (λ vs. RemovesPlanVolumes o id xs vs n) (sym is) h
