-- Laws of sides, with their proofs: what is said beside an operator's requests along a run is made of what
-- the operator owned at first, its requests, and what others held before each.
use Rattle.std.proofs.Common.{◌≡◌, ℕ, Bool, true, false, cond, List, [], ◌∷◌, map, Option, None, refl, sym}
use Rattle.std.proofs.Common.{ap, ◌∙◌}
use Rattle.std.proofs.Math.Path.{fun_ext}
use Rattle.std.specs.List.{AllZip}
use Rattle.volume4d.specs.Volume.{Point, is_leaf}
use Rattle.volume4d.specs.Slab.{greater, level_where}
use Rattle.volume4d.proofs.lemmas.Volume.{area_leaf}
use Rattle.desk_rules.specs.declared.plan.PlanRow.{PlanRow}
use Rattle.desk_rules.specs.Outcome.{is_live, row_holds, top_priority}
use Rattle.desk_rules.proofs.lemmas.Plan.{top_priority-cons, top_priority-nil}
use Rattle.desk_store.specs.World.{held, others_of}
use Rattle.desk_run.specs.Verdicts.{DeskWorld, Side, side, held_in}
use Rattle.desk_run.specs.Calls.{OwnAlike, HoldAlike, is_from, beside, along}
use Rattle.std.proofs.lemmas.Bool.{and_parts}

-- a plan holds no point off the leaves
unheld : (row : PlanRow) (x : Point) → is_leaf x.leaf ≡ false → row_holds row x ≡ false
unfolding row_holds
unheld row x off = by_test (row_holds row x) refl where
  by_test : (b : Bool) → row_holds row x ≡ b → b ≡ false
  by_test true e =
      let on : is_leaf x.leaf ≡ true = area_leaf row.area x (and_parts (is_live row.usage) _ e).1 in
      cc
  by_test false e = refl

none_there : (rows : List PlanRow) (x : Point) → is_leaf x.leaf ≡ false → top_priority rows x ≡ None
none_there [] x off = top_priority-nil x
none_there (row ∷ rows) x off =
    top_priority-cons row rows x
    ∙ ap (λ b. greater (level_where b row.priority) (top_priority rows x)) (unheld row x off)
    ∙ none_there rows x off

-- so what is the same at leaves is the same everywhere
pub everywhere : (o : List ℕ) (v w : DeskWorld) → HoldAlike o v w → held_in v o ≡ held_in w o
unfolding held
everywhere o v w same = fun_ext (λ x. by_leaf x (is_leaf x.leaf) refl) where
  by_leaf : (x : Point) (b : Bool) → is_leaf x.leaf ≡ b → held_in v o x ≡ held_in w o x
  by_leaf x true e = same x e
  by_leaf x false e = none_there (others_of o v.content) x e ∙ sym (none_there (others_of o w.content) x e)

abbrev pub Levels : Type 0
Levels = Point → Option ℕ

-- what others hold in each of some worlds
abbrev pub levels_in : List ℕ → List DeskWorld → List Levels
levels_in o worlds = map (λ w. held_in w o) worlds

levels_are : (o : List ℕ) (vs ws : List DeskWorld) → AllZip (HoldAlike o) vs ws
    → levels_in o vs ≡ levels_in o ws
levels_are o [] [] same = refl
levels_are o [] (w ∷ ws) same = absurd same
levels_are o (v ∷ vs) [] same = absurd same
levels_are o (v ∷ vs) (w ∷ ws) same = λ i. everywhere o v w same.0 i ∷ levels_are o vs ws same.1 i

-- what f says of the operator's requests is what g makes of what the operator owns and what others hold
abbrev pub IsSeenBy : {R A : Type 0} → (R → Option (List ℕ)) → List ℕ → (DeskWorld → R → A)
    → (Side → Levels → R → A) → Type 0
IsSeenBy {R} caller o f g =
    (w : DeskWorld) (r : R) → is_from o (caller r) ≡ true → f w r ≡ g (side w o) (held_in w o) r

-- the operator's own requests leave it what keep says, and no other request changes what it owns
pub record IsKeptBy {R : Type 0} (caller : R → Option (List ℕ)) (o : List ℕ)
    (left : DeskWorld → R → DeskWorld) (keep : Side → Levels → R → Side) : Type 0 where
  pub mine : IsSeenBy caller o (λ w r. side (left w r) o) keep
  pub others : (w : DeskWorld) (r : R) → is_from o (caller r) ≡ false → side (left w r) o ≡ side w o

-- what g makes of each of an operator's requests, by what it owned at first and what others held before each
abbrev pub alone : {R A : Type 0} → (Side → Levels → R → Side) → (Side → Levels → R → A) → Side → List R
    → List Levels → List A
alone keep g mine [] levels = []
alone keep g mine (r ∷ rs) [] = []
alone keep g mine (r ∷ rs) (l ∷ levels) = g mine l r ∷ alone keep g (keep mine l r) rs levels

-- what it owns in the end
abbrev pub last_own : {R : Type 0} → (Side → Levels → R → Side) → Side → List R → List Levels → Side
last_own keep mine [] levels = mine
last_own keep mine (r ∷ rs) [] = mine
last_own keep mine (r ∷ rs) (l ∷ levels) = last_own keep (keep mine l r) rs levels

-- the world that all requests leave
abbrev pub after_all : {R : Type 0} → (DeskWorld → R → DeskWorld) → DeskWorld → List R → DeskWorld
after_all left w [] = w
after_all left w (r ∷ rs) = after_all left (left w r) rs

module _ {R : Type 0} (caller : R → Option (List ℕ)) (o : List ℕ) (left : DeskWorld → R → DeskWorld)
    (keep : Side → Levels → R → Side) (kept : IsKeptBy caller o left keep) where
  -- the operator's requests, and the worlds that they meet
  abbrev asked_in : List R → List R
  asked_in rs = beside caller o rs rs

  abbrev met_in : DeskWorld → List R → List DeskWorld
  met_in w rs = beside caller o rs (along left (λ u r. u) w rs)

  found_is : {A : Type 0} (f : DeskWorld → R → A) (g : Side → Levels → R → A) → IsSeenBy caller o f g
      → (w : DeskWorld) (rs : List R)
      → beside caller o rs (along left f w rs)
      ≡ alone keep g (side w o) (asked_in rs) (levels_in o (met_in w rs))
  found_is f g seen w [] = refl
  found_is {A} f g seen w (r ∷ rs) =
      by_test (is_from o (caller r)) refl (found_is f g seen (left w r) rs) where
        rest : List A
        rest = beside caller o rs (along left f (left w r) rs)

        mine : List R
        mine = asked_in rs

        worlds : List DeskWorld
        worlds = met_in (left w r) rs

        by_test : (b : Bool) → is_from o (caller r) ≡ b
            → rest ≡ alone keep g (side (left w r) o) mine (levels_in o worlds)
            → cond b (f w r ∷ rest) rest
            ≡ alone keep g (side w o) (cond b (r ∷ mine) mine) (levels_in o (cond b (w ∷ worlds) worlds))
        by_test true e ih =
            ap (λ x. x ∷ rest) (seen w r e)
            ∙ ap (λ xs. g (side w o) (held_in w o) r ∷ xs)
            (ih ∙ ap (λ m. alone keep g m mine (levels_in o worlds)) (kept.mine w r e))
        by_test false e ih = ih ∙ ap (λ m. alone keep g m mine (levels_in o worlds)) (kept.others w r e)

  last_is : (w : DeskWorld) (rs : List R)
      → side (after_all left w rs) o ≡ last_own keep (side w o) (asked_in rs) (levels_in o (met_in w rs))
  last_is w [] = refl
  last_is w (r ∷ rs) = by_test (is_from o (caller r)) refl (last_is (left w r) rs) where
    mine : List R
    mine = asked_in rs

    worlds : List DeskWorld
    worlds = met_in (left w r) rs

    end : Side
    end = side (after_all left (left w r) rs) o

    by_test : (b : Bool) → is_from o (caller r) ≡ b
        → end ≡ last_own keep (side (left w r) o) mine (levels_in o worlds)
        → end ≡ last_own keep (side w o) (cond b (r ∷ mine) mine) (levels_in o (cond b (w ∷ worlds) worlds))
    by_test true e ih = ih ∙ ap (λ m. last_own keep m mine (levels_in o worlds)) (kept.mine w r e)
    by_test false e ih = ih ∙ ap (λ m. last_own keep m mine (levels_in o worlds)) (kept.others w r e)

  -- two runs in which an operator owned the same at first, asks the same and meets the same of others say the
  -- same beside its requests
  pub same_found : {A : Type 0} (f : DeskWorld → R → A) (g : Side → Levels → R → A) → IsSeenBy caller o f g
      → (v w : DeskWorld) (rs ss : List R) → OwnAlike o v w → asked_in rs ≡ asked_in ss
      → AllZip (HoldAlike o) (met_in v rs) (met_in w ss)
      → beside caller o rs (along left f v rs) ≡ beside caller o ss (along left f w ss)
  same_found f g seen v w rs ss own_same asked_same held_same =
      found_is f g seen v rs
      ∙ (λ i. alone keep g (own_same i) (asked_same i)
      (levels_are o (met_in v rs) (met_in w ss) held_same i))
      ∙ sym (found_is f g seen w ss)

  -- and leave it the same
  pub same_last : (v w : DeskWorld) (rs ss : List R) → OwnAlike o v w → asked_in rs ≡ asked_in ss
      → AllZip (HoldAlike o) (met_in v rs) (met_in w ss)
      → OwnAlike o (after_all left v rs) (after_all left w ss)
  same_last v w rs ss own_same asked_same held_same =
      last_is v rs
      ∙ (λ i. last_own keep (own_same i) (asked_same i)
      (levels_are o (met_in v rs) (met_in w ss) held_same i))
      ∙ sym (last_is w ss)

  -- a run in which an operator asks for nothing leaves what it owns
  pub quiet_is : (w : DeskWorld) (rs : List R) → asked_in rs ≡ [] → OwnAlike o (after_all left w rs) w
  quiet_is w rs none =
      last_is w rs ∙ ap (λ mine. last_own keep (side w o) mine (levels_in o (met_in w rs))) none
