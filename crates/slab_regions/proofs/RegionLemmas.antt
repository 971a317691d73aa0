-- Slabs round others, the points of slabs that are joined or clipped, and a slab that is sought alone.
use Rattle.std.proofs.Common.{◌≡◌, ℕ, ◌+◌, ◌<◌, Bool, true, false, ◌&&◌, ◌||◌, List, [], ◌∷◌, ◌++◌, cond, length, get_or, take, Option, None, refl, sym, ap, ◌∙◌, IsPermutation}
use Rattle.std.proofs.lemmas.Bool.{and_from}
use Rattle.std.proofs.lemmas.List.{take_more}
use Rattle.std.proofs.lemmas.List.Folds.{list_any-append, list_any_more}
use Rattle.std.proofs.lemmas.List.Sorted.{list_any-IsPermutation}
use Rattle.volume4d.specs.declared.slab.Slab.{Slab}
use Rattle.volume4d.specs.declared.slab.Held.{Held}
use Rattle.volume4d.specs.Slab.{HasAll, IsClip, IsJoin, greater, level_where, slab_has, slabs_have, top_held}
use Rattle.volume4d.specs.Volume.{Point}
use Rattle.volume4d.proofs.lemmas.Bounds.{clip_is, join_has}
use Rattle.volume4d.proofs.lemmas.Level.{greater_assoc, greater_none, top_held-nil, top_held-push}
use Rattle.slab_regions.specs.Regions.{HaveEach}

or_false : (b : Bool) → (b || false) ≡ b
or_false true = refl
or_false false = refl

-- ---- slabs that are joined

-- the slabs of a list from a first one on, with one more
any_more : (first : Slab) (others : List Slab) (i : ℕ) (s : Slab) (x : Point) → i < length others
    → s ≡ get_or others i s → slabs_have (first ∷ take (i + 1) others) x
    ≡ (slabs_have (first ∷ take i others) x || slab_has s x)
any_more first others i s x below is =
    ap (λ b. slab_has first x || b) (list_any_more (λ t. slab_has t x) others i s below
    ∙ ap (λ t. slabs_have (take i others) x || slab_has t x) (sym is))
    ∙ grouped (slab_has first x) (slabs_have (take i others) x) (slab_has s x) where
      grouped : (a b c : Bool) → (a || (b || c)) ≡ ((a || b) || c)
      grouped true b c = refl
      grouped false b c = refl

pub whole_first : (first : Slab) → HasAll (slabs_have (first ∷ [])) first
whole_first first x h = sym (or_false (slab_has first x)) ∙ h

-- a slab round the first ones, joined with one more
pub whole_on : (first : Slab) (others : List Slab) (i : ℕ) (s old new : Slab) → i < length others
    → s ≡ get_or others i s → HasAll (slabs_have (first ∷ take i others)) old → IsJoin old s new
    → HasAll (slabs_have (first ∷ take (i + 1) others)) new
whole_on first others i s old new below is before join x h =
    go (slabs_have (first ∷ take i others) x) refl (sym (any_more first others i s x below is) ∙ h) where
      last : (a b : Bool) → b ≡ true → (a || b) ≡ true
      last true b e = refl
      last false b e = e

      go : (b : Bool) → slabs_have (first ∷ take i others) x ≡ b → (b || slab_has s x) ≡ true
          → slab_has new x ≡ true
      go true e k = join_has old s new x join (ap (λ t. t || slab_has s x) (before x e))
      go false e k = join_has old s new x join (last (slab_has old x) (slab_has s x) k)

-- the points of the first ones are in the regions so far or in the last one
abbrev pub AreGathered : Slab → List Slab → List Slab → Slab → Type 0
AreGathered first so_far regions region =
    (x : Point) → slabs_have (first ∷ so_far) x ≡ true → (slabs_have regions x || slab_has region x) ≡ true

pub gathered_joined : (first : Slab) (others regions : List Slab) (i : ℕ) (s old new : Slab)
    → i < length others → s ≡ get_or others i s → AreGathered first (take i others) regions old
    → IsJoin old s new → AreGathered first (take (i + 1) others) regions new
gathered_joined first others regions i s old new below is before join x h =
    go (slabs_have (first ∷ take i others) x) refl (sym (any_more first others i s x below is) ∙ h) where
      join_old : slab_has old x ≡ true → slab_has new x ≡ true
      join_old e = join_has old s new x join (ap (λ t. t || slab_has s x) e)

      join_one : (b : Bool) → slab_has old x ≡ b → slab_has s x ≡ true → slab_has new x ≡ true
      join_one true e k = join_old e
      join_one false e k = join_has old s new x join (ap (λ t. t || slab_has s x) e ∙ k)

      kept : (a b c : Bool) → (a || b) ≡ true → (b ≡ true → c ≡ true) → (a || c) ≡ true
      kept true b c e k = refl
      kept false b c e k = k e

      last : (a b : Bool) → b ≡ true → (a || b) ≡ true
      last true b e = refl
      last false b e = e

      go : (b : Bool) → slabs_have (first ∷ take i others) x ≡ b → (b || slab_has s x) ≡ true
          → (slabs_have regions x || slab_has new x) ≡ true
      go true e k = kept (slabs_have regions x) (slab_has old x) (slab_has new x) (before x e) join_old
      go false e k = last (slabs_have regions x) (slab_has new x) (join_one (slab_has old x) refl k)

pushed_has : (regions : List Slab) (s : Slab) (x : Point)
    → slabs_have (regions ++ s ∷ []) x ≡ (slabs_have regions x || slab_has s x)
pushed_has regions s x = list_any-append (λ t. slab_has t x) regions (s ∷ [])
    ∙ ap (λ t. slabs_have regions x || t) (or_false (slab_has s x))

pub gathered_pushed : (first : Slab) (others regions new : List Slab) (i : ℕ) (s old : Slab)
    → i < length others → s ≡ get_or others i s → AreGathered first (take i others) regions old
    → new ≡ regions ++ old ∷ [] → AreGathered first (take (i + 1) others) new s
gathered_pushed first others regions new i s old below is before pushed x h =
    ap (λ ss. slabs_have ss x || slab_has s x) pushed ∙ ap (λ b. b || slab_has s x) (pushed_has regions old x)
    ∙ kept (slabs_have (first ∷ take i others) x) (slabs_have regions x || slab_has old x) (slab_has s x)
    (before x) (sym (any_more first others i s x below is) ∙ h) where
      kept : (a b c : Bool) → (a ≡ true → b ≡ true) → (a || c) ≡ true → (b || c) ≡ true
      kept true b c f k = ap (λ t. t || c) (f refl)
      kept false true c f k = refl
      kept false false c f k = k

pub same_slabs : (some others : List Slab) → IsPermutation some others → HaveEach some others
same_slabs some others same x h = sym (list_any-IsPermutation (λ s. slab_has s x) some others same) ∙ h

-- ---- slabs that are clipped

-- one more of some slabs, clipped
pub clipped_more : (helds new more : List Held) (i : ℕ) (h : Held) (region slab : Slab) (x : Point)
    (before : Option ℕ) → i < length more → h ≡ get_or more i h → IsClip region h.slab slab
    → new ≡ helds ++ record { slab = slab; priority = h.priority } ∷ []
    → top_held helds x ≡ greater before (cond (slab_has region x) (top_held (take i more) x) None)
    → top_held new x ≡ greater before (cond (slab_has region x) (top_held (take (i + 1) more) x) None)
clipped_more helds new more i h region slab x before below is clip pushed so_far =
    ap (λ hs. top_held hs x) pushed ∙ top_held-push helds (record { slab = slab; priority = h.priority }) x
    ∙ ap (λ l. greater l (level_where (slab_has slab x) h.priority)) so_far
    ∙ greater_assoc before (cond (slab_has region x) (top_held (take i more) x) None)
    (level_where (slab_has slab x) h.priority)
    ∙ ap (greater before) (ap (λ b. greater (cond (slab_has region x) (top_held (take i more) x) None)
    (level_where b h.priority)) (clip_is region h.slab slab x clip)
    ∙ go (slab_has region x) ∙ ap (λ l. cond (slab_has region x) l None)
    (sym (ap (λ hs. top_held hs x) (take_more more i h below ∙ ap (λ k. take i more ++ k ∷ []) (sym is))
    ∙ top_held-push (take i more) h x))) where
      go : (b : Bool) → greater (cond b (top_held (take i more) x) None)
          (level_where (b && slab_has h.slab x) h.priority)
          ≡ cond b (greater (top_held (take i more) x) (level_where (slab_has h.slab x) h.priority)) None
      go true = refl
      go false = refl

pub clipped_none : (l : Option ℕ) (b : Bool) (x : Point) → l ≡ greater l (cond b (top_held [] x) None)
clipped_none l true x = sym (ap (greater l) (top_held-nil x) ∙ greater_none l)
clipped_none l false x = sym (greater_none l)

-- ---- slabs that are sought

-- one slab is sought
pub one_has : (extent : Slab) (parts : List Slab) (x : Point) → parts ≡ extent ∷ [] → slab_has extent x ≡ true
    → (slab_has extent x && slabs_have parts x) ≡ true
one_has extent parts x is here =
    and_from (slab_has extent x) (slabs_have parts x) here
    (ap (λ ps. slabs_have ps x) is ∙ or_false (slab_has extent x) ∙ here)
