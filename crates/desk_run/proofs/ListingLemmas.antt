-- What an operator's plans hold among each other, slab by slab and plan by plan.
use Rattle.std.proofs.Common.{◌≡◌, ℕ, ◌+◌, ◌≤◌, ◌<◌, Bool, true, false, true≢false, ◌&&◌, ◌||◌, not, cond, List, [], ◌∷◌, ◌++◌, suc, length, map, get_or, take, drop, Option, Some, None, refl, sym, ap, subst, ◌∙◌, arith}
use Rattle.std.specs.Prelude.{nat_le, max, slice_get}
use Rattle.std.specs.List.{filter, list_any}
use Rattle.std.proofs.lemmas.Bool.{and_parts}
use Rattle.std.proofs.lemmas.Bool.Decides.{nat_tests}
use Rattle.std.proofs.lemmas.List.{take_more, drop_more}
use Rattle.std.proofs.lemmas.List.Elements.{All-nil}
use Rattle.std.proofs.lemmas.List.Folds.{list_any_more, list_any-append}
use Rattle.std.proofs.lemmas.List.Sorted.{IsNonDecreasingBy-drop, IsNonDecreasingBy-short}
use Rattle.s2_hilbert.specs.Curve.{position_of}
use Rattle.volume4d.specs.declared.slab.Slab.{Slab}
use Rattle.volume4d.specs.declared.slab.Held.{Held}
use Rattle.volume4d.specs.Volume.{Point, is_leaf, Block, area_has, block_has}
use Rattle.volume4d.specs.Slab.{slab_has, slab_has_leaf, slabs_have, top_held, greater, level_where, AreFilled, IsBounds, IsFilled, overlap, IsCluster}
use Rattle.volume4d.proofs.lemmas.Level.{greater_none, greater_assoc, top_held-push, top_held-nil}
use Rattle.volume4d.proofs.lemmas.Bounds.{overlapping}
use Rattle.volume4d.specs.Sweep.{Ascend}
use Rattle.desk_rules.specs.declared.plan.PlanRow.{PlanRow}
use Rattle.desk_rules.specs.Conflict.{at_least}
use Rattle.desk_rules.specs.Outcome.{is_live, row_holds, top_priority}
use Rattle.desk_rules.proofs.lemmas.Plan.{top_priority-cons, top_priority-nil}
use Rattle.desk_rules.specs.declared.reply.Shown.{Shown}
use Rattle.desk_store.specs.World.{World, has_id, held, held_at, plans_of}
use Rattle.desk_store.proofs.PlanLemmas.{overlaps_at}
use Rattle.desk_store.proofs.lemmas.Rival.{at_least_greater}
use Rattle.desk_run.specs.HeldAmong.{AreSlabsHeld, AreLeft, AreAfter, HaveAll, HaveLevelAt, own_level, own_top, some_hold}
use Rattle.desk_run.specs.Verdicts.{shown_in, shown_plan}

-- ---- the slabs that a plan holds

pub live_points : (row : PlanRow) (x : Point) → is_live row.usage ≡ true
    → row_holds row x ≡ area_has row.area x
unfolding row_holds
live_points row x e = ap (λ b. b && area_has row.area x) e

pub closed_held : (row : PlanRow) (slabs : List Slab) (bounds : Slab) (parts : List Slab)
    → is_live row.usage ≡ false → slabs ≡ [] → AreSlabsHeld row slabs bounds parts
unfolding row_holds
closed_held row slabs bounds parts e is = subst (λ ss. AreSlabsHeld row ss bounds parts) (sym is) (record {
  points = λ x. sym (ap (λ b. b && area_has row.area x) e);
  filled = All-nil IsFilled;
  order = IsNonDecreasingBy-short (λ s. s.first) [] (omega arith);
  bounds = λ x h. absurd (true≢false (sym h));
  parts_have = λ x h. absurd (true≢false (sym h));
})

pub live_held : (row : PlanRow) (slabs : List Slab) (bounds : Slab) (parts : List Slab)
    → is_live row.usage ≡ true
    → ((x : Point) → slabs_have slabs x ≡ area_has row.area x) → AreFilled slabs → Ascend (λ s. s) slabs
    → IsBounds (slabs_have slabs) bounds → HaveAll (area_has row.area) parts
    → AreSlabsHeld row slabs bounds parts
live_held row slabs bounds parts e points filled order round have = record {
  points = λ x. points x ∙ sym (live_points row x e);
  filled = filled.each;
  order = order;
  bounds = round.has;
  parts_have = λ x has. have x (sym (points x) ∙ has);
}

-- ---- extents

or_false : (b : Bool) → (b || false) ≡ b
or_false true = refl
or_false false = refl

pub extents_more : (extents : List Slab) (b : Slab) (x : Point)
    → slabs_have (extents ++ b ∷ []) x ≡ (slabs_have extents x || slab_has b x)
extents_more extents b x = list_any-append (λ s. slab_has s x) extents (b ∷ [])
    ∙ ap (λ t. slabs_have extents x || t) (or_false (slab_has b x))

kept_by : (a b : Bool) → a ≡ true → (a || b) ≡ true
kept_by true b h = refl
kept_by false b h = absurd (true≢false (sym h))

-- extents keep their points when one more is added
pub kept_on : (old extents new : List Slab) (b : Slab)
    → ((x : Point) → slabs_have old x ≡ true → slabs_have extents x ≡ true) → new ≡ extents ++ b ∷ []
    → (x : Point) → slabs_have old x ≡ true → slabs_have new x ≡ true
kept_on old extents new b kept is x h =
    ap (λ ss. slabs_have ss x) is ∙ extents_more extents b x
    ∙ kept_by (slabs_have extents x) (slab_has b x) (kept x h)

-- and have those of a cluster with its bounds
pub covered_on : (rest cluster later extents new : List Slab) (b : Slab) (x : Point)
    → IsCluster rest cluster later → IsBounds (slabs_have cluster) b → new ≡ extents ++ b ∷ []
    → (slabs_have extents x || slabs_have rest x) ≡ true → (slabs_have new x || slabs_have later x) ≡ true
covered_on rest cluster later extents new b x split round is h =
    ap (λ ss. slabs_have ss x || slabs_have later x) is
    ∙ ap (λ t. t || slabs_have later x) (extents_more extents b x)
    ∙ go (slabs_have extents x) (slabs_have cluster x) (slabs_have later x) (slab_has b x) (round.has x)
    (sym (ap (λ t. slabs_have extents x || t) (split.points x)) ∙ h) where
      go : (e c l s : Bool) → (c ≡ true → s ≡ true) → (e || (c || l)) ≡ true → ((e || s) || l) ≡ true
      go true c l s has k = refl
      go false true l s has k = ap (λ t. t || l) (has refl)
      go false false true true has k = refl
      go false false true false has k = refl
      go false false false s has k = absurd (true≢false (sym k))

-- ---- slabs that are left

pub tail_ascends : (s : Slab) (ss : List Slab) → Ascend (λ t. t) (s ∷ ss) → Ascend (λ t. t) ss
tail_ascends s ss up = IsNonDecreasingBy-drop (λ t. t.first) 1 (s ∷ ss) up

-- the leaf of a point of a slab
pub reaches : (s : Slab) (x : Point) → slab_has s x ≡ true
    → (nat_le s.first (position_of x.leaf) ≡ true) × (nat_le (position_of x.leaf) s.last ≡ true)
reaches s x h =
    let parts = and_parts _ _ h in
    let placed = and_parts (slab_has_leaf s x.leaf) _ parts.0 in
    let leaf = and_parts (is_leaf x.leaf) _ placed.0 in
    and_parts (nat_le s.first (position_of x.leaf)) _ leaf.1

too_late : (p last at : ℕ) → last < p → nat_le p at ≡ true → nat_le at last ≡ true → ⊥
too_late p last at h k l = grind (arith, nat_tests)

-- the first of them is over
pub over : (position : ℕ) (slabs left others : List Slab) (s : Slab) → AreLeft position slabs left
    → left ≡ s ∷ others → s.last < position → AreLeft position slabs others
over position slabs left others s h is past x at has = go (slab_has s x) refl
    (sym (ap (λ ss. slabs_have ss x) is) ∙ h x at has) where
      go : (b : Bool) → slab_has s x ≡ b → (b || slabs_have others x) ≡ true
          → slabs_have others x ≡ true
      go true e k = absurd (too_late position s.last (position_of x.leaf) past at (reaches s x e).1)
      go false e k = k

first_above : (p bound at : ℕ) → bound ≤ p → nat_le p at ≡ true → nat_le bound at ≡ true
first_above p bound at h k = grind (arith, nat_tests)

-- the slabs of a list begin at a position or later
from_there : (bound : ℕ) (ss : List Slab)
    → ((j : ℕ) (d : Slab) → j < length ss → bound ≤ (get_or ss j d).first) → (x : Point)
    → slabs_have ss x ≡ true → nat_le bound (position_of x.leaf) ≡ true
from_there bound [] each x h = absurd (true≢false (sym h))
from_there bound (s ∷ ss) each x h =
    go (slab_has s x) refl h (from_there bound ss (λ j d below. each (suc j) d (omega arith)) x) where
      go : (b : Bool) → slab_has s x ≡ b → (b || slabs_have ss x) ≡ true
          → (slabs_have ss x ≡ true → nat_le bound (position_of x.leaf) ≡ true)
          → nat_le bound (position_of x.leaf) ≡ true
      go true e k ih = first_above s.first bound (position_of x.leaf) (each 0 s (omega arith))
          (reaches s x e).0
      go false e k ih = ih k

beyond : (bound position at : ℕ) → position < bound → nat_le bound at ≡ true → nat_le at position ≡ false
beyond bound position at h k = grind (arith, nat_tests)

-- none has a point before the first leaf of the first
pub after_all : (position : ℕ) (slabs others : List Slab) (s : Slab) → slabs ≡ s ∷ others
    → Ascend (λ t. t) slabs → position < s.first → AreAfter position slabs
after_all position slabs others s is up below x h =
    beyond s.first position (position_of x.leaf) below
    (from_there s.first (s ∷ others)
    (λ j d within. subst (Ascend (λ t. t)) is up 0 j d (omega arith) within) x
    (sym (ap (λ ss. slabs_have ss x) is) ∙ h))

abbrev first_of : Option Slab → ℕ
first_of None = 0
first_of (Some s) = s.first

later_still : (a b position : ℕ) → a ≡ b → nat_le a position ≡ false → position < b
later_still a b position same late = grind (arith, nat_tests, same)

pub after_first : (position : ℕ) (slabs : List Slab) (s : Slab) → Some s ≡ slice_get slabs 0
    → Ascend (λ t. t) slabs → nat_le s.first position ≡ false → AreAfter position slabs
after_first position [] s is up late = cc
after_first position (t ∷ ts) s is up late =
    after_all position (t ∷ ts) ts t refl up (later_still s.first t.first position (ap first_of is) late)

-- a slab that doesn't overlap another has no point of it
pub apart_bounds : (slab bounds : Slab) (x : Point) → overlap slab bounds ≡ false
    → slab_has bounds x ≡ true → slab_has slab x ≡ false
apart_bounds slab bounds x apart has = go (slab_has slab x) refl where
  go : (b : Bool) → slab_has slab x ≡ b → b ≡ false
  go true e = absurd (true≢false (sym (overlapping slab bounds x e has) ∙ apart))
  go false e = refl

-- nor one that overlaps none of some others a point of these
pub apart_all : (slab : Slab) (parts : List Slab) (x : Point) → list_any (overlap slab) parts ≡ false
    → slabs_have parts x ≡ true → slab_has slab x ≡ false
apart_all slab parts x apart has = go (slab_has slab x) refl where
  go : (b : Bool) → slab_has slab x ≡ b → b ≡ false
  go true e = absurd (true≢false (sym (overlaps_at slab parts x e has) ∙ apart))
  go false e = refl

or_true : (b : Bool) → (b || true) ≡ true
or_true true = refl
or_true false = refl

-- bounds round each volume so far have the points of these
pub parts_more : (area : List Block) (v : Block) (slabs parts new : List Slab) (i : ℕ) (bounds : Slab)
    → i < length area → v ≡ get_or area i v → HaveAll (area_has (take i area)) parts
    → ((x : Point) → slabs_have slabs x ≡ block_has v x) → IsBounds (slabs_have slabs) bounds
    → new ≡ parts ++ bounds ∷ [] → HaveAll (area_has (take (i + 1) area)) new
parts_more area v slabs parts new i bounds below is so_far points round pushed x has =
    ap (λ ss. slabs_have ss x) pushed ∙ extents_more parts bounds x
    ∙ go (area_has (take i area) x) refl (sym (list_any_more (λ w. block_has w x) area i v below
    ∙ ap (λ w. area_has (take i area) x || block_has w x) (sym is)) ∙ has) where
      go : (b : Bool) → area_has (take i area) x ≡ b → (b || block_has v x) ≡ true
          → (slabs_have parts x || slab_has bounds x) ≡ true
      go true e h = kept_by (slabs_have parts x) (slab_has bounds x) (so_far x e)
      go false e h =
          ap (λ b. slabs_have parts x || b) (round.has x (points x ∙ h)) ∙ or_true (slabs_have parts x)

-- a slab adds nothing where some slabs are, if those of them that are left at its first leaf say so
pub at_mine : {A : Type 0} (a b : A) (mine left : List Slab) (slab : Slab) (x : Point)
    → AreLeft slab.first mine left → slabs_have mine x ≡ true
    → (slabs_have left x ≡ true → a ≡ b) → (slab_has slab x ≡ false → a ≡ b) → a ≡ b
at_mine a b mine left slab x h has near far = go (slab_has slab x) refl where
  go : (t : Bool) → slab_has slab x ≡ t → a ≡ b
  go true e = near (h x (reaches slab x e).0 has)
  go false e = far e

-- ---- levels

max_itself : (n : ℕ) → max n n ≡ n
max_itself n = omega arith

-- one more slab of a priority
pub slab_adds : (helds new : List Held) (slabs : List Slab) (i : ℕ) (s : Slab) (priority : ℕ) (x : Point)
    (before : Option ℕ) → i < length slabs → s ≡ get_or slabs i s
    → new ≡ helds ++ record { slab = s; priority = priority } ∷ [] → top_held helds x
    ≡ greater before (level_where (slabs_have (take i slabs) x) priority)
    → top_held new x ≡ greater before (level_where (slabs_have (take (i + 1) slabs) x) priority)
slab_adds helds new slabs i s priority x before h is pushed so_far =
    ap (λ hs. top_held hs x) pushed
    ∙ top_held-push helds (record { slab = s; priority = priority }) x
    ∙ ap (λ l. greater l (level_where (slab_has s x) priority)) so_far
    ∙ greater_assoc before (level_where (slabs_have (take i slabs) x) priority)
    (level_where (slab_has s x) priority)
    ∙ ap (greater before) (either (slabs_have (take i slabs) x) (slab_has s x)
    ∙ ap (λ b. level_where b priority) (sym (list_any_more (λ t. slab_has t x) slabs i s h
    ∙ ap (λ t. slabs_have (take i slabs) x || slab_has t x) (sym is)))) where
      either : (a b : Bool) → greater (level_where a priority) (level_where b priority)
          ≡ level_where (a || b) priority
      either true true = ap Some (max_itself priority)
      either true false = refl
      either false b = refl

-- a slab without the point adds nothing
pub slab_passed : (slabs : List Slab) (i : ℕ) (s : Slab) (priority : ℕ) (x : Point)
    (level before : Option ℕ) → i < length slabs → s ≡ get_or slabs i s → slab_has s x ≡ false → level
    ≡ greater before (level_where (slabs_have (take i slabs) x) priority) → level
    ≡ greater before (level_where (slabs_have (take (i + 1) slabs) x) priority)
slab_passed slabs i s priority x level before h is none so_far =
    so_far ∙ ap (λ b. greater before (level_where b priority))
    (sym (list_any_more (λ t. slab_has t x) slabs i s h
    ∙ ap (λ t. slabs_have (take i slabs) x || slab_has t x) (sym is)
    ∙ ap (λ b. slabs_have (take i slabs) x || b) none ∙ or_false (slabs_have (take i slabs) x)))

at_least_high : (n p : ℕ) (b : Bool) → nat_le n p ≡ true
    → level_where b p ≡ at_least n (level_where b p)
at_least_high n p true h = sym (ap (λ c. cond c (Some p) None) h)
at_least_high n p false h = refl

top_more : (helds : List Held) (i : ℕ) (h : Held) (x : Point) → i < length helds → h ≡ get_or helds i h
    → top_held (take (i + 1) helds) x
    ≡ greater (top_held (take i helds) x) (level_where (slab_has h.slab x) h.priority)
top_more helds i h x below is =
    ap (λ hs. top_held hs x) (take_more helds i h below ∙ ap (λ k. take i helds ++ k ∷ []) (sym is))
    ∙ top_held-push (take i helds) h x

-- one more held slab, of a priority at least
pub held_adds : (n : ℕ) (theirs new helds : List Held) (i : ℕ) (h : Held) (x : Point) (before : Option ℕ)
    → i < length helds → h ≡ get_or helds i h → nat_le n h.priority ≡ true → new ≡ theirs ++ h ∷ []
    → top_held theirs x ≡ greater before (at_least n (top_held (take i helds) x))
    → top_held new x ≡ greater before (at_least n (top_held (take (i + 1) helds) x))
held_adds n theirs new helds i h x before below is high pushed so_far =
    ap (λ hs. top_held hs x) pushed ∙ top_held-push theirs h x
    ∙ ap (λ l. greater l (level_where (slab_has h.slab x) h.priority)) so_far
    ∙ greater_assoc before (at_least n (top_held (take i helds) x))
    (level_where (slab_has h.slab x) h.priority)
    ∙ ap (greater before) (ap (greater (at_least n (top_held (take i helds) x)))
    (at_least_high n h.priority (slab_has h.slab x) high)
    ∙ sym (at_least_greater n (top_held (take i helds) x) (level_where (slab_has h.slab x) h.priority))
    ∙ ap (at_least n) (sym (top_more helds i h x below is)))

-- one that adds nothing
pub held_passed : (n : ℕ) (helds : List Held) (i : ℕ) (h : Held) (x : Point) (level before : Option ℕ)
    → i < length helds → h ≡ get_or helds i h
    → at_least n (level_where (slab_has h.slab x) h.priority) ≡ None
    → level ≡ greater before (at_least n (top_held (take i helds) x))
    → level ≡ greater before (at_least n (top_held (take (i + 1) helds) x))
held_passed n helds i h x level before below is none so_far =
    so_far ∙ ap (greater before) (sym (ap (at_least n) (top_more helds i h x below is)
    ∙ at_least_greater n (top_held (take i helds) x) (level_where (slab_has h.slab x) h.priority)
    ∙ ap (greater (at_least n (top_held (take i helds) x))) none
    ∙ greater_none (at_least n (top_held (take i helds) x))))

pub begin_level : (n : ℕ) (l : Option ℕ) (x : Point) → l ≡ greater l (at_least n (top_held [] x))
begin_level n l x = sym (ap (λ t. greater l (at_least n t)) (top_held-nil x) ∙ greater_none l)

pub none_without : (n p : ℕ) (b : Bool) → b ≡ false → at_least n (level_where b p) ≡ None
none_without n p b h = ap (λ t. at_least n (level_where t p)) h

pub none_low : (n p : ℕ) (b : Bool) → nat_le n p ≡ false → at_least n (level_where b p) ≡ None
none_low n p true h = ap (λ c. cond c (Some p) None) h
none_low n p false h = refl

-- ---- plans of the operator

pub own_top-cons : (id : List ℕ) (r : PlanRow) (rs : List PlanRow) (x : Point)
    → own_top id (r ∷ rs) x ≡ greater (own_level id r x) (own_top id rs x)
unfolding own_level
own_top-cons id r rs x = by_test (not (has_id id r)) where
  others : List PlanRow
  others = filter (λ q. not (has_id id q)) rs

  by_test : (b : Bool) → top_priority (cond b (r ∷ others) others) x
      ≡ greater (level_where (b && row_holds r x) r.priority) (top_priority others x)
  by_test true = top_priority-cons r others x
  by_test false = refl

-- the step of a loop over the plans
pub own_added : (n : ℕ) (id : List ℕ) (rows : List PlanRow) (i : ℕ) (r : PlanRow) (x : Point)
    (before after all : Option ℕ) → i < length rows → r ≡ get_or rows i r
    → after ≡ greater before (at_least n (own_level id r x))
    → greater before (at_least n (own_top id (drop i rows) x)) ≡ all
    → greater after (at_least n (own_top id (drop (i + 1) rows) x)) ≡ all
own_added n id rows i r x before after all below is more e =
    ap (λ l. greater l (at_least n (own_top id (drop (i + 1) rows) x))) more
    ∙ greater_assoc before (at_least n (own_level id r x)) (at_least n (own_top id (drop (i + 1) rows) x))
    ∙ ap (greater before)
    (sym (ap (λ rs. at_least n (own_top id rs x))
    (drop_more rows i r below ∙ ap (λ q. q ∷ drop (i + 1) rows) (sym is))
    ∙ ap (at_least n) (own_top-cons id r (drop (i + 1) rows) x)
    ∙ at_least_greater n (own_level id r x) (own_top id (drop (i + 1) rows) x)))
    ∙ e

pub own_end : (n : ℕ) (id : List ℕ) (rows : List PlanRow) (x : Point) (level all : Option ℕ) → rows ≡ []
    → greater level (at_least n (own_top id rows x)) ≡ all → level ≡ all
own_end n id rows x level all none e =
    sym (ap (λ rs. greater level (at_least n (own_top id rs x))) none
    ∙ ap (λ l. greater level (at_least n l)) (top_priority-nil x) ∙ greater_none level) ∙ e

-- a plan of that id, or of a lower priority, adds nothing
pub uncounted : (n : ℕ) (id : List ℕ) (r : PlanRow) (x : Point) (level : Option ℕ)
    → (not (has_id id r) && nat_le n r.priority) ≡ false
    → level ≡ greater level (at_least n (own_level id r x))
unfolding own_level
uncounted n id r x level e = sym (ap (greater level) (go (not (has_id id r)) (row_holds r x) e)
    ∙ greater_none level) where
      go : (b t : Bool) → (b && nat_le n r.priority) ≡ false
          → at_least n (level_where (b && t) r.priority) ≡ None
      go true t h = none_low n r.priority t h
      go false t h = refl

-- nor does one that doesn't hold the point
pub unheld : (n : ℕ) (id : List ℕ) (r : PlanRow) (x : Point) (level : Option ℕ) → row_holds r x ≡ false
    → level ≡ greater level (at_least n (own_level id r x))
unfolding own_level
unheld n id r x level e = sym (ap (greater level) (go (not (has_id id r)) (row_holds r x) e)
    ∙ greater_none level) where
      go : (b t : Bool) → t ≡ false → at_least n (level_where (b && t) r.priority) ≡ None
      go true t h = none_without n r.priority t h
      go false t h = refl

-- one whose bounds don't overlap those of another holds none of its points
pub apart_plans : (row mine : PlanRow) (slabs others : List Slab) (b c : Slab) (parts more : List Slab)
    (x : Point) → AreSlabsHeld row slabs b parts → AreSlabsHeld mine others c more → overlap b c ≡ false
    → row_holds mine x ≡ true → row_holds row x ≡ false
apart_plans row mine slabs others b c parts more x held round apart has = go (row_holds row x) refl where
  go : (t : Bool) → row_holds row x ≡ t → t ≡ false
  go true e = absurd (true≢false (sym (overlapping b c x (held.bounds x (held.points x ∙ e))
      (round.bounds x (round.points x ∙ has))) ∙ apart))
  go false e = refl

-- another adds its priority where it holds the point
pub counted : (n : ℕ) (id : List ℕ) (r : PlanRow) (x : Point)
    → (not (has_id id r) && nat_le n r.priority) ≡ true
    → level_where (row_holds r x) r.priority ≡ at_least n (own_level id r x)
unfolding own_level
counted n id r x e = go (not (has_id id r)) (row_holds r x) e where
  go : (b t : Bool) → (b && nat_le n r.priority) ≡ true
      → level_where t r.priority ≡ at_least n (level_where (b && t) r.priority)
  go true t h = at_least_high n r.priority t h
  go false t h = absurd (true≢false (sym h))

-- what others hold and what the other plans hold, one after the other
pub in_the_way_at : (n : ℕ) (rows : List PlanRow) (levels : Point → Option ℕ) (id : List ℕ) (x : Point)
    (none others first last : Option ℕ) → none ≡ None → others ≡ levels x
    → first ≡ greater none (at_least n others) → last ≡ greater first (at_least n (own_top id rows x))
    → last ≡ at_least n (held_at rows levels id x)
unfolding held_at
in_the_way_at n rows levels id x none others first last empty is one two =
    two ∙ ap (λ l. greater l (at_least n (own_top id rows x)))
    (one ∙ ap (λ l. greater l (at_least n others)) empty ∙ ap (at_least n) is)
    ∙ sym (at_least_greater n (levels x) (own_top id rows x))

-- the operator's plans as they are shown, from those with their slabs
pub listed_shown : (permitted : List ℕ) (w v : World) (o : List ℕ) (rows one two : List PlanRow)
    (helds three : List Held) (all : List Shown) → rows ≡ plans_of o w → v ≡ w → one ≡ rows → two ≡ rows
    → three ≡ helds → HaveLevelAt (some_hold one) helds (held v o)
    → ((levels : Point → Option ℕ) → HaveLevelAt (some_hold two) three levels
    → all ≡ map (shown_plan permitted two levels) two)
    → all ≡ map (shown_in permitted w o) (plans_of o w)
listed_shown permitted w v o rows one two helds three all rows_are same first second third near shown =
    shown (held w o) (λ x has. ap (λ hs. top_held hs x) third
    ∙ near x (ap (λ rs. some_hold rs x) (first ∙ sym second) ∙ has) ∙ ap (λ u. held u o x) same)
    ∙ ap (λ rs. map (shown_plan permitted rs (held w o)) rs) (second ∙ rows_are)
