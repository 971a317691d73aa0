-- Plans whose volumes are near: how they are gathered, and what they hold.
use Rattle.std.proofs.Common.{◌≡◌, ℕ, ◌+◌, ◌≤◌, ◌<◌, Bool, true, false, true≢false, MatchBool, ◌&&◌, ◌||◌, not, cond, List, [], ◌∷◌, ◌++◌, length, get_or, take, Option, Some, None, Result, Ok, Err, IfOk, refl, sym, ap, subst, ◌∙◌, arith, Less, Equal, Greater}
use Rattle.std.specs.Prelude.{nat_le, IfSome}
use Rattle.std.specs.List.{AllByRecursion, AllZip, list_any}
use Rattle.std.specs.declared.cmp.Ordering.{Ordering}
use Rattle.std.specs.Ordering.{is_eq, match_ordering, ordering_reverse, ordering_then}
use Rattle.std.specs.BTreeSet.{insert_key}
use Rattle.std.specs.Cmp.Lexicographic.{nat_list_cmp_total}
use Rattle.std.proofs.lemmas.Cmp.{tied_itself}
use Rattle.std.proofs.lemmas.Bool.{and_from, and_parts}
use Rattle.std.proofs.lemmas.Bool.Decides.{nat_tests}
use Rattle.std.proofs.lemmas.List.{take_more}
use Rattle.std.proofs.lemmas.List.Folds.{list_any-append, list_any_more}
use Rattle.std.proofs.lemmas.List.Sorted.{list_any-IsPermutation}
use Rattle.std.proofs.lemmas.Map.Lookups.{exact_bytes}
use Rattle.volume4d.specs.declared.slab.Slab.{Slab}
use Rattle.volume4d.specs.Slab.{HasAll, overlap, greater, level_where, slab_has, slabs_have}
use Rattle.volume4d.specs.Volume.{Point, Block, block_has, area_has}
use Rattle.volume4d.proofs.lemmas.Bounds.{overlapping, within_has}
use Rattle.desk_rules.specs.Conflict.{at_least}
use Rattle.desk_rules.specs.Outcome.{is_live, row_holds}
use Rattle.desk_store.specs.World.{Filed, World, has_id, is_by, text_cmp, other_level, others_top, rival_level, rivals_top}
use Rattle.desk_store.specs.World as rows
use Rattle.desk_store.proofs.lemmas.Order.{is_equal}
use Rattle.desk_store.proofs.lemmas.Rival.{at_least_greater, others_top-cons, others_top-nil, held_by_others, rivals_top-cons, rivals_top-nil, held_by_rivals}
use Rattle.live_index.specs.declared.bbox.BoundingBox.{BoundingBox}
use Rattle.live_index.specs.declared.near.NearPlans.{NearPlans}
use Rattle.live_index.specs.declared.near.PlanKey.{PlanKey}
use Rattle.live_index.specs.declared.near.Wanted.{Wanted}
use Rattle.slab_regions.specs.declared.sought.SearchArea.{SearchArea}
use Rattle.live_index.specs.declared.volume.LiveVolume.{LiveVolume}
use Rattle.live_index.specs.Live.{AreLive, AreVolumes, AreVolumesOf, IsInBox, IsLiveVolume, is_volume_of, may_meet, gather, key_cmp, AddsPlans, AreNearPlans, AreWantedPlans, IsNotOwnPlan, ListsSamePlans, TakesPlan, is_among, is_id, is_listed, is_missed_at, is_near_to, is_own_volume, is_wanted_volume, key_of, listed_level, listed_top}
use Rattle.slab_regions.specs.Regions.{meets, sought_has}
use Rattle.live_index.proofs.GatherLemmas.{all_at, gathered_more}
use Rattle.live_index.proofs.lemmas.Live.{and_turned, same_key}

or_false : (b : Bool) → (b || false) ≡ b
or_false true = refl
or_false false = refl

and_true : (b : Bool) → (b && true) ≡ b
and_true true = refl
and_true false = refl

either : (a b : Bool) → (a || b) ≡ false → (a ≡ false) × (b ≡ false)
either false false h = (refl, refl)
either false true h = absurd (true≢false h)
either true b h = absurd (true≢false h)

still_low : (n a b : ℕ) → a ≤ b → nat_le n a ≡ true → nat_le n b ≡ true
still_low n a b h k = grind (arith, nat_tests)

itself : (text : List ℕ) → is_eq (text_cmp text text) ≡ true
itself text = ap is_eq (tied_itself nat_list_cmp_total text)

-- ---- what is sought

-- a slab that has a point of some slabs overlaps one of them
one_meets : (slab : Slab) (ps : List Slab) (x : Point) → slab_has slab x ≡ true → slabs_have ps x ≡ true
    → list_any (overlap slab) ps ≡ true
one_meets slab [] x has here = here
one_meets slab (p ∷ ps) x has here =
    go (slab_has p x) refl here (λ later. one_meets slab ps x has later) where
      last : (b : Bool) → (b || true) ≡ true
      last true = refl
      last false = refl

      go : (b : Bool) → slab_has p x ≡ b → (b || slabs_have ps x) ≡ true
          → (slabs_have ps x ≡ true → list_any (overlap slab) ps ≡ true)
          → (overlap slab p || list_any (overlap slab) ps) ≡ true
      go true e r ih = ap (λ b. b || list_any (overlap slab) ps) (overlapping slab p x has e)
      go false e r ih = ap (λ b. overlap slab p || b) (ih r) ∙ last (overlap slab p)

-- a slab that has a point of what is sought meets it
meeting : (slab : Slab) (sought : SearchArea) (x : Point) → slab_has slab x ≡ true → sought_has sought x ≡ true
    → meets sought slab ≡ true
meeting slab sought x has here =
    let parts = and_parts (slab_has sought.whole x) (slabs_have sought.parts.now x) here in
    and_from (overlap slab sought.whole) (list_any (overlap slab) sought.parts.now)
    (overlapping slab sought.whole x has parts.0) (one_meets slab sought.parts.now x has parts.1)

-- ---- keys, in order

then_eq : (n m : Ordering) → is_eq (ordering_then n m) ≡ (is_eq n && is_eq m)
then_eq Less m = refl
then_eq Equal m = refl
then_eq Greater m = refl

either_way : (a b : List ℕ) → is_eq (text_cmp a b) ≡ is_eq (text_cmp b a)
either_way a b = ap is_eq (nat_list_cmp_total.antisymm a b) ∙ by_order (text_cmp b a) where
  by_order : (n : Ordering) → is_eq (ordering_reverse n) ≡ is_eq n
  by_order Less = refl
  by_order Equal = refl
  by_order Greater = refl

is_key : (live : LiveVolume) (k : PlanKey)
    → is_eq (key_cmp (key_of live) k) ≡ is_volume_of k.operator k.id live
is_key live k = then_eq (text_cmp live.operator k.operator) (text_cmp live.id k.id)
    ∙ and_turned (is_eq (text_cmp live.operator k.operator)) (is_eq (text_cmp live.id k.id))
    ∙ (λ i. either_way live.id k.id i && either_way live.operator k.operator i)

pub listed_among : (ks : List PlanKey) (live : LiveVolume)
    → list_any (λ k. is_eq (key_cmp (key_of live) k)) ks ≡ is_among ks live
listed_among [] live = refl
listed_among (k ∷ ks) live = λ i. is_key live k i || listed_among ks live i

one_key : (k q : PlanKey) → key_cmp k q ≡ Equal → k ≡ q
one_key k q e = λ i. record {
  operator = exact_bytes k.operator q.operator (is_equal (text_cmp k.operator q.operator) parts.0) i;
  id = exact_bytes k.id q.id (is_equal (text_cmp k.id q.id) parts.1) i;
} where
  parts : (is_eq (text_cmp k.operator q.operator) ≡ true) × (is_eq (text_cmp k.id q.id) ≡ true)
  parts = and_parts (is_eq (text_cmp k.operator q.operator)) (is_eq (text_cmp k.id q.id))
      (sym (then_eq (text_cmp k.operator q.operator) (text_cmp k.id q.id)) ∙ ap is_eq e)

-- a key that is put in its place
among_with : (k : PlanKey) (ks : List PlanKey) (live : LiveVolume)
    → is_among (insert_key key_cmp ks k) live ≡ (is_among ks live || is_volume_of k.operator k.id live)
among_with k [] live = or_false (is_volume_of k.operator k.id live)
among_with k (x ∷ xs) live = go (key_cmp k x) refl (among_with k xs live) where
  mine : Bool
  mine = is_volume_of k.operator k.id live

  other : Bool
  other = is_volume_of x.operator x.id live

  last : (a b c : Bool) → (a || (b || c)) ≡ ((b || c) || a)
  last true true c = refl
  last true false true = refl
  last true false false = refl
  last false true c = refl
  last false false true = refl
  last false false false = refl

  twice : (b c : Bool) → (b || c) ≡ ((b || c) || b)
  twice true c = refl
  twice false true = refl
  twice false false = refl

  grouped : (a b c : Bool) → (a || (b || c)) ≡ ((a || b) || c)
  grouped true b c = refl
  grouped false b c = refl

  go : (n : Ordering) → key_cmp k x ≡ n
      → is_among (insert_key key_cmp xs k) live ≡ (is_among xs live || mine)
      → is_among (match_ordering n (k ∷ x ∷ xs) (x ∷ xs) (x ∷ insert_key key_cmp xs k)) live
      ≡ ((other || is_among xs live) || mine)
  go Less e ih = last mine other (is_among xs live)
  go Equal e ih = subst (λ q. (other || is_among xs live)
      ≡ ((other || is_among xs live) || is_volume_of q.operator q.id live)) (sym (one_key k x e))
      (twice other (is_among xs live))
  go Greater e ih = ap (λ b. other || b) ih ∙ grouped other (is_among xs live) mine

all_with : (P : PlanKey → Type 0) (k : PlanKey) (ks : List PlanKey) → P k → AllByRecursion P ks
    → AllByRecursion P (insert_key key_cmp ks k)
all_with P k [] h hs = (h, tt)
all_with P k (x ∷ xs) h hs = go (key_cmp k x) (all_with P k xs h hs.1) where
  go : (n : Ordering) → AllByRecursion P (insert_key key_cmp xs k)
      → AllByRecursion P (match_ordering n (k ∷ x ∷ xs) (x ∷ xs) (x ∷ insert_key key_cmp xs k))
  go Less r = (h, hs)
  go Equal r = hs
  go Greater r = (hs.0, r)

-- ---- a volume's plan is taken

pub takes_one : (live : LiveVolume) (old new : NearPlans) (k : PlanKey) → k ≡ key_of live
    → new.keys.keys ≡ insert_key key_cmp old.keys.keys k → new.is_complete ≡ old.is_complete
    → TakesPlan live old new
takes_one live old new k mine is same = record {
  kept = λ other h. among other ∙ ap (λ b. b || is_volume_of k.operator k.id other) h;
  still = λ e. sym same ∙ e;
  listed = λ e. among live ∙ ap (λ b. is_among old.keys.keys live || b)
      (ap (λ j. is_volume_of j.operator j.id live) mine
      ∙ and_from (is_eq (text_cmp live.id live.id)) (is_eq (text_cmp live.operator live.operator))
      (itself live.id) (itself live.operator)) ∙ last (is_among old.keys.keys live);
  another = λ s h hs. subst (AllByRecursion (IsNotOwnPlan s)) (sym is)
      (all_with (IsNotOwnPlan s) k old.keys.keys (subst (IsNotOwnPlan s) (sym mine) h) hs);
} where
  among : (other : LiveVolume) → is_among new.keys.keys other
      ≡ (is_among old.keys.keys other || is_volume_of k.operator k.id other)
  among other = ap (λ ks. is_among ks other) is ∙ among_with k old.keys.keys other

  last : (a : Bool) → (a || true) ≡ true
  last true = refl
  last false = refl

-- ---- plans are added, one volume after the other

module _ (s : Wanted) where
  -- nothing is added, and nothing was missed if all are listed
  pub adds_nothing : (inside : Point → Bool) (lives : List LiveVolume) (a : NearPlans)
      → (a.is_complete ≡ true → (x : Point) → inside x ≡ true
      → list_any (is_missed_at s a.keys.keys x) lives ≡ false) → AddsPlans s inside lives a a
  adds_nothing inside lives a none = record {
    kept = λ live h. h;
    still = λ e. e;
    whole = none;
    another = λ h. h;
  }

  pub adds_none : (inside : Point → Bool) (a : NearPlans) → AddsPlans s inside [] a a
  adds_none inside a = adds_nothing inside [] a (λ e x h. refl)

  -- a chunk was counted before
  pub adds_looked : (inside : Point → Bool) (lives : List LiveVolume) (a b c : NearPlans) → ListsSamePlans a b
      → AddsPlans s inside lives b c → AddsPlans s inside lives a c
  adds_looked inside lives a b c look more = record {
    kept = λ live h. more.kept live (ap (λ ks. is_among ks live) look.same ∙ h);
    still = λ e. look.still (more.still e);
    whole = more.whole;
    another = λ h. more.another (subst (AllByRecursion (IsNotOwnPlan s)) (sym look.same) h);
  }

  -- the volume isn't near
  pub adds_far : (sought : SearchArea) (live : LiveVolume) (a : NearPlans) → is_near_to s sought live ≡ false
      → AddsPlans s (sought_has sought) (live ∷ []) a a
  adds_far sought live a far = adds_nothing (sought_has sought) (live ∷ []) a (λ e x here.
      or_false (is_missed_at s a.keys.keys x live)
      ∙ go (slab_has live.bounds x) (is_wanted_volume s live) (not (is_among a.keys.keys live))
      (λ has. ap (λ b. b && is_wanted_volume s live) (sym (meeting live.bounds sought x has here))
      ∙ far)) where
        go : (b c d : Bool) → (b ≡ true → c ≡ false) → ((b && c) && d) ≡ false
        go true c d f = ap (λ t. t && d) (f refl)
        go false c d f = refl

  -- its plan is listed
  pub adds_listed : (inside : Point → Bool) (live : LiveVolume) (a : NearPlans)
      → is_among a.keys.keys live ≡ true → AddsPlans s inside (live ∷ []) a a
  adds_listed inside live a there = adds_nothing inside (live ∷ []) a (λ e x here.
      or_false (is_missed_at s a.keys.keys x live)
      ∙ ap (λ b. (slab_has live.bounds x && is_wanted_volume s live) && not b) there
      ∙ none (slab_has live.bounds x && is_wanted_volume s live)) where
        none : (b : Bool) → (b && false) ≡ false
        none true = refl
        none false = refl

  -- its plan is taken
  pub adds_taken : (inside : Point → Bool) (sought : SearchArea) (live : LiveVolume) (a b : NearPlans)
      → is_near_to s sought live ≡ true → TakesPlan live a b → AddsPlans s inside (live ∷ []) a b
  adds_taken inside sought live a b near t = record {
    kept = t.kept;
    still = t.still;
    whole = λ e x here.
        or_false (is_missed_at s b.keys.keys x live)
        ∙ ap (λ c. (slab_has live.bounds x && is_wanted_volume s live) && not c) (t.listed e)
        ∙ none (slab_has live.bounds x && is_wanted_volume s live);
    another = t.another s wanted;
  } where
    none : (c : Bool) → (c && false) ≡ false
    none true = refl
    none false = refl

    turned : (c : Bool) → not c ≡ true → c ≡ false
    turned true h = sym h
    turned false h = refl

    wanted : is_own_volume s live ≡ false
    wanted = turned (is_own_volume s live) (and_parts (nat_le s.least live.priority) _
        (and_parts (meets sought live.bounds) _ near).1).1

  -- with more plans listed no more volumes are missed
  later_missed : (ks ls : List PlanKey) (x : Point) (lives : List LiveVolume)
      → ((live : LiveVolume) → is_among ks live ≡ true → is_among ls live ≡ true)
      → list_any (is_missed_at s ks x) lives ≡ false → list_any (is_missed_at s ls x) lives ≡ false
  later_missed ks ls x [] more h = refl
  later_missed ks ls x (l ∷ lives) more h =
      let parts = either (is_missed_at s ks x l) (list_any (is_missed_at s ks x) lives) h in
      λ i. go (slab_has l.bounds x && is_wanted_volume s l) (is_among ks l) (is_among ls l) (more l) parts.0 i
      || later_missed ks ls x lives more parts.1 i where
        go : (c a b : Bool) → (a ≡ true → b ≡ true) → (c && not a) ≡ false → (c && not b) ≡ false
        go false a b f k = refl
        go true true b f k = ap not (f refl)
        go true false b f k = absurd (true≢false k)

  -- those of some volumes, and then those of more
  pub adds_both : (inside : Point → Bool) (some more : List LiveVolume) (a b c : NearPlans)
      → AddsPlans s inside some a b → AddsPlans s inside more b c → AddsPlans s inside (some ++ more) a c
  adds_both inside some more a b c one two = record {
    kept = λ live h. two.kept live (one.kept live h);
    still = λ e. one.still (two.still e);
    whole = λ e x here.
        list_any-append (is_missed_at s c.keys.keys x) some more
        ∙ (λ i. later_missed b.keys.keys c.keys.keys x some two.kept (one.whole (two.still e) x here) i
        || two.whole e x here i);
    another = λ h. two.another (one.another h);
  }

  -- those inside are inside something else too
  pub adds_within : (inside other : Point → Bool) (lives : List LiveVolume) (a b : NearPlans)
      → ((x : Point) → inside x ≡ true → other x ≡ true) → AddsPlans s other lives a b
      → AddsPlans s inside lives a b
  adds_within inside other lives a b also h = record {
    kept = h.kept;
    still = h.still;
    whole = λ e x here. h.whole e x (also x here);
    another = h.another;
  }

  -- those near some extents, and then those near one more
  pub adds_extent : (extents : List Slab) (i : ℕ) (extent : Slab) (lives : List LiveVolume)
      (a b c : NearPlans) → i < length extents → extent ≡ get_or extents i extent
      → AddsPlans s (slabs_have (take i extents)) lives a b → AddsPlans s (slab_has extent) lives b c
      → AddsPlans s (slabs_have (take (i + 1) extents)) lives a c
  adds_extent extents i extent lives a b c below is one two = record {
    kept = λ live h. two.kept live (one.kept live h);
    still = λ e. one.still (two.still e);
    whole = λ e x here. go x e (slabs_have (take i extents) x) refl
        (sym (list_any_more (λ t. slab_has t x) extents i extent below
        ∙ ap (λ t. slabs_have (take i extents) x || slab_has t x) (sym is)) ∙ here);
    another = λ h. two.another (one.another h);
  } where
    go : (x : Point) → c.is_complete ≡ true → (h : Bool) → slabs_have (take i extents) x ≡ h
        → (h || slab_has extent x) ≡ true → list_any (is_missed_at s c.keys.keys x) lives ≡ false
    go x e true k there = later_missed b.keys.keys c.keys.keys x lives two.kept (one.whole (two.still e) x k)
    go x e false k there = two.whole e x there

  -- one volume more
  pub adds_volume : (inside : Point → Bool) (lives : List LiveVolume) (i : ℕ) (live : LiveVolume)
      (a b c : NearPlans) → i < length lives → live ≡ get_or lives i live
      → AddsPlans s inside (take i lives) a b → AddsPlans s inside (live ∷ []) b c
      → AddsPlans s inside (take (i + 1) lives) a c
  adds_volume inside lives i live a b c below is one two =
      subst (λ ls. AddsPlans s inside ls a c)
      (sym (take_more lives i live below ∙ ap (λ l. take i lives ++ l ∷ []) (sym is)))
      (adds_both inside (take i lives) (live ∷ []) a b c one two)

  -- ---- chunks

  -- a volume that is wanted and has a point of what is sought is within a bounding box that may meet it
  apart : (sought : SearchArea) (bbox : BoundingBox) (live : LiveVolume) (ks : List PlanKey) (x : Point)
      → IsInBox bbox live → may_meet s.least sought bbox ≡ false → sought_has sought x ≡ true
      → is_missed_at s ks x live ≡ false
  apart sought bbox live ks x h far here =
      go (slab_has live.bounds x) (nat_le s.least live.priority) (not (is_own_volume s live))
      (not (is_among ks live)) refl refl where
        go : (b c d e : Bool) → slab_has live.bounds x ≡ b → nat_le s.least live.priority ≡ c
            → ((b && (c && d)) && e) ≡ false
        go false c d e has high = refl
        go true false d e has high = refl
        go true true d e has high = absurd (true≢false (sym (and_from (nat_le s.least bbox.top) _
            (still_low s.least live.priority bbox.top h.top high)
            (meeting bbox.bounds sought x (within_has live.bounds bbox.bounds x h.within has) here)) ∙ far))

  pub adds_none_far : (sought : SearchArea) (bbox : BoundingBox) (lives : List LiveVolume) (a : NearPlans)
      → may_meet s.least sought bbox ≡ false → AllByRecursion (IsInBox bbox) lives
      → AddsPlans s (sought_has sought) lives a a
  adds_none_far sought bbox lives a far h =
      adds_nothing (sought_has sought) lives a (λ e x here. all_apart x here lives h) where
        all_apart : (x : Point) → sought_has sought x ≡ true → (ls : List LiveVolume)
            → AllByRecursion (IsInBox bbox) ls → list_any (is_missed_at s a.keys.keys x) ls ≡ false
        all_apart x here [] k = refl
        all_apart x here (l ∷ ls) k =
            λ i. apart sought bbox l a.keys.keys x k.0 far here i || all_apart x here ls k.1 i

-- ---- what plans that are listed hold

-- two levels that agree where they count
agree : (n q : ℕ) (b c : Bool) → ((nat_le n q && c) && not b) ≡ false → (b ≡ true → c ≡ true)
    → at_least n (level_where b q) ≡ at_least n (level_where c q)
agree n q true true h f = refl
agree n q true false h f = absurd (true≢false (sym (f refl)))
agree n q false false h f = refl
agree n q false true h f = sym (ap (λ t. cond t (Some q) None)
    (sym (and_true (nat_le n q)) ∙ sym (and_true (nat_le n q && true)) ∙ h))

none_both : (n q : ℕ) (b c : Bool) → at_least n (level_where (b && false) q)
    ≡ at_least n (level_where (c && false) q)
none_both n q true true = refl
none_both n q true false = refl
none_both n q false true = refl
none_both n q false false = refl

module _ (s : Wanted) where
  abbrev is_mine : Filed → Bool
  is_mine p = is_id s.id p.row.id && is_by s.operator p

  -- a plan that is listed is no own one
  not_own : (ks : List PlanKey) → AllByRecursion (IsNotOwnPlan s) ks → (p : Filed) → is_listed ks p ≡ true
      → not (is_mine p) ≡ true
  not_own [] h p there = absurd (true≢false (sym there))
  not_own (k ∷ ks) h p there =
      go (rows.is_own k.operator k.id p) refl there (λ r. not_own ks h.1 p r) where
        go : (b : Bool) → rows.is_own k.operator k.id p ≡ b → (b || is_listed ks p) ≡ true
            → (is_listed ks p ≡ true → not (is_mine p) ≡ true) → not (is_mine p) ≡ true
        go true e r ih =
            let parts = and_parts (is_by k.operator p) (has_id k.id p.row) e in
            let operator = exact_bytes k.operator p.operator
            (is_equal (text_cmp k.operator p.operator) parts.0) in
            let id = exact_bytes k.id p.row.id (is_equal (text_cmp k.id p.row.id) parts.1) in
            ap not ((λ i. is_id s.id (sym id i) && is_eq (text_cmp s.operator (sym operator i))) ∙ h.0)
        go false e r ih = ih r

  module _ (ks : List PlanKey) (another : AllByRecursion (IsNotOwnPlan s) ks) (x : Point) where
    among_is : (js : List PlanKey) (p : Filed) (v : Block) (l : LiveVolume) → IsLiveVolume p v l
        → is_among js l ≡ is_listed js p
    among_is [] p v l h = refl
    among_is (k ∷ js) p v l h = λ i. same_key k.operator k.id p v l h i || among_is js p v l h i

    -- a volume that has the point and isn't missed is of a plan that is listed, if it counts
    found : (p : Filed) (v : Block) (l : LiveVolume) → IsLiveVolume p v l → block_has v x ≡ true
        → is_missed_at s ks x l ≡ false
        → ((nat_le s.least p.row.priority && not (is_mine p)) && not (is_listed ks p)) ≡ false
    found p v l h has none =
        (λ i. (sym (h.bounds.has x has) i && (nat_le s.least (sym h.priority i)
        && not (is_id s.id (sym h.id i) && is_eq (text_cmp s.operator (sym h.operator i)))))
        && not (sym (among_is ks p v l h) i))
        ∙ none

    area_agrees : (p : Filed) (vs : List Block) (lives : List LiveVolume) → AllZip (IsLiveVolume p) vs lives
        → list_any (is_missed_at s ks x) lives ≡ false
        → at_least s.least (level_where (is_listed ks p && area_has vs x) p.row.priority)
        ≡ at_least s.least (level_where (not (is_mine p) && area_has vs x) p.row.priority)
    area_agrees p [] [] h none = none_both s.least p.row.priority (is_listed ks p) (not (is_mine p))
    area_agrees p [] (l ∷ lives) h none = absurd h
    area_agrees p (v ∷ vs) [] h none = absurd h
    area_agrees p (v ∷ vs) (l ∷ lives) h none =
        let parts = either (is_missed_at s ks x l) (list_any (is_missed_at s ks x) lives) none in
        go (block_has v x) refl parts.0 (area_agrees p vs lives h.1 parts.1) where
          go : (b : Bool) → block_has v x ≡ b → is_missed_at s ks x l ≡ false
              → at_least s.least (level_where (is_listed ks p && area_has vs x) p.row.priority)
              ≡ at_least s.least (level_where (not (is_mine p) && area_has vs x) p.row.priority)
              → at_least s.least (level_where (is_listed ks p && (b || area_has vs x)) p.row.priority)
              ≡ at_least s.least (level_where (not (is_mine p) && (b || area_has vs x)) p.row.priority)
          go true has apart ih =
              ap (λ t. at_least s.least (level_where t p.row.priority)) (and_true (is_listed ks p))
              ∙ agree s.least p.row.priority (is_listed ks p) (not (is_mine p)) (found p v l h.0 has apart)
              (not_own ks another p)
              ∙ ap (λ t. at_least s.least (level_where t p.row.priority)) (sym (and_true (not (is_mine p))))
          go false has apart ih = ih

    plan_agrees : (p : Filed) (lives : List LiveVolume) → AreVolumesOf p lives
        → list_any (is_missed_at s ks x) lives ≡ false
        → at_least s.least (listed_level ks p x)
        ≡ at_least s.least (level_where (not (is_mine p) && row_holds p.row x) p.row.priority)
    unfolding row_holds
    plan_agrees p lives are none = go (is_live p.row.usage) are where
      go : (b : Bool) → MatchBool b (AllZip (IsLiveVolume p) p.row.area lives) (lives ≡ [])
          → at_least s.least (level_where (is_listed ks p && (b && area_has p.row.area x)) p.row.priority)
          ≡ at_least s.least (level_where (not (is_mine p) && (b && area_has p.row.area x)) p.row.priority)
      go true h = area_agrees p p.row.area lives h none
      go false h = none_both s.least p.row.priority (is_listed ks p) (not (is_mine p))

    module _ (level : Filed → Option ℕ) (tops : List Filed → Option ℕ)
        (level_is : (p : Filed) → level p
        ≡ level_where (not (is_mine p) && row_holds p.row x) p.row.priority)
        (of_none : tops [] ≡ None) (of_more : (p : Filed) (ps : List Filed) → tops (p ∷ ps)
        ≡ greater (level p) (tops ps)) where
      plans_agree : (ps : List Filed) (lives : List LiveVolume) → AreVolumes ps lives
          → list_any (is_missed_at s ks x) lives ≡ false
          → at_least s.least (listed_top ks ps x) ≡ at_least s.least (tops ps)
      plans_agree [] lives are none = ap (at_least s.least) (sym of_none)
      plans_agree (p ∷ ps) lives (front, rest, are, mine, more) none =
          let parts = either (list_any (is_missed_at s ks x) front) (list_any (is_missed_at s ks x) rest)
          (sym (list_any-append (is_missed_at s ks x) front rest)
          ∙ ap (list_any (is_missed_at s ks x)) (sym are) ∙ none) in
          at_least_greater s.least (listed_level ks p x) (listed_top ks ps x)
          ∙ (λ i. greater ((plan_agrees p front mine parts.0 ∙ ap (at_least s.least) (sym (level_is p))) i)
          (plans_agree ps rest more parts.1 i))
          ∙ sym (ap (at_least s.least) (of_more p ps) ∙ at_least_greater s.least (level p) (tops ps))

      live_agree : (w : World) (lives : List LiveVolume) → AreLive w lives
          → list_any (is_missed_at s ks x) lives ≡ false
          → at_least s.least (listed_top ks w.plans x) ≡ at_least s.least (tops w.plans)
      live_agree w lives h none = plans_agree w.plans h.listed h.volumes
          (list_any-IsPermutation (is_missed_at s ks x) h.listed lives h.same ∙ none)

level_of_rival : (o id : List ℕ) (x : Point) (p : Filed) → rival_level o id p x
    ≡ level_where (not (has_id id p.row && is_by o p) && row_holds p.row x) p.row.priority
unfolding rival_level
level_of_rival o id x p = ap (λ b. level_where (not b && row_holds p.row x) p.row.priority)
    (and_turned (is_by o p) (has_id id p.row))

level_of_other : (o : List ℕ) (x : Point) (p : Filed) → other_level o p x
    ≡ level_where (not (is_by o p) && row_holds p.row x) p.row.priority
unfolding other_level
level_of_other o x p = refl

-- the plans near some extents hold what those that are wanted hold
pub are_wanted_plans : (o : List ℕ) (id : Option (List ℕ)) (least : ℕ) (extents : List Slab)
    (ks : List PlanKey) (w : World) (lives : List LiveVolume) → AreLive w lives
    → AreNearPlans (record { operator = o; id = id; least = least }) (slabs_have extents) lives ks
    → AreWantedPlans w (record { operator = o; id = id; least = least }) extents ks
are_wanted_plans o (Some id) least extents ks w lives live near = λ x here.
    live_agree (record { operator = o; id = Some id; least = least }) ks near.another x
    (λ p. rival_level o id p x) (λ ps. rivals_top o id ps x) (level_of_rival o id x) (rivals_top-nil o id x)
    (λ p ps. rivals_top-cons o id p ps x) w lives live (near.whole x here)
    ∙ ap (at_least least) (held_by_rivals o id w x)
are_wanted_plans o None least extents ks w lives live near = λ x here.
    live_agree (record { operator = o; id = None; least = least }) ks near.another x
    (λ p. other_level o p x) (λ ps. others_top o ps x) (level_of_other o x) (others_top-nil o x)
    (λ p ps. others_top-cons o p ps x) w lives live (near.whole x here)
    ∙ ap (at_least least) (held_by_others o w x)

-- ---- one thing with volumes after the other

pub adds_next : {C : Type 0} (vols : C → List LiveVolume) (P : C → Type 0) (s : Wanted)
    (inside : Point → Bool) (cs : List C) (i : ℕ) (one : C) (a b c : NearPlans)
    → i < length cs → one ≡ get_or cs i one
    → (AllByRecursion P cs → AddsPlans s inside (gather vols (take i cs)) a b)
    → (P one → AddsPlans s inside (vols one) b c)
    → AllByRecursion P cs → AddsPlans s inside (gather vols (take (i + 1) cs)) a c
adds_next vols P s inside cs i one a b c below is first then whole =
    subst (λ ls. AddsPlans s inside ls a c)
    (gathered_more vols cs i one (gather vols (take i cs)) (gather vols (take i cs) ++ vols one)
    below is refl refl)
    (adds_both s inside (gather vols (take i cs)) (vols one) a b c (first whole)
    (then (subst P (sym is) (all_at P cs i one whole below))))

-- ---- all that were near

-- what was added to none, if all are listed
pub near_plans : (s : Wanted) (inside : Point → Bool) (lives : List LiveVolume) (start near : NearPlans)
    (ks : List PlanKey) → start.keys.keys ≡ [] → AddsPlans s inside lives start near
    → ks ≡ near.keys.keys → near.is_complete ≡ true → AreNearPlans s inside lives ks
near_plans s inside lives start near ks none added same whole = record {
  whole = λ x here. ap (λ js. list_any (is_missed_at s js x) lives) same ∙ added.whole whole x here;
  another = subst (AllByRecursion (IsNotOwnPlan s)) (sym same)
      (added.another (subst (AllByRecursion (IsNotOwnPlan s)) (sym none) tt));
}

pub some_weaker : {V : Type 0} {P Q : V → Type 0} (r : Option V) → ((v : V) → P v → Q v) → IfSome r P
    → IfSome r Q
some_weaker (Some v) f h = f v h
some_weaker None f h = tt

pub found_weaker : {V E : Type 0} {P Q : V → Type 0} (r : Result (Option V) E)
    → ((v : V) → P v → Q v) → IfOk r (λ found. IfSome found P) → IfOk r (λ found. IfSome found Q)
found_weaker (Ok found) f h = some_weaker found f h
found_weaker (Err e) f h = tt
