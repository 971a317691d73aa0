-- The lanes of a sweep.
use Rattle.std.proofs.Common.{◌≡◌, ℕ, ◌+◌, ◌<◌, ◌≤◌, ℤ, Bool, true, false, not, true≢false, ◌&&◌, ◌||◌, leb, max, List, [], ◌∷◌, ◌++◌, length, get_or, take, drop, set, Option, Some, None, refl, sym, ap, ◌∙◌, subst, arith, Less, Equal, Greater}
use Rattle.std.specs.Prelude.{All, int_le, int_lt}
use Rattle.std.specs.declared.cmp.Ordering.{Ordering}
use Rattle.std.specs.Ordering.{int_eq, ordering_reverse}
use Rattle.std.specs.Cmp.{IsTotalOrder, both_ways}
use Rattle.std.proofs.Math.Bool.{and-or_distrib_left, and-or_distrib_right}
use Rattle.std.proofs.lemmas.Int.{ints}
use Rattle.std.proofs.lemmas.Bool.{and_parts, and_from, false_from_ne_true}
use Rattle.std.proofs.lemmas.Bool.Decides.{nat_tests, Decides-int_eq}
use Rattle.std.proofs.lemmas.Cmp.{nat_cmp_total, int_cmp_total, on_total, then_total}
use Rattle.std.proofs.lemmas.Grind.{drop_more_same}
use Rattle.std.proofs.lemmas.List.{get_or_default, take_all, take_more, take_more_set, drop_more, drop-set-lt}
use Rattle.std.proofs.lemmas.List.Elements.{All-more, All-push}
use Rattle.std.proofs.lemmas.List.Folds.{list_any-append, Any-from_list_any, list_any-from_Any}
use Rattle.std.proofs.lemmas.List.Sorted.{IsNonDecreasingBy-drop}
use Rattle.s2_hilbert.specs.Curve.{position_of}
use Rattle.s2_cellid.specs.Cell.{leaf_id}
use Rattle.volume4d.specs.declared.slab.Slab.{Slab}
use Rattle.volume4d.specs.Volume.{Point, point_cmp}
use Rattle.volume4d.specs.Slab.{slab_has, slabs_have, corner_of}
use Rattle.volume4d.specs.Sweep.{IsFirstPoint, items_have, Ascend, IsLate, AddsFirst, is_alike, alike_have, KeepsFrom, IsReached, BeginsReached, lanes_have, LanesAscend, HaveAllLeft, IsCovered}
use Rattle.volume4d.specs.declared.sweep.Lane.{Lane}
use Rattle.volume4d.proofs.Corners.{corner_position, corner_position_is, corner_up_to, corner_left, corner_right, not_before}
use Rattle.volume4d.proofs.FirstPoints.{first_point_same}
use Rattle.volume4d.proofs.Sweeping.{or_assoc, and_last, begins_up_to, found_stays, one_more_placed, in_parts, later_begin}
use Rattle.volume4d.proofs.lemmas.Slab.{IsIn, IsIn-from_has, has-from_IsIn}

-- ---- windows

record AreSame (w s : Slab) : Type 0 where
  lower : w.lower ≡ s.lower
  upper : w.upper ≡ s.upper
  start : w.start ≡ s.start
  end : w.end ≡ s.end

same_bounds : (w s : Slab) → is_alike w s ≡ true → AreSame w s
same_bounds w s h =
    let halves = and_parts (int_eq w.lower s.lower && int_eq w.upper s.upper) _ h in
    let heights = and_parts (int_eq w.lower s.lower) _ halves.0 in
    let times = and_parts (int_eq w.start s.start) _ halves.1 in
    record {
      lower = (Decides-int_eq w.lower s.lower).0 heights.0;
      upper = (Decides-int_eq w.upper s.upper).0 heights.1;
      start = (Decides-int_eq w.start s.start).0 times.0;
      end = (Decides-int_eq w.end s.end).0 times.1;
    }

begins_before : (a s z e : ℤ) → a ≡ s → int_le s z ≡ true → int_lt z e ≡ true → int_lt a e ≡ true
begins_before a s z e is p q = grind (arith, ints)

ends_after : (a z e f : ℤ) → f ≡ e → int_le a z ≡ true → int_lt z e ≡ true → int_lt a f ≡ true
ends_after a z e f is p q = grind (arith, ints)

-- one of the slabs in the window that has a point of another
record SharesAlike (w other : Slab) (slabs : List Slab) (x : Point) : Type 0 where
  slab : Slab
  place : ℕ
  below : place < length slabs
  is : get_or slabs place slab ≡ slab
  same : AreSame w slab
  mine : IsIn slab x
  theirs : IsIn other x

shares_alike : (w other : Slab) (slabs : List Slab) (x : Point)
    → (alike_have w slabs x && slab_has other x) ≡ true → SharesAlike w other slabs x
shares_alike w other slabs x h =
    let parts = and_parts (alike_have w slabs x) (slab_has other x) h in
    let one = Any-from_list_any (λ s. is_alike w s && slab_has s x) slabs parts.0 in
    let both = and_parts (is_alike w one.1) (slab_has one.1 x) one.4 in
    record {
      slab = one.1;
      place = one.0;
      below = one.2;
      is = one.3;
      same = same_bounds w one.1 both.0;
      mine = IsIn-from_has one.1 x both.1;
      theirs = IsIn-from_has other x parts.1;
    }

-- slabs in a window share no point with one that has no second, or no altitude, of it
pub beside_in_time : (w other : Slab) → (int_lt w.start other.end && int_lt other.start w.end) ≡ false
    → (slabs : List Slab) (x : Point) → (alike_have w slabs x && slab_has other x) ≡ false
beside_in_time w other apart slabs x = false_from_ne_true _ (λ h.
    let s = shares_alike w other slabs x h in
    let meet = and_from _ _
    (begins_before w.start s.slab.start x.second other.end s.same.start s.mine.start s.theirs.end)
    (ends_after other.start x.second s.slab.end w.end s.same.end s.theirs.start s.mine.end) in
    let bad : false ≡ true = sym apart ∙ meet in cc)

pub beside_in_height : (w other : Slab) → (int_lt w.lower other.upper && int_lt other.lower w.upper) ≡ false
    → (slabs : List Slab) (x : Point) → (alike_have w slabs x && slab_has other x) ≡ false
beside_in_height w other apart slabs x = false_from_ne_true _ (λ h.
    let s = shares_alike w other slabs x h in
    let meet = and_from _ _
    (begins_before w.lower s.slab.lower x.altitude other.upper s.same.lower s.mine.lower s.theirs.upper)
    (ends_after other.lower x.altitude s.slab.upper w.upper s.same.upper s.theirs.lower s.mine.upper) in
    let bad : false ≡ true = sym apart ∙ meet in cc)

-- nor do two slabs of which one begins behind the other
pub behind_leaves : (s other : Slab) → other.last < s.first → (x : Point)
    → (slab_has s x && slab_has other x) ≡ false
behind_leaves s other behind x = false_from_ne_true _ (λ h.
    let parts = and_parts (slab_has s x) (slab_has other x) h in
    no_leaf s.first (position_of x.leaf) other.last behind (IsIn-from_has s x parts.0).first
    (IsIn-from_has other x parts.1).last) where
      no_leaf : (a p b : ℕ) → b < a → leb a p ≡ true → leb p b ≡ true → ⊥
      no_leaf a p b behind h k = grind (arith, nat_tests)

-- ---- lanes of all windows

-- lanes of all slabs, one for each window of theirs, have their points
covered_have : (lanes : List Lane) (mine : List Slab) (x : Point) → HaveAllLeft mine lanes
    → All (IsCovered lanes) mine → lanes_have lanes x ≡ slabs_have mine x
covered_have lanes mine x of covered = both_ways _ _ mine_has some_has where
  left_is : (k : ℕ) (l : Lane) → k < length lanes → get_or lanes k l ≡ l → l.left.now ≡ mine
  left_is k l below is = sym (ap (λ m. m.left.now) is) ∙ of k l below

  mine_has : lanes_have lanes x ≡ true → slabs_have mine x ≡ true
  mine_has h =
      let l = Any-from_list_any (λ m. alike_have m.window m.left.now x) lanes h in
      let has = subst (λ ss. alike_have l.1.window ss x ≡ true) (left_is l.0 l.1 l.2 l.3) l.4 in
      let s = Any-from_list_any (λ s. is_alike l.1.window s && slab_has s x) mine has in
      list_any-from_Any (λ s. slab_has s x) mine (
        s.0,
        s.1,
        s.2,
        s.3,
        (and_parts (is_alike l.1.window s.1) (slab_has s.1 x) s.4).1,
      )

  some_has : slabs_have mine x ≡ true → lanes_have lanes x ≡ true
  some_has h =
      let s = Any-from_list_any (λ s. slab_has s x) mine h in
      let of_s = subst (IsCovered lanes) s.3 (covered s.0 s.1 s.2) in
      let l = Any-from_list_any (λ m. is_alike m.window s.1) lanes of_s in
      let has = list_any-from_Any (λ s. is_alike l.1.window s && slab_has s x) mine (
        s.0,
        s.1,
        s.2,
        s.3,
        and_from _ _ l.4 s.4,
      ) in
      list_any-from_Any (λ m. alike_have m.window m.left.now x) lanes (
        l.0,
        l.1,
        l.2,
        l.3,
        subst (λ ss. alike_have l.1.window ss x ≡ true) (sym (left_is l.0 l.1 l.2 l.3)) has,
      )

pub lanes_share : (lanes : List Lane) (mine : List Slab) (f : Point → Bool) (o : Option Point)
    → HaveAllLeft mine lanes → All (IsCovered lanes) mine → IsFirstPoint (λ x. lanes_have lanes x && f x) o
    → IsFirstPoint (λ x. slabs_have mine x && f x) o
lanes_share lanes mine f o of covered =
    first_point_same _ _ (λ x. ap (λ b. b && f x) (covered_have lanes mine x of covered)) o

pub all_covered : (old new : List Lane) (mine : List Slab) (i : ℕ) (s : Slab) → i < length mine
    → s ≡ get_or mine i s → ((t : Slab) → IsCovered old t → IsCovered new t) → IsCovered new s
    → All (IsCovered old) (take i mine) → All (IsCovered new) (take (i + 1) mine)
all_covered old new mine i s below is kept here so_far =
    All-more (IsCovered new) mine i s below
    (λ k d inside. kept (get_or (take i mine) k d) (so_far k d inside)) (subst (IsCovered new) is here)

pub all_at_end : (lanes : List Lane) (mine : List Slab) (i : ℕ) → length mine ≤ i
    → All (IsCovered lanes) (take i mine) → All (IsCovered lanes) mine
all_at_end lanes mine i over = subst (All (IsCovered lanes)) (take_all i mine over)

-- ---- what is left in a window

pub tail_ascends : (s : Slab) (left others : List Slab) → left ≡ s ∷ others → Ascend (λ t. t) left
    → Ascend (λ t. t) others
tail_ascends s left others is up =
    IsNonDecreasingBy-drop (λ t. t.first) 1 (s ∷ others) (subst (Ascend (λ t. t)) is up)

pub one_behind : (w s : Slab) (position : ℕ) (slabs left others : List Slab) → left ≡ s ∷ others
    → ((x : Point) → position ≤ position_of x.leaf → (is_alike w s && slab_has s x) ≡ false)
    → KeepsFrom w position slabs left → KeepsFrom w position slabs others
one_behind w s position slabs left others is out so_far x later =
    ap (λ b. b || alike_have w others x) (sym (out x later)) ∙ ap (λ l. alike_have w l x) (sym is)
    ∙ so_far x later

-- ---- the first slab that is left in a window

points_total : IsTotalOrder point_cmp
points_total = then_total (on_total (λ x. leaf_id x.leaf) nat_cmp_total)
    (then_total (on_total (λ x. x.altitude) int_cmp_total) (on_total (λ x. x.second) int_cmp_total))

-- a point before another comes before a third, or the third comes before the other
before_one : (x p c : Point) → point_cmp x p ≡ Less → (point_cmp x c ≡ Less → ⊥)
    → (point_cmp c p ≡ Less → ⊥) → ⊥
before_one x p c less not_x not_c = by_order (point_cmp p c) refl where
  by_order : (o : Ordering) → point_cmp p c ≡ o → ⊥
  by_order Less e = not_x (points_total.trans x p c less e)
  by_order Greater e = not_c (points_total.antisymm c p ∙ ap ordering_reverse e)
  by_order Equal e =
      let after : point_cmp c x ≡ Greater = sym (points_total.congr p c x e)
      ∙ points_total.antisymm p x ∙ ap ordering_reverse less in
      not_x (points_total.antisymm x c ∙ ap ordering_reverse after)

module _ (w other s : Slab) (others : List Slab) (up : Ascend (λ t. t) (s ∷ others))
    (reached : IsReached w other.first s) where
  -- the leaves from the first of the slab that is left up to those of one behind it
  abbrev wide : Slab → Slab
  wide t = record {
    first = s.first;
    last = t.last;
    lower = s.lower;
    upper = s.upper;
    start = s.start;
    end = s.end;
    first_is_leaf = s.first_is_leaf;
    last_is_leaf = t.last_is_leaf;
  }

  in_wide : (x : Point) (shared : SharesAlike w other (s ∷ others) x) → IsIn (wide shared.slab) x
  in_wide x shared =
      let mine = shared.mine in
      let same = same_bounds w s reached.alike in
      let order : s.first ≤ shared.slab.first = omega (
        arith,
        up 0 shared.place shared.slab (omega arith) shared.below,
        ap (λ t. t.first) shared.is,
      ) in
      record {
        is = mine.is;
        first = leaf_low s.first shared.slab.first (position_of x.leaf) order mine.first;
        last = mine.last;
        lower = subst (λ z. int_le z x.altitude ≡ true) (sym shared.same.lower ∙ same.lower) mine.lower;
        upper = subst (λ z. int_lt x.altitude z ≡ true) (sym shared.same.upper ∙ same.upper) mine.upper;
        start = subst (λ z. int_le z x.second ≡ true) (sym shared.same.start ∙ same.start) mine.start;
        end = subst (λ z. int_lt x.second z ≡ true) (sym shared.same.end ∙ same.end) mine.end;
      } where
        leaf_low : (a b p : ℕ) → a ≤ b → leb b p ≡ true → leb a p ≡ true
        leaf_low a b p h e = grind (arith, nat_tests)

  -- the first one and the other share their corner, which comes no later
  corner_shared : (x : Point) → SharesAlike w other (s ∷ others) x
      → (slab_has s (corner_of s other) && slab_has other (corner_of s other)) ≡ true
  corner_shared x shared =
      let left = corner_left (wide shared.slab) other x (in_wide x shared) shared.theirs in
      let right = corner_right (wide shared.slab) other x (in_wide x shared) shared.theirs in
      and_from _ _ (has-from_IsIn s (corner_of s other) (record {
        is = left.is;
        first = left.first;
        last = up_to s.first other.first s.last (corner_position s other) (corner_position_is s other)
            reached.some reached.reaches;
        lower = left.lower;
        upper = left.upper;
        start = left.start;
        end = left.end;
      }))
      (has-from_IsIn other (corner_of s other) right) where
        up_to : (a b l p : ℕ) → p ≡ max a b → a ≤ l → b ≤ l → leb p l ≡ true
        up_to a b l p is h k = grind (arith, nat_tests)

  corner_up : (x : Point) → SharesAlike w other (s ∷ others) x → point_cmp x (corner_of s other) ≡ Less → ⊥
  corner_up x shared = not_before (corner_of s other) x
      (corner_up_to (wide shared.slab) other x (in_wide x shared) shared.theirs)

  first_of_window : (o : Option Point) → IsFirstPoint (λ x. slab_has s x && slab_has other x) o
      → IsFirstPoint (λ x. alike_have w (s ∷ others) x && slab_has other x) o
  first_of_window None none = λ x. false_from_ne_true _ (λ h.
      let there = corner_shared x (shares_alike w other (s ∷ others) x h) in
      let bad : false ≡ true = sym (none (corner_of s other)) ∙ there in cc)
  first_of_window (Some p) first = (
    (let parts = and_parts (slab_has s p) (slab_has other p) first.0 in
        and_from _ _ (ap (λ b. b || alike_have w others p) (and_from _ _ reached.alike parts.0)) parts.1),
    λ x less. false_from_ne_true _ (λ h.
        let shared = shares_alike w other (s ∷ others) x h in
        before_one x p (corner_of s other) less (corner_up x shared)
        (λ e. let bad : false ≡ true = sym (first.1 (corner_of s other) e) ∙ corner_shared x shared in cc)),
  )

pub first_reached : (w other s : Slab) (left others : List Slab) (o : Option Point) → left ≡ s ∷ others
    → Ascend (λ t. t) left → BeginsReached w other.first left
    → IsFirstPoint (λ x. slab_has s x && slab_has other x) o
    → IsFirstPoint (λ x. alike_have w left x && slab_has other x) o
first_reached w other s left others o is up begins first =
    subst (λ l. IsFirstPoint (λ x. alike_have w l x && slab_has other x) o) (sym is)
    (first_of_window w other s others (subst (Ascend (λ t. t)) is up)
    (subst (BeginsReached w other.first) is begins) o first)

-- ---- one more of theirs

pub not_true : (b : Bool) → not b ≡ true → b ≡ false
not_true true e = absurd (true≢false (sym e))
not_true false e = refl

pub adds_same : (f g : Point → Bool) (old new : Option Point) → ((x : Point) → f x ≡ g x)
    → AddsFirst f old new → AddsFirst g old new
adds_same f g old new same adds before first =
    first_point_same _ _ (λ x. ap (λ b. before x || b) (same x)) new (adds before first)

-- and then more
adds_then : (f g : Point → Bool) (old mid new : Option Point) → AddsFirst f old mid → AddsFirst g mid new
    → AddsFirst (λ x. f x || g x) old new
adds_then f g old mid new one more before first =
    first_point_same _ _ (λ x. sym (or_assoc (before x) (f x) (g x))) new
    (more (λ x. before x || f x) (one before first))

-- two tests that agree where a slab begins agree on its points
where_same : (other : Slab) (x : Point) (a b : Bool) → (other.first ≤ position_of x.leaf → a ≡ b)
    → (a && slab_has other x) ≡ (b && slab_has other x)
where_same other x a b same = by_other (slab_has other x) refl where
  by_other : (t : Bool) → slab_has other x ≡ t → (a && t) ≡ (b && t)
  by_other true has = ap (λ b. b && true) (same (begins_up_to other x has))
  by_other false has = and_last a false ∙ and_last false b

-- the first of a point and of those that what is left shares
pub first_added : (w other : Slab) (slabs left : List Slab) (found next new : Option Point)
    → KeepsFrom w other.first slabs left
    → IsFirstPoint (λ x. alike_have w left x && slab_has other x) next
    → ((f g : Point → Bool) → IsFirstPoint f found → IsFirstPoint g next
    → IsFirstPoint (λ x. f x || g x) new)
    → AddsFirst (λ x. alike_have w slabs x && slab_has other x) found new
first_added w other slabs left found next new kept here earlier before first =
    earlier before (λ x. alike_have w slabs x && slab_has other x) first
    (first_point_same _ _ (λ x. where_same other x (alike_have w left x) (alike_have w slabs x) (kept x)) next
    here)

-- ---- one more lane

same_item : {A : Type 0} (xs ys : List A) (i : ℕ) (a : A) → i < length xs → i < length ys
    → drop i xs ≡ drop i ys → a ≡ get_or xs i a → get_or ys i a ≡ a
same_item xs ys i a short long same is =
    let x = drop_more xs i a short in
    let y = drop_more ys i a long in
    cc

-- the first lanes are moved up to a slab, and the others are what they were
pub record IsAcross (old now : List Lane) (n : ℕ) (other : Slab) (found first : Option Point) : Type 0 where
  pub order : LanesAscend (take n now)
  pub kept : (x : Point) → other.first ≤ position_of x.leaf
      → lanes_have (take n now) x ≡ lanes_have (take n old) x
  pub met : AddsFirst (λ x. lanes_have (take n old) x && slab_has other x) found first
  pub rest : drop n now ≡ drop n old

pub across_more : (old now : List Lane) (n : ℕ) (lane new : Lane) (other : Slab)
    (found first next : Option Point) → n < length now → length now ≡ length old → lane ≡ get_or now n lane
    → IsAcross old now n other found first → Ascend (λ s. s) new.left.now
    → ((x : Point) → other.first ≤ position_of x.leaf
    → alike_have new.window new.left.now x ≡ alike_have lane.window lane.left.now x)
    → AddsFirst (λ x. alike_have lane.window lane.left.now x && slab_has other x) first next
    → IsAcross old (set now n new) (n + 1) other found next
across_more old now n lane new other found first next below same is so_far up kept adds = record {
  order = subst LanesAscend (sym (take_more_set now n new below))
      (All-push (λ l. Ascend (λ s. s) l.left.now) (take n now) new so_far.order up);
  kept = λ x later.
      ap (λ ls. lanes_have ls x) (take_more_set now n new below)
      ∙ list_any-append (λ l. alike_have l.window l.left.now x) (take n now) (new ∷ [])
      ∙ ap (λ b. b || (alike_have new.window new.left.now x || false)) (so_far.kept x later)
      ∙ ap (λ b. lanes_have (take n old) x || (b || false)) (kept x later)
      ∙ sym (old_more x);
  met = adds_same _ _ found next
      (λ x. sym (and-or_distrib_right (lanes_have (take n old) x) (alike_have lane.window lane.left.now x)
      (slab_has other x))
      ∙ ap (λ b. b && slab_has other x)
      (ap (λ b. lanes_have (take n old) x || b)
      (sym (or_false (alike_have lane.window lane.left.now x))) ∙ sym (old_more x)))
      (adds_then _ (λ x. alike_have lane.window lane.left.now x && slab_has other x) found first next
      so_far.met adds);
  rest = drop-set-lt (n + 1) now n new (omega arith) ∙ drop_more_same now old n so_far.rest;
} where
  within : n < length old
  within = omega (arith, below, same)

  old_more : (x : Point) → lanes_have (take (n + 1) old) x
      ≡ (lanes_have (take n old) x || (alike_have lane.window lane.left.now x || false))
  old_more x =
      ap (λ ls. lanes_have ls x) (take_more old n lane within
      ∙ ap (λ l. take n old ++ l ∷ []) (same_item now old n lane below within so_far.rest is))
      ∙ list_any-append (λ l. alike_have l.window l.left.now x) (take n old) (lane ∷ [])

  or_false : (b : Bool) → (b || false) ≡ b
  or_false true = refl
  or_false false = refl

-- a lane that isn't moved yet ascends
pub lane_ascends : (old now : List Lane) (n : ℕ) (lane : Lane) → n < length now → length now ≡ length old
    → lane ≡ get_or now n lane → drop n now ≡ drop n old → LanesAscend old → Ascend (λ s. s) lane.left.now
lane_ascends old now n lane below same is rest up =
    let within : n < length old = omega (arith, below, same) in
    subst (λ l. Ascend (λ s. s) l.left.now) (same_item now old n lane below within rest is) (up n lane within)

-- all lanes are moved
pub all_ascend : (now : List Lane) (n : ℕ) → length now ≤ n → LanesAscend (take n now) → LanesAscend now
all_ascend now n over = subst LanesAscend (take_all n now over)

pub all_met : (old : List Lane) (n : ℕ) (other : Slab) (found first : Option Point) → length old ≤ n
    → AddsFirst (λ x. lanes_have (take n old) x && slab_has other x) found first
    → AddsFirst (λ x. lanes_have old x && slab_has other x) found first
all_met old n other found first over =
    subst (λ ls. AddsFirst (λ x. lanes_have ls x && slab_has other x) found first) (take_all n old over)

-- ---- one more of theirs, at all lanes

module _ {A : Type 0} (slab_of : A → Slab) (f : Point → Bool) where
  -- what the sweep keeps: the first point so far, and for what is still to come what is left in the lanes
  pub record IsSweeping (theirs : List A) (n : ℕ) (lanes : List Lane) (first : Option Point) : Type 0 where
    pub met : IsFirstPoint (λ x. f x && items_have slab_of (take n theirs) x) first
    pub rest : (x : Point) (d : A) → n < length theirs
        → (slab_of (get_or theirs n d)).first ≤ position_of x.leaf → lanes_have lanes x ≡ f x
    pub order : LanesAscend lanes

  -- where all that is left comes late, the first point so far is the first of all
  pub sweep_stops : (theirs : List A) (n : ℕ) (item : A) (lanes : List Lane) (first : Option Point)
      → n < length theirs → item ≡ get_or theirs n item → Ascend slab_of theirs
      → IsSweeping theirs n lanes first
      → ((x : Point) → (slab_of item).first ≤ position_of x.leaf → IsLate first x)
      → IsFirstPoint (λ x. f x && items_have slab_of theirs x) first
  sweep_stops theirs n item lanes first below is up so_far late =
      first_point_same _ _
      (λ x. sym (and-or_distrib_left (f x) (items_have slab_of (take n theirs) x)
      (items_have slab_of (drop n theirs) x))
      ∙ ap (λ b. f x && b) (sym (in_parts slab_of n theirs x)))
      first
      (found_stays (λ x. f x && items_have slab_of (take n theirs) x)
      (λ x. f x && items_have slab_of (drop n theirs) x) first so_far.met
      (λ x h. late x (later_begin slab_of theirs n item x below is up
      (and_parts (f x) (items_have slab_of (drop n theirs) x) h).1)))

  pub sweep_goes_on : (theirs : List A) (n : ℕ) (item : A) (lanes more : List Lane)
      (first next : Option Point) → n < length theirs → item ≡ get_or theirs n item → Ascend slab_of theirs
      → IsSweeping theirs n lanes first → LanesAscend more
      → ((x : Point) → (slab_of item).first ≤ position_of x.leaf → lanes_have more x ≡ lanes_have lanes x)
      → AddsFirst (λ x. lanes_have lanes x && slab_has (slab_of item) x) first next
      → IsSweeping theirs (n + 1) more next
  sweep_goes_on theirs n item lanes more first next below is up so_far order kept adds = record {
    met = first_point_same _ _
        (λ x. ap (λ b. (f x && items_have slab_of (take n theirs) x) || b) (own x)
        ∙ one_more_placed slab_of f theirs n item x below is)
        next (adds (λ x. f x && items_have slab_of (take n theirs) x) so_far.met);
    rest = λ x d inside later. let here = from_next x d inside later in kept x here ∙ still x here;
    order = order;
  } where
    still : (x : Point) → (slab_of item).first ≤ position_of x.leaf → lanes_have lanes x ≡ f x
    still x later = so_far.rest x item below (omega (arith, ap (λ a. (slab_of a).first) is, later))

    from_next : (x : Point) (d : A) → n + 1 < length theirs
        → (slab_of (get_or theirs (n + 1) d)).first ≤ position_of x.leaf
        → (slab_of item).first ≤ position_of x.leaf
    from_next x d inside later =
        let same = get_or_default theirs n item d below in
        omega (
          arith,
          ap (λ a. (slab_of a).first) is,
          ap (λ a. (slab_of a).first) same,
          up n (n + 1) d (omega arith) inside,
          later,
        )

    own : (x : Point) → (lanes_have lanes x && slab_has (slab_of item) x)
        ≡ (f x && slab_has (slab_of item) x)
    own x = where_same (slab_of item) x (lanes_have lanes x) (f x) (still x)
