-- Laws of two slabs, with their proofs: one within another, one round both, the points of both, and overlaps.
use Rattle.std.proofs.Common.{◌≡◌, ℕ, ℤ, Bool, true, false, leb, ◌&&◌, ◌||◌, refl, sym, ap, ◌∙◌, arith}
use Rattle.std.specs.Prelude.{◌≤◌, ◌≤ℤ◌, int_le, int_lt, nat_le, min, max}
use Rattle.std.specs.Int.{int_min, int_max}
use Rattle.std.proofs.lemmas.Int.{ints}
use Rattle.std.proofs.lemmas.Bool.{and_parts, and_from}
use Rattle.std.proofs.lemmas.Bool.Decides.{nat_tests}
use Rattle.s2_hilbert.specs.Curve.{position_of}
use Rattle.volume4d.specs.declared.slab.Slab.{Slab}
use Rattle.volume4d.specs.Volume.{Point}
use Rattle.volume4d.specs.Slab.{slab_has, IsWithin, IsJoin, IsClip, overlap}
use Rattle.volume4d.proofs.lemmas.Slab.{IsIn-from_has, has-from_IsIn}

-- ---- one within another

low : (a b p : ℕ) → a ≤ b → leb b p ≡ true → leb a p ≡ true
low a b p h e = grind (arith, nat_tests)

high : (a b p : ℕ) → a ≤ b → leb p a ≡ true → leb p b ≡ true
high a b p h e = grind (arith, nat_tests)

int_low : (a b z : ℤ) → a ≤ℤ b → int_le b z ≡ true → int_le a z ≡ true
int_low a b z h e = grind (arith, ints)

int_high : (a b z : ℤ) → a ≤ℤ b → int_lt z a ≡ true → int_lt z b ≡ true
int_high a b z h e = grind (arith, ints)

-- a slab has the points of a slab within it
pub within_has : (inner outer : Slab) (x : Point) → IsWithin inner outer → slab_has inner x ≡ true
    → slab_has outer x ≡ true
within_has inner outer x within has =
    let here = IsIn-from_has inner x has in
    let position = position_of x.leaf in
    has-from_IsIn outer x (record {
      is = here.is;
      first = low outer.first inner.first position within.first here.first;
      last = high inner.last outer.last position within.last here.last;
      lower = int_low outer.lower inner.lower x.altitude within.lower here.lower;
      upper = int_high inner.upper outer.upper x.altitude within.upper here.upper;
      start = int_low outer.start inner.start x.second within.start here.start;
      end = int_high inner.end outer.end x.second within.end here.end;
    })

pub within_itself : (s : Slab) → IsWithin s s
within_itself s = record {
  first = omega arith;
  last = omega arith;
  lower = int_itself s.lower;
  upper = int_itself s.upper;
  start = int_itself s.start;
  end = int_itself s.end;
} where
  int_itself : (z : ℤ) → z ≤ℤ z
  int_itself z = grind (arith, ints)

pub within_through : (a b c : Slab) → IsWithin a b → IsWithin b c → IsWithin a c
within_through a b c ab bc = record {
  first = omega (arith, ab.first, bc.first);
  last = omega (arith, ab.last, bc.last);
  lower = int_through c.lower b.lower a.lower bc.lower ab.lower;
  upper = int_through a.upper b.upper c.upper ab.upper bc.upper;
  start = int_through c.start b.start a.start bc.start ab.start;
  end = int_through a.end b.end c.end ab.end bc.end;
} where
  int_through : (x y z : ℤ) → x ≤ℤ y → y ≤ℤ z → x ≤ℤ z
  int_through x y z xy yz = grind (arith, ints)

-- ---- one round two

int_min_left : (a b m : ℤ) → m ≡ int_min a b → m ≤ℤ a
int_min_left a b m e = grind (arith, ints)

int_min_right : (a b m : ℤ) → m ≡ int_min a b → m ≤ℤ b
int_min_right a b m e = grind (arith, ints)

int_max_left : (a b m : ℤ) → m ≡ int_max a b → a ≤ℤ m
int_max_left a b m e = grind (arith, ints)

int_max_right : (a b m : ℤ) → m ≡ int_max a b → b ≤ℤ m
int_max_right a b m e = grind (arith, ints)

pub left_in : (a b s : Slab) → IsJoin a b s → IsWithin a s
left_in a b s join = record {
  first = omega (arith, join.first);
  last = omega (arith, join.last);
  lower = int_min_left a.lower b.lower s.lower join.lower;
  upper = int_max_left a.upper b.upper s.upper join.upper;
  start = int_min_left a.start b.start s.start join.start;
  end = int_max_left a.end b.end s.end join.end;
}

pub right_in : (a b s : Slab) → IsJoin a b s → IsWithin b s
right_in a b s join = record {
  first = omega (arith, join.first);
  last = omega (arith, join.last);
  lower = int_min_right a.lower b.lower s.lower join.lower;
  upper = int_max_right a.upper b.upper s.upper join.upper;
  start = int_min_right a.start b.start s.start join.start;
  end = int_max_right a.end b.end s.end join.end;
}

-- the slab round two has the points of both
pub join_has : (left right slab : Slab) (x : Point) → IsJoin left right slab
    → (slab_has left x || slab_has right x) ≡ true → slab_has slab x ≡ true
join_has left right slab x join = go (slab_has left x) refl where
  go : (b : Bool) → slab_has left x ≡ b → (b || slab_has right x) ≡ true → slab_has slab x ≡ true
  go true e h = within_has left slab x (left_in left right slab join) e
  go false e h = within_has right slab x (right_in left right slab join) h

-- ---- the points of both

in_left : (a b s : Slab) → IsClip a b s → IsWithin s a
in_left a b s clip = record {
  first = omega (arith, clip.first);
  last = omega (arith, clip.last);
  lower = int_max_left a.lower b.lower s.lower clip.lower;
  upper = int_min_left a.upper b.upper s.upper clip.upper;
  start = int_max_left a.start b.start s.start clip.start;
  end = int_min_left a.end b.end s.end clip.end;
}

in_right : (a b s : Slab) → IsClip a b s → IsWithin s b
in_right a b s clip = record {
  first = omega (arith, clip.first);
  last = omega (arith, clip.last);
  lower = int_max_right a.lower b.lower s.lower clip.lower;
  upper = int_min_right a.upper b.upper s.upper clip.upper;
  start = int_max_right a.start b.start s.start clip.start;
  end = int_min_right a.end b.end s.end clip.end;
}

low_both : (a b c p : ℕ) → c ≡ max a b → leb a p ≡ true → leb b p ≡ true → leb c p ≡ true
low_both a b c p e h k = grind (arith, nat_tests, e)

high_both : (a b c p : ℕ) → c ≡ min a b → leb p a ≡ true → leb p b ≡ true → leb p c ≡ true
high_both a b c p e h k = grind (arith, nat_tests, e)

int_low_both : (a b z : ℤ) → int_le a z ≡ true → int_le b z ≡ true → int_le (int_max a b) z ≡ true
int_low_both a b z h k = grind (arith, ints)

int_high_both : (a b z : ℤ) → int_lt z a ≡ true → int_lt z b ≡ true → int_lt z (int_min a b) ≡ true
int_high_both a b z h k = grind (arith, ints)

clip_has : (one other slab : Slab) (x : Point) → IsClip one other slab → slab_has one x ≡ true
    → slab_has other x ≡ true → slab_has slab x ≡ true
clip_has one other slab x clip h k =
    let a = IsIn-from_has one x h in
    let b = IsIn-from_has other x k in
    let position = position_of x.leaf in
    has-from_IsIn slab x (record {
      is = a.is;
      first = low_both one.first other.first slab.first position clip.first a.first b.first;
      last = high_both one.last other.last slab.last position clip.last a.last b.last;
      lower = ap (λ n. int_le n x.altitude) clip.lower
          ∙ int_low_both one.lower other.lower x.altitude a.lower b.lower;
      upper = ap (λ n. int_lt x.altitude n) clip.upper
          ∙ int_high_both one.upper other.upper x.altitude a.upper b.upper;
      start = ap (λ n. int_le n x.second) clip.start
          ∙ int_low_both one.start other.start x.second a.start b.start;
      end = ap (λ n. int_lt x.second n) clip.end
          ∙ int_high_both one.end other.end x.second a.end b.end;
    })

pub clip_is : (one other slab : Slab) (x : Point) → IsClip one other slab
    → slab_has slab x ≡ (slab_has one x && slab_has other x)
clip_is one other slab x clip = go (slab_has slab x) (slab_has one x) (slab_has other x)
    (within_has slab one x (in_left one other slab clip))
    (within_has slab other x (in_right one other slab clip))
    (clip_has one other slab x clip) where
      go : (s a b : Bool) → (s ≡ true → a ≡ true) → (s ≡ true → b ≡ true)
          → (a ≡ true → b ≡ true → s ≡ true) → s ≡ (a && b)
      go true a b f g h = sym (ap (λ t. t && b) (f refl) ∙ g refl)
      go false true true f g h = h refl refl
      go false true false f g h = refl
      go false false b f g h = refl

-- ---- overlaps

times_meet : (a d z : ℤ) → int_le a z ≡ true → int_lt z d ≡ true → int_lt a d ≡ true
times_meet a d z h k = grind (arith, ints)

leaves_meet : (a d p : ℕ) → leb a p ≡ true → leb p d ≡ true → nat_le a d ≡ true
leaves_meet a d p h k = grind (arith, nat_tests)

meet_there : (a b z c d : ℤ) → int_le a z ≡ true → int_lt z b ≡ true → int_le c z ≡ true
    → int_lt z d ≡ true → (int_lt a d && int_lt c b) ≡ true
meet_there a b z c d h k l m =
    and_from (int_lt a d) (int_lt c b) (times_meet a d z h m) (times_meet c b z l k)

-- slabs that share a point overlap
pub overlapping : (one other : Slab) (x : Point) → slab_has one x ≡ true → slab_has other x ≡ true
    → overlap one other ≡ true
overlapping one other x h k =
    let a = IsIn-from_has one x h in
    let b = IsIn-from_has other x k in
    let position = position_of x.leaf in
    and_from (int_lt one.start other.end && int_lt other.start one.end) _
    (meet_there one.start one.end x.second other.start other.end a.start a.end b.start b.end)
    (and_from (int_lt one.lower other.upper && int_lt other.lower one.upper) _
    (meet_there one.lower one.upper x.altitude other.lower other.upper a.lower a.upper b.lower b.upper)
    (and_from (nat_le one.first other.last) (nat_le other.first one.last)
    (leaves_meet one.first other.last position a.first b.last)
    (leaves_meet other.first one.last position b.first a.last)))

lower_still : (a b d : ℤ) → a ≤ℤ b → int_lt b d ≡ true → int_lt a d ≡ true
lower_still a b d h k = grind (arith, ints, h)

upper_still : (a b d : ℤ) → a ≤ℤ b → int_lt d a ≡ true → int_lt d b ≡ true
upper_still a b d h k = grind (arith, ints, h)

first_still : (a b d : ℕ) → a ≤ b → nat_le b d ≡ true → nat_le a d ≡ true
first_still a b d h k = grind (arith, nat_tests)

last_still : (a b d : ℕ) → a ≤ b → nat_le d a ≡ true → nat_le d b ≡ true
last_still a b d h k = grind (arith, nat_tests)

-- what overlaps a slab overlaps one round it
pub overlaps_round : (inner outer other : Slab) → IsWithin inner outer → overlap inner other ≡ true
    → overlap outer other ≡ true
overlaps_round inner outer other w h =
    let parts = and_parts (int_lt inner.start other.end && int_lt other.start inner.end) _ h in
    let times = and_parts (int_lt inner.start other.end) _ parts.0 in
    let more = and_parts (int_lt inner.lower other.upper && int_lt other.lower inner.upper) _ parts.1 in
    let altitudes = and_parts (int_lt inner.lower other.upper) _ more.0 in
    let leaves = and_parts (nat_le inner.first other.last) _ more.1 in
    and_from (int_lt outer.start other.end && int_lt other.start outer.end) _
    (and_from (int_lt outer.start other.end) _
    (lower_still outer.start inner.start other.end w.start times.0)
    (upper_still inner.end outer.end other.start w.end times.1))
    (and_from (int_lt outer.lower other.upper && int_lt other.lower outer.upper) _
    (and_from (int_lt outer.lower other.upper) _
    (lower_still outer.lower inner.lower other.upper w.lower altitudes.0)
    (upper_still inner.upper outer.upper other.lower w.upper altitudes.1))
    (and_from (nat_le outer.first other.last) _
    (first_still outer.first inner.first other.last w.first leaves.0)
    (last_still inner.last outer.last other.first w.last leaves.1)))
