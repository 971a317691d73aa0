-- The first blocked point of some slabs, piece by piece.
use Rattle.std.proofs.Common.{◌≡◌, ℕ, ◌+◌, ◌<◌, ◌≤◌, Bool, true, false, true≢false, ◌&&◌, cond, List, ◌∷◌, [], ◌++◌, length, get_or, take, drop, set, Option, Some, None, is_some, refl, sym, ap, ◌∙◌, inl, inr, arith}
use Rattle.std.specs.Prelude.{nat_le, int_le, int_lt, max, min}
use Rattle.std.specs.declared.cmp.Ordering.{Ordering}
use Rattle.std.specs.declared.cmp.Ordering.TheVariants.{Less}
use Rattle.std.specs.Ordering.{ordering_then, nat_cmp}
use Rattle.std.proofs.lemmas.Bool.{and_parts, and_from, and_right, cases_lt, false_from_ne_true, true_from_ne_false}
use Rattle.std.proofs.lemmas.Bool.Decides.{nat_tests}
use Rattle.std.proofs.lemmas.List.{take_all, take-append-le, take_more, take_more_set, drop_more}
use Rattle.s2_hilbert.specs.Grid.{GridLeaf}
use Rattle.s2_hilbert.specs.Curve.{position_of}
use Rattle.s2_cellid.specs.Cell.{leaf_id_at}
use Rattle.volume4d.specs.declared.slab.Slab.{Slab}
use Rattle.volume4d.specs.declared.slab.Held.{Held}
use Rattle.volume4d.specs.Volume.{Point, is_leaf, point_cmp}
use Rattle.volume4d.specs.Slab.{slab_has, slab_has_leaf, slabs_have, top_held, greater, level_where, HasAll}
use Rattle.volume4d.proofs.lemmas.Level.{top_held-nil, top_held-push}
use Rattle.volume4d.specs.Sweep.{Spot, IsFirst}
use Rattle.desk_rules.specs.Limits.{blocks}
use Rattle.desk_rules.specs.Conflict.{is_blocked_among, at_least}
use Rattle.desk_run.specs.HeldAmong.{IsCutTo, at_piece}

-- ---- leaves of a slab

-- a leaf of the grid from the slab's first to its last
record IsAt (s : Slab) (leaf : GridLeaf) : Type 0 where
  is : is_leaf leaf ≡ true
  from : s.first ≤ position_of leaf
  upto : position_of leaf ≤ s.last

at_most : (a b : ℕ) → nat_le a b ≡ true → a ≤ b
at_most a b e = grind (arith, nat_tests)

passes : (a b : ℕ) → a ≤ b → nat_le a b ≡ true
passes a b h = grind (arith, nat_tests)

is_at : (s : Slab) (leaf : GridLeaf) → slab_has_leaf s leaf ≡ true → IsAt s leaf
is_at s leaf h =
    let parts = and_parts (is_leaf leaf) _ h in
    let ends = and_parts (nat_le s.first (position_of leaf)) _ parts.1 in
    record {
      is = parts.0;
      from = at_most s.first (position_of leaf) ends.0;
      upto = at_most (position_of leaf) s.last ends.1;
    }

has_leaf : (s : Slab) (leaf : GridLeaf) → IsAt s leaf → slab_has_leaf s leaf ≡ true
has_leaf s leaf at =
    and_from (is_leaf leaf) _ at.is
    (and_from (nat_le s.first (position_of leaf)) _ (passes s.first (position_of leaf) at.from)
    (passes (position_of leaf) s.last at.upto))

its_leaf : (s : Slab) (x : Point) → slab_has s x ≡ true → slab_has_leaf s x.leaf ≡ true
its_leaf s x h = (and_parts (slab_has_leaf s x.leaf) _ (and_parts _ _ h).0).0

not_before : (a b : ℕ) (rest : Ordering) → b < a
    → ordering_then (nat_cmp (leaf_id_at a) (leaf_id_at b)) rest ≡ Less → ⊥
not_before a b rest below e = by_ids (nat_cmp (leaf_id_at a) (leaf_id_at b)) refl e where
  by_ids : (o : Ordering) → nat_cmp (leaf_id_at a) (leaf_id_at b) ≡ o → ordering_then o rest ≡ Less → ⊥
  by_ids o is same = grind (arith, nat_tests)

-- a point that comes before another has its leaf no later
no_later : (x y : Point) → point_cmp x y ≡ Less → position_of x.leaf ≤ position_of y.leaf
no_later x y less = elim (cases_lt (position_of y.leaf) (position_of x.leaf)) [
  | inl below ↦ absurd (not_before (position_of x.leaf) (position_of y.leaf) _ below less)
  | inr within ↦ within
]

-- ---- the first blocked point

-- no point of the slabs that has its leaf before the position is blocked
abbrev pub NoneBlockedBefore : List ℕ → (Point → Option ℕ) → ℕ → List Slab → ℕ → Type 0
NoneBlockedBefore permitted levels priority slabs position = (x : Point) → position_of x.leaf < position
    → is_blocked_among permitted slabs levels priority x ≡ false

module _ (permitted : List ℕ) (levels : Point → Option ℕ) (priority : ℕ) (slabs : List Slab)
    (whole piece : Slab) (round : HasAll (slabs_have slabs) whole) where
  abbrev pub among : Point → Bool
  among = is_blocked_among permitted slabs levels priority

  abbrev pub there : Point → Bool
  there = is_blocked_among permitted slabs (at_piece piece levels) priority

  there_is : (x : Point) (at : Bool) → slab_has_leaf piece x.leaf ≡ at
      → there x ≡ (slabs_have slabs x && blocks permitted priority (cond at (levels x) None))
  unfolding is_blocked_among
  there_is x at is = ap (λ b. slabs_have slabs x && blocks permitted priority (cond b (levels x) None)) is

  among_is : (x : Point) → among x ≡ (slabs_have slabs x && blocks permitted priority (levels x))
  unfolding is_blocked_among
  among_is x = refl

  same_there : (x : Point) → slab_has_leaf piece x.leaf ≡ true → there x ≡ among x
  same_there x at = there_is x true at ∙ sym (among_is x)

  -- what is blocked there is at a leaf of the piece
  at_leaf : (x : Point) → there x ≡ true → slab_has_leaf piece x.leaf ≡ true
  at_leaf x e = true_from_ne_false (slab_has_leaf piece x.leaf)
      (λ beside. true≢false (sym e ∙ there_is x false beside ∙ and_right (slabs_have slabs x) false refl))

  in_whole : (x : Point) → among x ≡ true → IsAt whole x.leaf
  in_whole x e =
      let has = (and_parts (slabs_have slabs x) _ (sym (among_is x) ∙ e)).0 in
      is_at whole x.leaf (its_leaf whole x (round x has))

  blocked_there : (x : Point) → among x ≡ true → piece.first ≤ position_of x.leaf
      → position_of x.leaf ≤ piece.last → there x ≡ true
  blocked_there x e from upto =
      same_there x (has_leaf piece x.leaf (record { is = (in_whole x e).is; from = from; upto = upto })) ∙ e

  -- no point lies before the bounds
  pub begins : NoneBlockedBefore permitted levels priority slabs whole.first
  begins x before =
      false_from_ne_true (among x) (λ e. let from = (in_whole x e).from in absurd (omega arith))

  module _ (before : NoneBlockedBefore permitted levels priority slabs piece.first) where
    none_upto : IsFirst there (at_piece piece levels) None
        → NoneBlockedBefore permitted levels priority slabs (piece.last + 1)
    none_upto none x sooner = false_from_ne_true (among x) (λ e.
        elim (cases_lt (position_of x.leaf) piece.first) [
          | inl early ↦ let no = before x early in cc
          | inr from ↦
              let upto : position_of x.leaf ≤ piece.last = omega arith in
              let no = none x in
              let yes = blocked_there x e from upto in
              cc
        ])

    met_spot : (spot : Spot) → IsFirst there (at_piece piece levels) (Some spot)
        → IsFirst among levels (Some spot)
    met_spot spot first =
        let at = at_leaf spot.point first.here in
        record {
          here = sym (same_there spot.point at) ∙ first.here;
          level = sym (ap (λ b. cond b (levels spot.point) None) at) ∙ first.level;
          first = λ x less. false_from_ne_true (among x) (λ e.
              elim (cases_lt (position_of x.leaf) piece.first) [
                | inl early ↦ let no = before x early in cc
                | inr from ↦
                    let earlier = no_later x spot.point less in
                    let last = (is_at piece spot.point.leaf at).upto in
                    let upto : position_of x.leaf ≤ piece.last = omega arith in
                    let no = first.first x less in
                    let yes = blocked_there x e from upto in
                    cc
              ]);
        }

    -- what is met in a piece is met first
    pub met : (o : Option Spot) → is_some o ≡ true → IsFirst there (at_piece piece levels) o
        → IsFirst among levels o
    met None is first = cc
    met (Some spot) is first = met_spot spot first

    -- if nothing is met in it, nothing is blocked before the next
    pub passed : (o : Option Spot) → is_some o ≡ false → IsFirst there (at_piece piece levels) o
        → NoneBlockedBefore permitted levels priority slabs (piece.last + 1)
    passed None is first = none_upto first
    passed (Some spot) is first = cc

    -- nothing is blocked after the last
    pub ended : whole.last ≤ piece.last → (o : Option Spot) → IsFirst there (at_piece piece levels) o
        → IsFirst among levels o
    ended last None none = λ x. false_from_ne_true (among x) (λ e.
        let upto = (in_whole x e).upto in
        let no = none_upto none x (omega arith) in
        cc)
    ended last (Some spot) first = met_spot spot first

-- ---- held slabs that are cut

-- what is held at a piece's leaves, of a priority at least
pub held_at_piece : (n : ℕ) (piece : Slab) (helds : List Held) (levels : Point → Option ℕ) (x : Point)
    → (slab_has_leaf piece x.leaf ≡ true → top_held helds x ≡ at_least n (levels x))
    → at_piece piece (top_held helds) x ≡ at_least n (at_piece piece levels x)
held_at_piece n piece helds levels x there = go (slab_has_leaf piece x.leaf) refl where
  go : (b : Bool) → slab_has_leaf piece x.leaf ≡ b
      → cond b (top_held helds x) None ≡ at_least n (cond b (levels x) None)
  go true at = there at
  go false at = refl

both_first : (a b c p : ℕ) → c ≡ max a b → nat_le c p ≡ (nat_le b p && nat_le a p)
both_first a b c p is = grind (arith, nat_tests, is)

both_last : (a b c p : ℕ) → c ≡ min a b → nat_le p c ≡ (nat_le p b && nat_le p a)
both_last a b c p is = grind (arith, nat_tests, is)

regroup : (l a b c d : Bool) → (l && ((c && a) && (d && b))) ≡ ((l && (c && d)) && (l && (a && b)))
regroup false a b c d = refl
regroup true a b false d = refl
regroup true true b true d = refl
regroup true false b true true = refl
regroup true false b true false = refl

-- a slab that is cut has the points that it had at the piece's leaves
cut_is : (slab piece new : Slab) (x : Point) → IsCutTo slab piece new
    → slab_has new x ≡ (slab_has_leaf piece x.leaf && slab_has slab x)
cut_is slab piece new x is =
    let at = position_of x.leaf in
    ap (λ w. (slab_has_leaf new x.leaf && (int_le w.lower x.altitude && int_lt x.altitude w.upper))
    && (int_le w.start x.second && int_lt x.second w.end)) is.window
    ∙ ap (λ b. (b && (int_le slab.lower x.altitude && int_lt x.altitude slab.upper))
    && (int_le slab.start x.second && int_lt x.second slab.end))
    (ap (λ b. is_leaf x.leaf && (b && nat_le at new.last))
    (both_first slab.first piece.first new.first at is.first)
    ∙ ap (λ b. is_leaf x.leaf && ((nat_le piece.first at && nat_le slab.first at) && b))
    (both_last slab.last piece.last new.last at is.last)
    ∙ regroup (is_leaf x.leaf) (nat_le slab.first at) (nat_le at slab.last) (nat_le piece.first at)
    (nat_le at piece.last))
    ∙ go (slab_has_leaf piece x.leaf) where
      go : (b : Bool) → (((b && slab_has_leaf slab x.leaf)
          && (int_le slab.lower x.altitude && int_lt x.altitude slab.upper))
          && (int_le slab.start x.second && int_lt x.second slab.end))
          ≡ (b && slab_has slab x)
      go true = refl
      go false = refl

same_item : {A : Type 0} (xs ys : List A) (i : ℕ) (a : A) → i < length xs → i < length ys
    → drop i xs ≡ drop i ys → a ≡ get_or xs i a → get_or ys i a ≡ a
same_item xs ys i a short long same is =
    let x = drop_more xs i a short in
    let y = drop_more ys i a long in
    cc

-- none are cut
pub cut_none : (piece : Slab) (x : Point) → top_held [] x ≡ at_piece piece (top_held []) x
cut_none piece x = go (slab_has_leaf piece x.leaf) where
  go : (b : Bool) → top_held [] x ≡ cond b (top_held [] x) None
  go true = refl
  go false = top_held-nil x

-- one more held slab is cut
pub cut_more : (piece : Slab) (old now : List Held) (i : ℕ) (h : Held) (slab : Slab) (x : Point)
    → i < length now → length now ≡ length old → h ≡ get_or now i h → drop i now ≡ drop i old
    → IsCutTo h.slab piece slab → top_held (take i now) x ≡ at_piece piece (top_held (take i old)) x
    → top_held (take (i + 1) (set now i (record { slab = slab; priority = h.priority }))) x
    ≡ at_piece piece (top_held (take (i + 1) old)) x
cut_more piece old now i h slab x below same_length is rest cut so_far =
    ap (λ hs. top_held hs x) (take_more_set now i new below) ∙ top_held-push (take i now) new x
    ∙ ap (λ l. greater l (level_where (slab_has slab x) h.priority)) so_far
    ∙ ap (λ b. greater (at_piece piece (top_held (take i old)) x) (level_where b h.priority))
    (cut_is h.slab piece slab x cut)
    ∙ go (slab_has_leaf piece x.leaf)
    ∙ ap (λ l. cond (slab_has_leaf piece x.leaf) l None)
    (sym (ap (λ hs. top_held hs x) (take_more old i h within ∙ ap (λ k. take i old ++ k ∷ []) item)
    ∙ top_held-push (take i old) h x)) where
      new : Held
      new = record { slab = slab; priority = h.priority }

      within : i < length old
      within = omega (arith, below, same_length)

      item : get_or old i h ≡ h
      item = same_item now old i h below within rest is

      go : (b : Bool) → greater (cond b (top_held (take i old) x) None)
          (level_where (b && slab_has h.slab x) h.priority)
          ≡ cond b (greater (top_held (take i old) x) (level_where (slab_has h.slab x) h.priority)) None
      go true = refl
      go false = refl

-- a list that is written as a whole
pub written : (n : ℕ) (new rest : List Held) → length new ≡ n → take n (new ++ rest) ≡ new
written n new rest is = take-append-le n new rest (omega arith) ∙ take_all n new (omega arith)
