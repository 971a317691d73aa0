-- The rows of plans that are added one after the other are refused by nothing of their own.
use Rattle.std.proofs.Common.{◌≡◌, ◌≤◌, ◌<◌, ◌+◌, ◌^◌, ℕ, pos, negsuc, ℤ, ◌+ℤ◌, ◌<ℤ◌, Bool, true, false, MatchBool, ◌||◌, List, [], ◌∷◌, ◌++◌, length, map, refl, sym, ap, ap₂, subst, ◌∙◌, arith, IsTrue, IsPermutation}
use Rattle.std.specs.List.{AllByRecursion, list_any}
use Rattle.std.specs.Ordering.{is_eq}
use Rattle.std.proofs.lemmas.Bool.{and_from}
use Rattle.std.proofs.lemmas.Bool.Decides.{nat_tests}
use Rattle.std.proofs.lemmas.Cmp.{tied_itself}
use Rattle.std.proofs.lemmas.Int.{ints}
use Rattle.std.proofs.lemmas.List.{length-append}
use Rattle.std.proofs.lemmas.List.Sorted.{list_any-IsPermutation}
use Rattle.sqlite_value.specs.declared.value.Value.TheVariants.{Text}
use Rattle.sqlite_value.specs.Order.{Row}
use Rattle.sqlite_value.proofs.OrderLemmas.{value_cmp_total}
use Rattle.sqlite_trees.specs.Tree.{IsAscending}
use Rattle.sqlite.specs.Effect.{Database}
use Rattle.sqlite.specs.Ops.{fits_i64}
use Rattle.s2_cover.specs.declared.spans.Span.{Span}
use Rattle.s2_cover.specs.Covers.{canonical_list, IsRanges}
use Rattle.volume4d.specs.Footprint.{HasValidParts}
use Rattle.volume4d.specs.VolumeLimits.{max_cover}
use Rattle.volume4d.specs.Volume.{Shape, is_footprint, shape_positions, Block}
use Rattle.desk_rules.specs.Outcome.{is_live}
use Rattle.desk_changes.specs.RowChanges.{AddsSpans, AddsVolumes, AreNewRows, AreNewSpans, AreNewVolumes, AreShort, HasRoomFor, IsShortValue, TakesRoom}
use Rattle.desk_sql.specs.Changing.{HasKey, LacksKey, has_same_key}
use Rattle.desk_sql.specs.Rows.{Tables, tables_of}
use Rattle.desk_store.specs.World.{Filed}
use Rattle.desk_store.proofs.lemmas.Order.{all_append, all_weaker}
use Rattle.row_codec.specs.Tables.{IsFiled, area_covers, area_rows, cover_rows, id_text, row_of_plan, plan_rows, row_of_span, volume_rows, AreSpanRowsFrom, ArePlanSpanRows, AreSpanRows}
use Rattle.table_load.specs.Opening.{AreAwaited, AreWritable}
use Rattle.table_load.proofs.lemmas.NewRow.{name_short}
use Rattle.row_codec.proofs.lemmas.Order.{ArePlans}
use Rattle.table_load.proofs.lemmas.KeyOrder.{spans_up, volumes_up}
use Rattle.row_codec.proofs.lemmas.Plan.{HasKey as BeginsAs, area_keyed}
use Rattle.table_load.proofs.lemmas.NewRow.{covers_short, spans_apart, spans_short, volumes_apart, volumes_short}
use Rattle.table_load.proofs.lemmas.Small.{id_short}
use Rattle.table_load.proofs.lemmas.Span.{spans_keyed}

-- ---- the first rows of a list, and those after them

all_front : (P : Row → Type 0) (xs ys : List Row) → AllByRecursion P (xs ++ ys) → AllByRecursion P xs
all_front P [] ys h = tt
all_front P (x ∷ xs) ys h = (h.0, all_front P xs ys h.1)

all_back : (P : Row → Type 0) (xs ys : List Row) → AllByRecursion P (xs ++ ys) → AllByRecursion P ys
all_back P [] ys h = h
all_back P (x ∷ xs) ys h = all_back P xs ys h.1

up_front : (R : Row → Row → Type 0) (xs ys : List Row) → IsAscending R (xs ++ ys) → IsAscending R xs
up_front R [] ys up = tt
up_front R (x ∷ xs) ys up = (all_front (R x) xs ys up.0, up_front R xs ys up.1)

up_back : (R : Row → Row → Type 0) (xs ys : List Row) → IsAscending R (xs ++ ys) → IsAscending R ys
up_back R [] ys up = up
up_back R (x ∷ xs) ys up = up_back R xs ys up.1

-- each of those is above all of the first
across : (R : Row → Row → Type 0) (xs ys : List Row) → IsAscending R (xs ++ ys)
    → AllByRecursion (λ y. AllByRecursion (λ x. R x y) xs) ys
across R [] ys up = each ys where
  each : (zs : List Row) → AllByRecursion (λ z. AllByRecursion (λ x. R x z) []) zs
  each [] = tt
  each (z ∷ zs) = (tt, each zs)
across R (x ∷ xs) ys up = both ys (all_back (R x) xs ys up.0) (across R xs ys up.1) where
  both : (zs : List Row) → AllByRecursion (R x) zs
      → AllByRecursion (λ z. AllByRecursion (λ a. R a z) xs) zs
      → AllByRecursion (λ z. AllByRecursion (λ a. R a z) (x ∷ xs)) zs
  both [] h k = tt
  both (z ∷ zs) h k = ((h.0, k.0), both zs h.1 k.1)

none_of : (p : Row → Bool) (xs ys : List Row) → AllByRecursion (λ x. p x ≡ false) xs → list_any p ys ≡ false
    → list_any p (xs ++ ys) ≡ false
none_of p [] ys all none = none
none_of p (x ∷ xs) ys all none = ap₂ (λ a b. a || b) all.0 (none_of p xs ys all.1 none)

-- ---- room

pub fewer : (few many : ℕ) (rows : List Row) → few ≤ many → HasRoomFor many rows → HasRoomFor few rows
fewer few many rows low room = (
  omega (arith, low, room.0),
  record {
    rising = room.1.rising;
    low = room.1.low;
    next = λ k less. room.1.next k (omega (arith, low, less));
  },
)

fits : (z : ℤ) → negsuc (2 ^ 63) <ℤ z → z <ℤ pos (2 ^ 63) → fits_i64 z ≡ true
fits (pos n) h k = grind (arith, ints, nat_tests)
fits (negsuc n) h k = grind (arith, ints, nat_tests)

-- the first rowid of a table without rows is 1
pub blank_room : (count : ℕ) → count < 2 ^ 63 → HasRoomFor count []
blank_room count few = (
  few,
  record {
    rising = tt;
    low = tt;
    next = λ k less. fits (pos 1 +ℤ pos k) (grind (arith, ints)) (grind (arith, ints, less, few));
  },
)

-- ---- rows that are new

module _ (width : ℕ) (xs ys stored shown plans : List Row)
    (new : AreNewRows width (xs ++ ys) stored shown plans) where
  first_new : AreNewRows width xs stored shown plans
  first_new = record {
    short = all_front (λ r. AllByRecursion IsShortValue r) xs ys new.short;
    room = fewer (length xs) (length (xs ++ ys)) stored (omega (arith, length-append xs ys)) new.room;
    apart = up_front (λ a b. has_same_key width a b ≡ false) xs ys new.apart;
    free = all_front (λ r. LacksKey width r shown) xs ys new.free;
    planned = all_front (λ r. HasKey 2 r plans) xs ys new.planned;
  }

  free_then : (now : List Row) → IsPermutation (xs ++ shown) now → (zs : List Row)
      → AllByRecursion (λ z. AllByRecursion (λ x. has_same_key width x z ≡ false) xs) zs
      → AllByRecursion (λ z. LacksKey width z shown) zs → AllByRecursion (λ z. LacksKey width z now) zs
  free_then now same [] h k = tt
  free_then now same (z ∷ zs) h k = (
    sym (list_any-IsPermutation (λ r. has_same_key width r z) (xs ++ shown) now same)
        ∙ none_of (λ r. has_same_key width r z) xs shown h.0 k.0,
    free_then now same zs h.1 k.1,
  )

  -- once the first were added, the others are new
  later_new : (next now : List Row) → ((left : ℕ) → HasRoomFor (length xs + left) stored
      → HasRoomFor left next) → IsPermutation (xs ++ shown) now → AreNewRows width ys next now plans
  later_new next now takes same = record {
    short = all_back (λ r. AllByRecursion IsShortValue r) xs ys new.short;
    room = takes (length ys) (fewer (length xs + length ys) (length (xs ++ ys)) stored
        (omega (arith, length-append xs ys)) new.room);
    apart = up_back (λ a b. has_same_key width a b ≡ false) xs ys new.apart;
    free = free_then now same ys (across (λ a b. has_same_key width a b ≡ false) xs ys new.apart)
        (all_back (λ r. LacksKey width r shown) xs ys new.free);
    planned = all_back (λ r. HasKey 2 r plans) xs ys new.planned;
  }

-- rows stay new in a table that stays
still_new : (width : ℕ) (rows stored shown plans next now heads : List Row)
    → AreNewRows width rows stored shown plans
    → ((left : ℕ) → HasRoomFor (0 + left) stored → HasRoomFor left next) → now ≡ shown → heads ≡ plans
    → AreNewRows width rows next now heads
still_new width rows stored shown plans next now heads new takes same plans_same = record {
  short = new.short;
  room = takes (length rows) (fewer (0 + length rows) (length rows) stored (omega arith) new.room);
  apart = new.apart;
  free = subst (λ s. AllByRecursion (λ r. LacksKey width r s) rows) (sym same) new.free;
  planned = subst (λ ps. AllByRecursion (λ r. HasKey 2 r ps) rows) (sym plans_same) new.planned;
}

-- ---- the spans of a plan are one list of rows

abbrev pub OneList : Type 0
OneList = (set : ℕ → Bool) (one other : List Span) → IsRanges set one → IsRanges set other → one ≡ other

one_from : OneList → (p : Filed) (n : ℕ) (vs : List Block) (a b : List Row) → AreSpanRowsFrom p n vs a
    → AreSpanRowsFrom p n vs b → a ≡ b
one_from one p n [] a b e f = e ∙ sym f
one_from one p n (v ∷ vs) a b (xs, rest, r, are, then) (ys, more, q, is, later) =
    are
    ∙ ap₂ (λ s t. map (row_of_span p n v) s ++ t) (one (shape_positions v.footprint) xs ys r q)
    (one_from one p (n + 1) vs rest more then later)
    ∙ sym is

one_plan : OneList → (p : Filed) (a b : List Row) → ArePlanSpanRows p a → ArePlanSpanRows p b → a ≡ b
one_plan one p a b = by_live (is_live p.row.usage) where
  by_live : (live : Bool) → MatchBool live (AreSpanRowsFrom p 0 p.row.area a) (a ≡ [])
      → MatchBool live (AreSpanRowsFrom p 0 p.row.area b) (b ≡ []) → a ≡ b
  by_live true h k = one_from one p 0 p.row.area a b h k
  by_live false h k = h ∙ sym k

-- ---- one plan after the other

module _ (p : Filed) (later : List Filed) (a : Database) (w : AreWritable (p ∷ later) a) where
  pub volumes_fit : (rows covers : List Row) → rows ≡ area_rows p → covers ≡ area_covers p
      → AreNewVolumes rows covers a
  volumes_fit rows covers is are =
      let t = tables_of a.trees in (
        subst (λ rs. AreNewRows 3 rs (a.trees 9) t.volumes t.plans) (sym is)
            (first_new 3 (area_rows p) (volume_rows later) (a.trees 9) t.volumes t.plans w.volumes.0),
        subst AreShort (sym are) (all_front (λ r. AllByRecursion IsShortValue r) (area_covers p)
            (cover_rows later) w.volumes.1),
      )

  -- the plan's spans, and those of the later plans
  spans_parted : OneList → (mine : List Row) → ArePlanSpanRows p mine
      → (rest : List Row) × AreSpanRows later rest × AreNewSpans (mine ++ rest) a
  spans_parted one mine own = parted w.spans w.are w.new where
    parted : (rows : List Row) → AreSpanRows (p ∷ later) rows → AreNewSpans rows a
        → (rest : List Row) × AreSpanRows later rest × AreNewSpans (mine ++ rest) a
    parted rows (front, rest, are, first, then) new = (
      rest,
      then,
      subst (λ rs. AreNewSpans rs a)
          (are ∙ ap (λ f. f ++ rest) (one_plan one p front mine first own)) new,
    )

  module _ (one : OneList) (b : Database) (rows covers : List Row) (count : ℕ) (mine : List Row)
      (own : ArePlanSpanRows p mine)
      (adds : AddsVolumes rows covers (tables_of a.trees) (tables_of b.trees))
      (takes : TakesRoom 0 count 0 a.trees b.trees) where
    -- the spans stay new while the volumes are added
    spans_on : (rs : List Row) → AreNewSpans rs a → AreNewSpans rs b
    spans_on rs new =
        let t = tables_of a.trees in
        let u = tables_of b.trees in
        still_new 4 rs (a.trees 11) t.spans t.plans (b.trees 11) u.spans u.plans new takes.of_spans
        (ap (λ (x : Tables). x.spans) adds.2) (ap (λ (x : Tables). x.plans) adds.2)

    pub spans_fit : AreNewSpans mine b
    spans_fit =
        let it = spans_parted one mine own in
        let u = tables_of b.trees in
        first_new 4 mine it.0 (b.trees 11) u.spans u.plans (spans_on (mine ++ it.0) it.2)

    -- and the later plans can be added then
    pub rest_writable : (c : Database) → rows ≡ area_rows p → count ≡ length rows
        → AddsSpans mine (tables_of b.trees) (tables_of c.trees)
        → TakesRoom 0 0 (length mine) b.trees c.trees → AreWritable later c
    rest_writable c is many more room =
        let t = tables_of a.trees in
        let u = tables_of b.trees in
        let v = tables_of c.trees in
        let it = spans_parted one mine own in
        let so_many : count ≡ length (area_rows p) = many ∙ ap length is in
        let plans_b : u.plans ≡ t.plans = ap (λ (x : Tables). x.plans) adds.2 in
        let plans_c : v.plans ≡ u.plans = ap (λ (x : Tables). x.plans) more.1 in
        let volumes_b = later_new 3 (area_rows p) (volume_rows later) (a.trees 9) t.volumes t.plans
        w.volumes.0 (b.trees 9) u.volumes
        (λ left enough. takes.of_volumes left
        (subst (λ n. HasRoomFor (n + left) (a.trees 9)) (sym so_many) enough))
        (subst (λ rs. IsPermutation (rs ++ t.volumes) u.volumes) is adds.0) in
        record {
          volumes = (
            still_new 3 (volume_rows later) (b.trees 9) u.volumes t.plans (c.trees 9) v.volumes v.plans
                volumes_b room.of_volumes (ap (λ (x : Tables). x.volumes) more.1) (plans_c ∙ plans_b),
            all_back (λ r. AllByRecursion IsShortValue r) (area_covers p) (cover_rows later) w.volumes.1,
          );
          spans = it.0;
          are = it.1;
          new = subst (λ ps. AreNewRows 4 it.0 (c.trees 11) v.spans ps) (sym plans_c)
              (later_new 4 mine it.0 (b.trees 11) u.spans u.plans (spans_on (mine ++ it.0) it.2) (c.trees 11)
              v.spans room.of_spans more.0);
        }

-- ---- what a move and a packed file begin with

-- a row that begins with a plan's key has the key of the plan's row
keyed_row : (p : Filed) (r : Row) → BeginsAs p r → has_same_key 2 (row_of_plan p) r ≡ true
keyed_row p r (more, is) =
    subst (λ r. has_same_key 2 (row_of_plan p) r ≡ true) (sym is)
    (and_from _ _ (ap is_eq (tied_itself value_cmp_total (Text p.operator)))
    (and_from _ _ (ap is_eq (tied_itself value_cmp_total (Text (id_text p.row.id)))) refl))

or_true : (a : Bool) → (a || true) ≡ true
or_true true = refl
or_true false = refl

more_planned : (p : Filed) (ps : List Filed) (front rest : List Row) → AllByRecursion (BeginsAs p) front
    → AllByRecursion (λ r. HasKey 2 r (plan_rows ps)) rest
    → AllByRecursion (λ r. HasKey 2 r (plan_rows (p ∷ ps))) (front ++ rest)
more_planned p ps front rest keyed planned =
    all_append (λ r. HasKey 2 r (plan_rows (p ∷ ps))) front rest
    (all_weaker (BeginsAs p) (λ r. HasKey 2 r (plan_rows (p ∷ ps)))
    (λ r k. ap (λ b. b || list_any (λ q. has_same_key 2 q r) (plan_rows ps)) (keyed_row p r k)) front keyed)
    (all_weaker (λ r. HasKey 2 r (plan_rows ps)) (λ r. HasKey 2 r (plan_rows (p ∷ ps)))
    (λ r k. ap (λ b. has_same_key 2 (row_of_plan p) r || b) k
    ∙ or_true (has_same_key 2 (row_of_plan p) r)) rest
    planned)

volumes_planned : (ps : List Filed) → AllByRecursion (λ r. HasKey 2 r (plan_rows ps)) (volume_rows ps)
volumes_planned [] = tt
volumes_planned (p ∷ ps) =
    more_planned p ps (area_rows p) (volume_rows ps) (area_keyed p 0 p.row.area) (volumes_planned ps)

spans_planned : (ps : List Filed) (rows : List Row) → AreSpanRows ps rows
    → AllByRecursion (λ r. HasKey 2 r (plan_rows ps)) rows
spans_planned [] rows e = subst (AllByRecursion (λ r. HasKey 2 r [])) (sym e) tt
spans_planned (p ∷ ps) rows (front, rest, are, own, then) =
    subst (AllByRecursion (λ r. HasKey 2 r (plan_rows (p ∷ ps)))) (sym are)
    (more_planned p ps front rest (spans_keyed p front own) (spans_planned ps rest then))

-- the plans of these rows are there, in whatever order
planned_there : (ps : List Filed) (plans rows : List Row) → IsPermutation (plan_rows ps) plans
    → AllByRecursion (λ r. HasKey 2 r (plan_rows ps)) rows → AllByRecursion (λ r. HasKey 2 r plans) rows
planned_there ps plans rows same = all_weaker (λ r. HasKey 2 r (plan_rows ps)) (λ r. HasKey 2 r plans)
    (λ r k. sym (list_any-IsPermutation (λ q. has_same_key 2 q r) (plan_rows ps) plans same) ∙ k) rows

-- no row has a key in a table without rows
pub all_free : (width : ℕ) (rows shown : List Row) → shown ≡ []
    → AllByRecursion (λ r. LacksKey width r shown) rows
all_free width rows shown none =
    subst (λ s. AllByRecursion (λ r. LacksKey width r s) rows) (sym none) (free rows) where
      free : (rs : List Row) → AllByRecursion (λ r. LacksKey width r []) rs
      free [] = tt
      free (r ∷ rs) = (refl, free rs)

-- a tree of which no row is shown has none
pub no_tree : (f : Row → Row) (rows : List Row) → map f rows ≡ [] → rows ≡ []
no_tree f [] none = refl
no_tree f (r ∷ rows) none = cc

all_volumes_short : (ps : List Filed) → AllByRecursion IsFiled ps → AreShort (volume_rows ps)
all_volumes_short [] within = tt
all_volumes_short (p ∷ ps) within = all_append (λ r. AllByRecursion IsShortValue r) (area_rows p)
    (volume_rows ps)
    (volumes_short p (name_short p.operator within.0.operator) (id_short p.row.id) 0 p.row.area
    within.0.row.each)
    (all_volumes_short ps within.1)

all_spans_short : (ps : List Filed) (rows : List Row) → AllByRecursion IsFiled ps → AreSpanRows ps rows
    → AreShort rows
all_spans_short [] rows within e = subst AreShort (sym e) tt
all_spans_short (p ∷ ps) rows within (front, rest, are, own, then) =
    subst AreShort (sym are) (all_append (λ r. AllByRecursion IsShortValue r) front rest
    (spans_short p (name_short p.operator within.0.operator) (id_short p.row.id) front own)
    (all_spans_short ps rest within.1 then))

abbrev pub FewCovers : Type 0
FewCovers = (shape : Shape) → IsTrue (is_footprint shape) → HasValidParts shape
    → length (canonical_list (shape_positions shape)) ≤ max_cover

all_covers_short : FewCovers → (ps : List Filed) → AllByRecursion IsFiled ps → AreShort (cover_rows ps)
all_covers_short few [] within = tt
all_covers_short few (p ∷ ps) within = all_append (λ r. AllByRecursion IsShortValue r) (area_covers p)
    (cover_rows ps)
    (covers_short p (name_short p.operator within.0.operator) (id_short p.row.id) few 0 p.row.area
    within.0.row.each)
    (all_covers_short few ps within.1)

pub are_plans : (ps : List Filed) → AllByRecursion IsFiled ps → ArePlans ps
are_plans [] within = tt
are_plans (p ∷ ps) within = (within.0.row, are_plans ps within.1)

-- over tables without rows of volumes and spans those of all plans can be added
pub writable : FewCovers → (ps : List Filed) (db : Database) → AreAwaited ps (tables_of db.trees)
    → AreWritable ps db
writable few ps db h =
    let t = tables_of db.trees in
    let spans = h.few.spans in
    let volume_tree : db.trees 9 ≡ [] = no_tree _ (db.trees 9) h.volumes in
    let span_tree : db.trees 11 ≡ [] = no_tree _ (db.trees 11) h.spans in
    record {
      volumes = (
        record {
          short = all_volumes_short ps h.within;
          room = subst (HasRoomFor (length (volume_rows ps))) (sym volume_tree)
              (blank_room (length (volume_rows ps)) h.few.volumes);
          apart = volumes_apart (volume_rows ps) (volumes_up ps (are_plans ps h.within) h.keys);
          free = all_free 3 (volume_rows ps) t.volumes h.volumes;
          planned = planned_there ps t.plans (volume_rows ps) h.plans (volumes_planned ps);
        },
        all_covers_short few ps h.within,
      );
      spans = spans;
      are = h.few.are;
      new = record {
        short = all_spans_short ps spans h.within h.few.are;
        room = subst (HasRoomFor (length spans)) (sym span_tree) (blank_room (length spans) h.few.few);
        apart = spans_apart spans (spans_up ps spans (are_plans ps h.within) h.keys h.few.are);
        free = all_free 4 spans t.spans h.spans;
        planned = planned_there ps t.plans spans h.plans (spans_planned ps spans h.few.are);
      };
    }
