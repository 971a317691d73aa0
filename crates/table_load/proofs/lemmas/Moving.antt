-- The move of a content from schema 1 to schema 2.
use Rattle.std.proofs.Common.{◌≡◌, ◌≤◌, ◌↔◌, ◌⊎◌, ℕ, length, true, List, [], ◌∷◌, ◌++◌, Result, Ok, Err, IsTrue, refl, sym, ap, subst, ◌∙◌, arith, inl, inr, append_assoc, IsPermutation}
use Rattle.std.specs.List.{flat_map, AllByRecursion}
use Rattle.std.proofs.lemmas.List.{append-nil}
use Rattle.std.proofs.lemmas.Grind.{flat_map-append}
use Rattle.std.proofs.lemmas.List.Sorted.{IsPermutation-refl, IsPermutation-trans, IsPermutation-append_comm, IsPermutation-append_left, IsPermutation-append_right}
use Rattle.sqlite_trees.specs.declared.store.Store.{Ghosts}
use Rattle.sqlite_trees.specs.View.{doubt}
use Rattle.sqlite_value.specs.Order.{Row}
use Rattle.sqlite.specs.Effect.{Database}
use Rattle.sqlite.specs.State.{HasCleanDisk}
use Rattle.sqlite.specs.Held.{Held, state}
use Rattle.s2_cover.specs.Covers.{canonical_list, RectParts}
use Rattle.volume4d.specs.Footprint.{HasValidParts, footprint_bytes}
use Rattle.volume4d.specs.Volume.{Shape, rectangle, shape_positions}
use Rattle.desk_sql.specs.declared.opening.finding.TablesPresent.{TablesPresent}
use Rattle.desk_sql.specs.declared.opening.finding.TablesPresent.TheVariants.{All}
use Rattle.desk_sql.specs.Rows.{IsMadeTo, Tables, tables_of, tables_at, has_old_rows}
use Rattle.desk_sql.specs.Effects.{StaysShown, ShowsAsBefore, Makes, IsUnderWay, OnlyReads, Remembers, Holds, HasOthers}
use Rattle.desk_store.specs.World.{Filed, World, IsContent}
use Rattle.row_codec.specs.Tables.{area_rows, area_covers, volume_rows, cover_rows, ArePlanSpanRows, AreSpanRows}
use Rattle.table_load.specs.declared.fault.OpenFault.{OpenFault}
use Rattle.table_load.specs.Opening.{AreRows, BeginsWith, HasNoContent, HasRowsOld, ShowsNoDesk}
use Rattle.table_load.specs.OpeningSteps.{BeginsAllMoved, HadNoOld, IsOpening, IsSetUp}
use Rattle.table_load.specs.Moving.{AddsPlanRows, AddsPlansRows, BeginsMoved, HasAllTables, HasNoOldContent, IsOldArea, IsOldContent, IsOldContentOf, IsOldShape, KeepsRows, ShowsNoContent, WasMoved, old_max_cover}
use Rattle.table_load.proofs.lemmas.Content.{one_plans}
use Rattle.table_load.proofs.lemmas.Opening.{cause_then, desk_made, made_desk}

-- ---- a loop that adds the rows of a plan at each turn

pub record HasAdded {S : Type 0} (g : Ghosts S) (old now : Held S)
    (Changes : Tables → Tables → Type 0) : Type
    0 where
  pub remembered : Remembers g old now
  pub made : HasCleanDisk (state g now) → Makes g old now Changes

pub begins : {S : Type 0} (g : Ghosts S) (old : Held S) (Changes : Tables → Tables → Type 0)
    → ((t : Tables) → Changes t t) → IsUnderWay g old → HasAdded g old old Changes
begins g old Changes none under = record {
  remembered = record {
    limit = refl;
    doubt = omega arith;
    faults = omega arith;
    shield = λ s. s;
    spared = λ clean db left. left;
  };
  made = λ clean. let h = under clean in record {
    was_open = h.0;
    is_open = h.0;
    begun = h.1;
    committed = refl;
    desk = h.2;
    beside = refl;
    sound = h.3;
    changed = none (tables_of (state g old).now.trees);
  };
}

pub remembers_then : {S : Type 0} (g : Ghosts S) (old mid new : Held S) → Remembers g old mid
    → Remembers g mid new → Remembers g old new
remembers_then g old mid new one two = record {
  limit = two.limit ∙ one.limit;
  doubt = omega (arith, one.doubt, two.doubt);
  faults = omega (arith, one.faults, two.faults);
  shield = λ s. two.shield (one.shield s);
  spared = λ clean db left. one.spared (omega (arith, two.doubt, clean)) db (two.spared clean db left);
}

-- two changes within a transaction, one after the other
pub makes_then : {S : Type 0} (g : Ghosts S) (old mid new : Held S)
    (Before Step After : Tables → Tables → Type 0)
    → ((a b c : Tables) → Before a b → Step b c → After a c)
    → Makes g old mid Before → Makes g mid new Step → Makes g old new After
makes_then g old mid new Before Step After joins first last = record {
  was_open = first.was_open;
  is_open = last.is_open;
  begun = last.begun;
  committed = last.committed ∙ first.committed;
  desk = last.desk;
  beside = last.beside ∙ first.beside;
  sound = last.sound;
  changed = joins (tables_of (state g old).now.trees) (tables_of (state g mid).now.trees)
      (tables_of (state g new).now.trees) first.changed last.changed;
}

pub goes_on : {S : Type 0} (g : Ghosts S) (old mid new : Held S)
    (Before Step After : Tables → Tables → Type 0)
    → ((a b c : Tables) → Before a b → Step b c → After a c)
    → HasAdded g old mid Before → Remembers g mid new
    → (HasCleanDisk (state g new) → Makes g mid new Step) → HasAdded g old new After
goes_on g old mid new Before Step After joins so_far turn step = record {
  remembered = remembers_then g old mid new so_far.remembered turn;
  made = λ clean. makes_then g old mid new Before Step After joins
      (so_far.made (omega (arith, turn.doubt, clean))) (step clean);
}

-- the transaction goes on
pub way_on : {S : Type 0} (g : Ghosts S) (old now : Held S) (Changes : Tables → Tables → Type 0)
    → HasAdded g old now Changes → IsUnderWay g now
way_on g old now Changes added clean = let made = added.made clean in
    (made.is_open, made.begun, made.desk, made.sound)

-- ---- rows that were added

pub no_plans : (t : Tables) → AddsPlansRows [] t t
no_plans t = record {
  operators = refl;
  plans = refl;
  old_volumes = refl;
  old_spans = refl;
  with_volumes = IsPermutation-refl t.volumes;
  with_covers = IsPermutation-refl t.covers;
  with_spans = ([], refl, IsPermutation-refl t.spans);
}

-- further rows after those that were added
pub further : (xs ys old mid new : List Row) → IsPermutation (xs ++ old) mid → IsPermutation (ys ++ mid) new
    → IsPermutation ((xs ++ ys) ++ old) new
further xs ys old mid new first last =
    IsPermutation-trans ((xs ++ ys) ++ old) ((ys ++ xs) ++ old) new
    (IsPermutation-append_left old (xs ++ ys) (ys ++ xs) (IsPermutation-append_comm xs ys))
    (subst (λ rs. IsPermutation rs new) (sym (append_assoc ys xs old))
    (IsPermutation-trans (ys ++ (xs ++ old)) (ys ++ mid) new
    (IsPermutation-append_right ys (xs ++ old) mid first) last))

one_more : (f : Filed → List Row) (ps : List Filed) (p : Filed)
    → flat_map f (ps ++ p ∷ []) ≡ flat_map f ps ++ f p
one_more f ps p = flat_map-append f ps (p ∷ []) ∙ ap (λ rs. flat_map f ps ++ rs) (append-nil (f p))

spans_more : (ps : List Filed) (p : Filed) (rows mine : List Row) → AreSpanRows ps rows
    → ArePlanSpanRows p mine → AreSpanRows (ps ++ p ∷ []) (rows ++ mine)
spans_more [] p rows mine e own =
    (mine, [], ap (λ rs. rs ++ mine) e ∙ sym (append-nil mine), own, refl)
spans_more (q ∷ ps) p rows mine (front, rest, are, first, then) own = (
  front,
  rest ++ mine,
  ap (λ rs. rs ++ mine) are ∙ append_assoc front rest mine,
  first,
  spans_more ps p rest mine then own,
)

pub more_plans : (ps : List Filed) (p : Filed) (all : List Filed) → all ≡ ps ++ p ∷ [] → (a b c : Tables)
    → AddsPlansRows ps a b → AddsPlanRows p b c → AddsPlansRows all a c
more_plans ps p all is a b c first last =
    subst (λ qs. AddsPlansRows qs a c) (sym is) (record {
      operators = last.operators ∙ first.operators;
      plans = last.plans ∙ first.plans;
      old_volumes = last.old_volumes ∙ first.old_volumes;
      old_spans = last.old_spans ∙ first.old_spans;
      with_volumes = subst (λ rs. IsPermutation (rs ++ a.volumes) c.volumes) (sym (one_more area_rows ps p))
          (further (volume_rows ps) (area_rows p) a.volumes b.volumes c.volumes first.with_volumes
          last.with_volumes);
      with_covers = subst (λ rs. IsPermutation (rs ++ a.covers) c.covers) (sym (one_more area_covers ps p))
          (further (cover_rows ps) (area_covers p) a.covers b.covers c.covers first.with_covers
          last.with_covers);
      with_spans = (
        first.with_spans.0 ++ last.with_spans.0,
        spans_more ps p first.with_spans.0 last.with_spans.0 first.with_spans.1 last.with_spans.1,
        further first.with_spans.0 last.with_spans.0 a.spans b.spans c.spans first.with_spans.2
            last.with_spans.2,
      );
    })

-- ---- rows that went, and those that came

-- ---- a test of one after the other

-- all pass if and only if those that are left do
abbrev pub AllIf : {A : Type 0} → (A → Type 0) → List A → List A → Type 0
AllIf P all left = AllByRecursion P all ↔ AllByRecursion P left

-- ---- the limits of schema 1

-- a rectangle is within them if its canonical cover is
pub old_rectangle : (shape : Shape) (r : RectParts) (ids : List ℕ) → shape ≡ rectangle r
    → ids ≡ canonical_list (shape_positions shape) → (length ids ≤ old_max_cover) ↔ IsOldShape shape
old_rectangle shape r ids is cover = (
  λ few. subst IsOldShape (sym is)
      (subst (λ s. length (canonical_list (shape_positions s)) ≤ old_max_cover) is
      (subst (λ xs. length xs ≤ old_max_cover) cover few)),
  λ old. subst (λ xs. length xs ≤ old_max_cover) (sym cover)
      (subst (λ s. length (canonical_list (shape_positions s)) ≤ old_max_cover) (sym is)
      (subst IsOldShape is old)),
)

-- ---- a content of schema 1

-- contents whose rows are read alike have the same plans
pub no_old_areas : ((one other : Shape) → HasValidParts one → HasValidParts other
    → footprint_bytes one ≡ footprint_bytes other → one ≡ other)
    → (t : Tables) (v : World) → IsContent v → AreRows t v
    → (AllByRecursion (λ (p : Filed). IsOldArea p.row.area) v.plans → ⊥)
    → (w : World) → IsOldContent w → AreRows t w → ⊥
no_old_areas one_shape t v hv rows off w hw are =
    let plans = one_plans one_shape v.plans w.plans hv.rows hw.content.rows
    (sym rows.plan_part ∙ are.plan_part) (sym rows.volume_part ∙ are.volume_part) in
    off (subst (AllByRecursion (λ (p : Filed). IsOldArea p.row.area)) (sym plans) hw.areas)

-- ---- what is left of a connection

module _ {S : Type 0} (g : Ghosts S) where
  -- where nothing was missing, nothing is made
  pub whole_already : (made : TablesPresent) (a : Held S) → Holds g a (IsMadeTo made) → made ≡ All
      → HasCleanDisk (state g a) → IsTrue (state g a).is_open → HasAllTables g made a a
  whole_already made a part all = λ clean live. record {
    was_open = live;
    desk = desk_made (state g a).now
        (subst (λ m. IsMadeTo m (state g a).now) all (part clean live));
    same = ap (λ m. tables_at m (state g a).now.trees) (sym all);
  }

  -- the same before a reading
  pub moved_since : (w : World) (a b c : Held S) → ShowsAsBefore g a b → WasMoved g b c w
      → WasMoved g a c w
  moved_since w a b c shows was = record {
    made = was.made;
    desk = subst (IsMadeTo was.made) shows.now was.desk;
    old_rows = ap (λ (db : Database). has_old_rows (tables_at was.made db.trees)) (sym shows.now)
        ∙ was.old_rows;
    rows = subst (λ (db : Database). IsOldContentOf (tables_at was.made db.trees) w) shows.now was.rows;
    standing = was.standing;
  }

  -- rows that are kept since a reading
  pub keeps_since : (a b c : Held S) → StaysShown g a b
      → doubt (state g b).is_clean ≤ doubt (state g c).is_clean
      → KeepsRows g b c → KeepsRows g a c
  keeps_since a b c one rises two = λ clean live. elim (two clean live) [
    | inl same ↦
        let before = one (omega (arith, rises, clean)) same.was_open in
        inl (record {
          was_open = before.was_open;
          now = same.now ∙ before.now;
          committed = same.committed ∙ before.committed;
        })
    | inr rows ↦
        let before = one (omega (arith, rises, clean)) rows.was_open in
        inr (record {
          made = rows.made;
          next = rows.next;
          was_open = before.was_open;
          desk = subst (IsMadeTo rows.made) before.now rows.desk;
          after = rows.after;
          same = rows.same ∙ ap (λ (db : Database). tables_at rows.made db.trees) before.now;
        })
  ]

  -- tables that were completed, and then kept
  pub keeps_whole : (made : TablesPresent) (b c d : Held S) → Holds g b (IsMadeTo made)
      → doubt (state g b).is_clean ≤ doubt (state g c).is_clean
      → doubt (state g c).is_clean ≤ doubt (state g d).is_clean
      → (HasCleanDisk (state g c) → IsTrue (state g c).is_open → HasAllTables g made b c)
      → StaysShown g c d → KeepsRows g b d
  keeps_whole made b c d part one two done kept = λ clean live.
      let shows = kept clean live in
      let mid : HasCleanDisk (state g c) = omega (arith, two, clean) in
      let whole = done mid shows.was_open in
      inr (record {
        made = made;
        next = All;
        was_open = whole.was_open;
        desk = part (omega (arith, one, mid)) whole.was_open;
        after = subst (IsMadeTo All) (sym shows.now) (made_desk (state g c).now whole.desk);
        same = ap (λ (db : Database). tables_of db.trees) shows.now ∙ whole.same;
      })

  was_live : (b c : Held S) → KeepsRows g b c → HasCleanDisk (state g c) → IsTrue (state g c).is_open
      → IsTrue (state g b).is_open
  was_live b c kept clean live = elim (kept clean live) [
    | inl same ↦ same.was_open
    | inr rows ↦ rows.was_open
  ]

-- what is moved after a reading is a whole opening
pub moved_after : {S V : Type 0} (g : Ghosts S) (a b c : Held S) (made : TablesPresent) (world : V → World)
    (count : V → ℕ) (r : Result V OpenFault) → OnlyReads g a b → Holds g b (IsMadeTo made)
    → Holds g b (HasRowsOld made true)
    → IsSetUp g b c r world (λ v. BeginsAllMoved g b c (world v) (count v)) (HadNoOld g b c made)
    (KeepsRows g b c)
    → IsOpening g a c r world (λ v. BeginsMoved g a c (world v) (count v)) (ShowsNoContent g a c) ⊥
    (KeepsRows g a c)
moved_after g a b c made world count (Ok v) reads part old done = record {
  begins = λ clean live.
      let was = done.begins clean in
      inr (
        was.0,
        moved_since g (world v) a b c
            (reads.kept (omega (arith, done.doubt, clean)) (done.was_open clean)) was.1,
      );
  stands = done.stands;
  live = done.live;
  none = tt;
  older = tt;
  cause = tt;
  kept = tt;
  limit = done.limit ∙ reads.limit;
  doubt = omega (arith, reads.doubt, done.doubt);
  shield = λ s. done.shield (reads.shield s);
}
moved_after g a b c made world count (Err e) reads part old done = record {
  begins = tt;
  stands = tt;
  live = tt;
  none = λ is clean live.
      let was = was_live g b c done.kept clean live in
      let mid : HasCleanDisk (state g b) = omega (arith, done.doubt, clean) in
      let shows = reads.kept mid was in
      subst (λ (db : Database). HasOthers db ⊎ (HasNoContent db ⊎ HasNoOldContent db)) shows.now
      (inr (inr (record { made = made; desk = part mid was; old = old mid was; none = done.none is clean })));
  older = done.newer;
  cause = cause_then g a b c reads.faults reads.limit e done.cause;
  kept = keeps_since g a b c reads.kept done.doubt done.kept;
  limit = done.limit ∙ reads.limit;
  doubt = omega (arith, reads.doubt, done.doubt);
  shield = λ s. done.shield (reads.shield s);
}

-- an opening that moves nothing is a move of no plan
module _ {S : Type 0} (g : Ghosts S) (a c : Held S) where
  pub begins_unmoved : (w : World) → BeginsWith g a c w → BeginsMoved g a c w 0
  begins_unmoved w found = λ clean live. inl (refl, found)

  pub none_unmoved : ShowsNoDesk g a c → ShowsNoContent g a c
  none_unmoved none = λ clean live. elim (none clean live) [
    | inl others ↦ inl others
    | inr rows ↦ inr (inl rows)
  ]
