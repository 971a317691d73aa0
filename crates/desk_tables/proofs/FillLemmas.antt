-- A content whose rows are added to tables without rows is refused by nothing of its own.
use Rattle.std.proofs.Common.{◌≡◌, ◌≤◌, ◌<◌, ◌+◌, ◌^◌, ◌||◌, ℕ, false, true, List, [], ◌∷◌, drop, length, map, None, IsTrue, Less, inl, inr, sym, ap, ap₂, subst, ◌∙◌, arith, IsPermutation}
use Rattle.std.specs.List.{AllByRecursion}
use Rattle.std.specs.List.Sorted.{IsStrictlySortedBy}
use Rattle.std.proofs.lemmas.List.{length-map}
use Rattle.std.proofs.lemmas.List.Sorted.{list_any-IsPermutation}
use Rattle.sqlite_trees.specs.declared.store.Store.{Ghosts}
use Rattle.sqlite_trees.proofs.ListLemmas.{ascending_weaker}
use Rattle.sqlite_value.specs.Order.{Row}
use Rattle.sqlite.specs.Effect.{Database}
use Rattle.sqlite.specs.State.{HasCleanDisk}
use Rattle.sqlite.specs.Held.{Held, state}
use Rattle.desk_sql.specs.Changing.{HasKey, IsNewRow, IsShort, FitsOperator, FitsPlan, LacksKey, has_same_key}
use Rattle.desk_rules.specs.Limits.{is_operator_name}
use Rattle.desk_sql.specs.Effects.{IsOpenIfClean, Holds}
use Rattle.desk_changes.specs.RowChanges.{HasRoomFor, HaveOwnKeys, TakesOperators, TakesRoom}
use Rattle.desk_sql.specs.Rows.{AddsOperator, AddsPlan, Tables, by_cells, tables_of}
use Rattle.desk_store.specs.World.{Filed, IsListed, Listed, World, filed_cmp, listed_cmp, IsContent}
use Rattle.desk_store.proofs.lemmas.Order.{all_weaker}
use Rattle.table_load.specs.declared.fault.OpenFault.{OpenFault}
use Rattle.table_load.specs.Opening.{BlamesDatabase, BlamesReading, Stands, AreNewHeads, AreNewKeys, AreNewOperators, AreWritable, CanBeFilled, HaveFewRows}
use Rattle.desk_tables.specs.Copying.{AddsHeadRows, AddsOperatorRows, BlamesNew}
use Rattle.row_codec.specs.Tables.{IsFiled, id_text, operator_rows, plan_rows, row_of_operator, row_of_plan}
use Rattle.table_load.proofs.lemmas.Assembly.{filed_within}
use Rattle.table_load.proofs.lemmas.NewRow.{name_short}
use Rattle.desk_tables.proofs.CopyLemmas.{alone}
use Rattle.row_codec.proofs.lemmas.Order.{ArePlans}
use Rattle.table_load.proofs.lemmas.KeyOrder.{operators_up, plans_up}
use Rattle.desk_tables.proofs.LiftLemmas.{disk_blamed}
use Rattle.table_load.proofs.lemmas.Opening.{cause_then}
use Rattle.table_load.proofs.lemmas.NewRow.{apart_by}
use Rattle.desk_tables.proofs.PuttableLemmas.{named_row}
use Rattle.row_codec.proofs.lemmas.Share.{if_listed}
use Rattle.table_load.proofs.lemmas.Small.{id_short}
use Rattle.table_load.proofs.lemmas.Store.{no_row, nothing}
use Rattle.table_load.proofs.lemmas.Writing.{FewCovers, all_free, are_plans, blank_room, fewer, no_tree, writable}

-- ---- one row after the other

module _ (width : ℕ) (x : Row) (xs stored shown : List Row)
    (new : AreNewKeys width (x ∷ xs) stored shown) where
  pub first_key : IsNewRow width x stored shown
  first_key = ((fewer 1 (length (x ∷ xs)) stored (omega arith) new.room).1, new.free.0)

  pub later_keys : (next now : List Row) → ((left : ℕ) → HasRoomFor (1 + left) stored → HasRoomFor left next)
      → IsPermutation (x ∷ shown) now → AreNewKeys width xs next now
  later_keys next now takes same = record {
    room = takes (length xs) (fewer (1 + length xs) (length (x ∷ xs)) stored (omega arith) new.room);
    apart = new.apart.1;
    free = each xs new.apart.0 new.free.1;
  } where
    each : (zs : List Row) → AllByRecursion (λ z. has_same_key width x z ≡ false) zs
        → AllByRecursion (λ z. LacksKey width z shown) zs → AllByRecursion (λ z. LacksKey width z now) zs
    each [] h k = tt
    each (z ∷ zs) h k = (
      sym (list_any-IsPermutation (λ r. has_same_key width r z) (x ∷ shown) now same)
          ∙ ap₂ (λ a b. a || b) h.0 k.0,
      each zs h.1 k.1,
    )

module _ (l : Listed) (later : List Listed) (a : Database) (all : AreNewOperators (l ∷ later) a) where
  pub operator_fits : FitsOperator l.name (row_of_operator l) a
  operator_fits = (
    all.names.0,
    first_key 1 (row_of_operator l) (map row_of_operator later) (a.trees 0) (tables_of a.trees).operators
        all.new,
  )

  pub operators_left : (b : Database)
      → AddsOperator (row_of_operator l) (tables_of a.trees) (tables_of b.trees)
      → TakesOperators 1 a.trees b.trees → AreNewOperators later b
  operators_left b adds takes = record {
    names = all.names.1;
    new = later_keys 1 (row_of_operator l) (map row_of_operator later) (a.trees 0)
        (tables_of a.trees).operators
        all.new (b.trees 0) (tables_of b.trees).operators takes adds.0;
  }

module _ (p : Filed) (later : List Filed) (a : Database) (all : AreNewHeads (p ∷ later) a) where
  pub head_fits : (name text : List ℕ) (row : Row) → name ≡ p.operator → text ≡ id_text p.row.id
      → row ≡ row_of_plan p → FitsPlan name text row a
  head_fits name text row named written is = (
    subst IsShort (sym named) all.names.0,
    subst IsShort (sym written) (id_short p.row.id),
    subst (λ r. IsNewRow 2 r (a.trees 2) (tables_of a.trees).plans) (sym is)
        (first_key 2 (row_of_plan p) (plan_rows later) (a.trees 2) (tables_of a.trees).plans all.new),
    subst (λ r. HasKey 1 r (tables_of a.trees).operators) (sym is) all.listed.0,
  )

  pub heads_left : (b : Database) → AddsPlan (row_of_plan p) (tables_of a.trees) (tables_of b.trees)
      → TakesRoom 1 0 0 a.trees b.trees → AreNewHeads later b
  heads_left b adds takes = record {
    names = all.names.1;
    new = later_keys 2 (row_of_plan p) (plan_rows later) (a.trees 2) (tables_of a.trees).plans all.new
        (b.trees 2) (tables_of b.trees).plans takes.of_plans adds.0;
    listed = subst (λ ls. AllByRecursion (λ r. HasKey 1 r ls) (plan_rows later))
        (sym (ap (λ (t : Tables). t.operators) adds.1)) all.listed.1;
  }

-- ---- what tables without rows begin with

operators_apart : (ls : List Listed) → IsStrictlySortedBy listed_cmp ls
    → HaveOwnKeys 1 (map row_of_operator ls)
operators_apart ls sorted = ascending_weaker (λ a b. by_cells (0 ∷ []) a b ≡ Less)
    (λ a b. has_same_key 1 a b ≡ false) (λ a b. apart_by a b (0 ∷ [])) (map row_of_operator ls)
    (operators_up ls sorted)

heads_apart : (ps : List Filed) → ArePlans ps → IsStrictlySortedBy filed_cmp ps → HaveOwnKeys 2 (plan_rows ps)
heads_apart ps are sorted = ascending_weaker (λ a b. by_cells (0 ∷ 1 ∷ []) a b ≡ Less)
    (λ a b. has_same_key 2 a b ≡ false) (λ a b. apart_by a b (0 ∷ 1 ∷ [])) (plan_rows ps)
    (plans_up ps are sorted)

-- rows can be added to a table without any
to_blank : (width : ℕ) (rows stored shown : List Row) → stored ≡ [] → shown ≡ [] → length rows < 2 ^ 63
    → HaveOwnKeys width rows → AreNewKeys width rows stored shown
to_blank width rows stored shown tree none few apart = record {
  room = subst (HasRoomFor (length rows)) (sym tree) (blank_room (length rows) few);
  apart = apart;
  free = all_free width rows shown none;
}

-- the operators of plans are there, in whatever order
heads_listed : (w : World) (qs : List Filed) (shown : List Row) → AllByRecursion (IsListed w) qs
    → IsPermutation (map row_of_operator w.operators) shown
    → AllByRecursion (λ r. HasKey 1 r shown) (plan_rows qs)
heads_listed w [] shown h same = tt
heads_listed w (q ∷ qs) shown h same = (
  sym (list_any-IsPermutation (λ r. has_same_key 1 r (row_of_plan q)) (map row_of_operator w.operators) shown
      same)
      ∙ named_row q.operator (drop 1 (row_of_plan q)) w.operators (if_listed w.operators w.plans q h.0),
  heads_listed w qs shown h.1 same,
)

module _ (w : World) (old : Database) (can : CanBeFilled w old) where
  pub operators_new : AreNewOperators w.operators old
  operators_new = record {
    names = all_weaker (λ l. IsTrue (is_operator_name l.name)) (λ l. IsShort l.name)
        (λ l. name_short l.name) w.operators can.content.names;
    new = to_blank 1 (map row_of_operator w.operators) (old.trees 0) (tables_of old.trees).operators
        (no_tree _ (old.trees 0) can.no_operators) can.no_operators
        (subst (λ n. n < 2 ^ 63) (sym (length-map w.operators row_of_operator)) can.operators)
        (operators_apart w.operators can.content.world.operators);
  }

  module _ (mid : Database)
      (listed : AddsOperatorRows w.operators (tables_of old.trees) (tables_of mid.trees))
    where
      pub heads_new : AreNewHeads w.plans mid
      heads_new =
          let within = filed_within w can.content in
          let none : (tables_of mid.trees).plans ≡ [] = listed.plans ∙ can.no_plans in
          record {
            names = all_weaker IsFiled (λ p. IsShort p.operator) (λ p is. name_short p.operator is.operator)
                w.plans within;
            new = to_blank 2 (plan_rows w.plans) (mid.trees 2) (tables_of mid.trees).plans
                (no_tree _ (mid.trees 2) none) none
                (subst (λ n. n < 2 ^ 63) (sym (length-map w.plans row_of_plan)) can.plans)
                (heads_apart w.plans (are_plans w.plans within) can.content.world.plans);
            listed = heads_listed w w.plans (tables_of mid.trees).operators can.content.world.listed
                (alone (operator_rows w) (tables_of old.trees).operators (tables_of mid.trees).operators
                can.no_operators listed.operators);
          }

      pub plans_new : FewCovers → (next : Database)
          → AddsHeadRows w.plans (tables_of mid.trees) (tables_of next.trees) → AreWritable w.plans next
      plans_new few next heads = writable few w.plans next (record {
        within = filed_within w can.content;
        keys = can.content.world.plans;
        few = can.few;
        plans = alone (plan_rows w.plans) (tables_of mid.trees).plans (tables_of next.trees).plans
            (listed.plans ∙ can.no_plans) heads.plans;
        volumes = heads.volumes ∙ listed.volumes ∙ can.no_volumes;
        spans = heads.spans ∙ listed.spans ∙ can.no_spans;
      })

-- what can be filled can be once a transaction was begun
pub can_then : {S : Type 0} (g : Ghosts S) (w : World) (old begun : Held S)
    → begun ≡ record old { in_transaction = true } → Holds g old (CanBeFilled w) → IsOpenIfClean g old
    → HasCleanDisk (state g begun) → CanBeFilled w (state g begun).now
can_then g w old begun is can live =
    subst (λ h. HasCleanDisk (state g h) → CanBeFilled w (state g h).now) (sym is)
    (λ clean. can clean (live clean))

-- ---- why no store is made

module _ {S : Type 0} (g : Ghosts S) (a c : Held S) where
  pub blames_disk : (e : OpenFault) → a.step_limit ≡ None → BlamesDatabase g a c e → BlamesNew g a c e
  blames_disk e unlimited why clean live reported = inr (disk_blamed g a c e unlimited why clean live reported)

  pub blames_later : (b : Held S) → (state g a).faults ≤ (state g b).faults → b.step_limit ≡ a.step_limit
      → (e : OpenFault) → a.step_limit ≡ None → BlamesReading g b c e → BlamesNew g a c e
  blames_later b faults limit e unlimited why =
      blames_disk e unlimited (cause_then g a b c faults limit e why)

-- tables without rows can be filled
pub can_fill : {S : Type 0} (g : Ghosts S) (h : Held S) (w : World) → Stands g h nothing → IsContent w
    → length w.operators < 2 ^ 63 → length w.plans < 2 ^ 63 → HaveFewRows w.plans → Holds g h (CanBeFilled w)
can_fill g h w stood content few_operators few_plans few = λ clean live.
    let t = tables_of (state g h).now.trees in
    let blank = (stood.standing clean live).tables in
    let spans : blank.spans.0 ≡ [] = blank.spans.1 in
    record {
      content = content;
      operators = few_operators;
      plans = few_plans;
      few = few;
      no_operators = no_row t.operators blank.operators;
      no_plans = no_row t.plans blank.plans;
      no_volumes = no_row t.volumes blank.volumes;
      no_spans = no_row t.spans (subst (λ rs. IsPermutation rs t.spans) spans blank.spans.2);
    }
