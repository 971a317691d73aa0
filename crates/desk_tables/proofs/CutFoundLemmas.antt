-- What a start finds after one that was cut short.
use Rattle.std.proofs.Common.{◌≡◌, inl, inr, ℕ, Bool, true, false, length, take, slice_index_or, refl, sym, ap, subst, ◌∙◌, IsTrue, true≢false}
use Rattle.std.specs.Prelude.{◌==◌, ◌+◌, ◌*◌, if◌then◌else◌}
use Rattle.std.proofs.Math.Logic.{∥∥₁_map}
use Rattle.sqlite_trees.specs.declared.store.Store.{Ghosts}
use Rattle.sqlite_disk.specs.declared.Disk as disk
use Rattle.sqlite_wal.specs.Recovery.{Image}
use Rattle.sqlite_store.specs.declared.store.FileStore.{FileStore}
use Rattle.sqlite_catalog.proofs.ReadLemmas.{lists_once}
use Rattle.sqlite.specs.Tree.{Trees}
use Rattle.sqlite.specs.Schema.{Schema}
use Rattle.sqlite.specs.Effect.{Database, IsDatabase}
use Rattle.sqlite.specs.State.{HasCleanDisk}
use Rattle.sqlite.specs.Held.{Held, state}
use Rattle.sqlite.specs.Files.{over_files, file_state}
use Rattle.sqlite.proofs.Theorems.{next_run}
use Rattle.volume4d.specs.Footprint.{footprint_bytes, HasValidParts}
use Rattle.volume4d.specs.Volume.{Shape}
use Rattle.desk_sql.specs.declared.opening.finding.TablesPresent.{TablesPresent}
use Rattle.desk_sql.specs.declared.opening.finding.TablesPresent.TheVariants.{Nothing, Operators, Plans, OldVolumes, OldSpans, OldIndex, Volumes, Spans, All, Packed}
use Rattle.desk_sql.specs.Schema.{operator_made, IsSchemaOf}
use Rattle.desk_sql.specs.Rows.{Tables, tables_of, tables_at, has_old_rows}
use Rattle.desk_store.specs.World.{World}
use Rattle.sqlite_wal.proofs.LogLemmas.{SeenMayStay}
use Rattle.sqlite_store.specs.Laws.{settled_at}
use Rattle.desk_sql.specs.Effects.{OnlyReads}
use Rattle.table_load.specs.Files.{FindsFirst, HasWorld, IsFoundAfter}
use Rattle.table_load.specs.Opening.{BeginsWith, IsDatabaseOf}
use Rattle.table_load.specs.Moving.{BeginsMoved, IsContentIn}
use Rattle.table_load.specs.OpeningSteps.{HasContent, HasOldWorld, IsCutShort, IsMovedOn, ShowContent}
use Rattle.table_load.proofs.lemmas.Content.{of_rows}
use Rattle.table_load.proofs.lemmas.Opening.{made_desk, old_rows_none}
use Rattle.table_load.proofs.lemmas.Store.{nothing_holds}

-- ---- a schema says what is made, whatever stands beside it

abbrev number_of : Schema → ℕ
number_of s =
    length (take 6 s.tables) + 2 * length (take 8 s.indexes) + (slice_index_or s.tables 4 operator_made).tree

abbrev made_at : ℕ → TablesPresent
made_at n =
    if n == 0 then Nothing
    else if n == 3 then Operators
    else if n == 6 then Plans
    else if n == 9 then OldVolumes
    else if n == 12 then OldSpans
    else if n == 14 then OldIndex
    else if n == 26 then Volumes
    else if n == 29 then Spans
    else if n == 30 then Packed
    else All

abbrev made_at_schema : Schema → TablesPresent
made_at_schema schema = made_at (number_of schema)

made_again : (made : TablesPresent) (schema : Schema) → IsSchemaOf made schema → made_at_schema schema ≡ made
made_again Nothing schema is = ap made_at_schema is
made_again Operators schema is = ap made_at_schema is
made_again Plans schema is = ap made_at_schema is
made_again OldVolumes schema is = ap made_at_schema is
made_again OldSpans schema is = ap made_at_schema is
made_again OldIndex schema is = ap made_at_schema is
made_again Volumes schema is = ap made_at_schema is
made_again Spans schema is = ap made_at_schema is
made_again All schema is = ap made_at_schema is.is
made_again Packed schema is = ap made_at_schema is

pub one_made : (a b : TablesPresent) (schema : Schema) → IsSchemaOf a schema → IsSchemaOf b schema → a ≡ b
one_made a b schema one other = sym (made_again a schema one) ∙ made_again b schema other

-- ---- a database has one content at most

module _ (one_shape : (one other : Shape) → HasValidParts one → HasValidParts other
    → footprint_bytes one ≡ footprint_bytes other → one ≡ other) where
  one_in : (old : Bool) (t : Tables) (v w : World) → IsContentIn old t v → IsContentIn old t w → v ≡ w
  one_in true t v w a b = of_rows one_shape t.operators t.plans t.old_volumes v w a.content.content
      b.content.content (a.tables.operators, a.tables.plans, a.tables.volumes)
      (b.tables.operators, b.tables.plans, b.tables.volumes)
  one_in false t v w a b = of_rows one_shape t.operators t.plans t.volumes v w a.content b.content
      (a.tables.operators, a.tables.plans, a.tables.volumes)
      (b.tables.operators, b.tables.plans, b.tables.volumes)

  pub one_held : (db : Database) (v w : World) → HasContent v db → HasContent w db → v ≡ w
  one_held db v w (one, a) (other, b) =
      let made = one_made b.made a.made db.schema b.desk.schema a.desk.schema in
      let old : other ≡ one = sym b.schema
      ∙ ap (λ m. has_old_rows (tables_at m db.trees)) made ∙ a.schema in
      one_in one (tables_at a.made db.trees) v w a.rows
      (subst (λ o. IsContentIn o (tables_at a.made db.trees) w) old
      (subst (λ m. IsContentIn other (tables_at m db.trees) w) made b.rows))

-- ---- what is there as a whole

standing_holds : {S : Type 0} (g : Ghosts S) (h : Held S) (w : World) → IsDatabaseOf g h w
    → HasContent w (state g h).now
standing_holds g h w it = (
  false,
  record {
    made = All;
    desk = made_desk (state g h).now it.desk;
    schema = old_rows_none (tables_of (state g h).now.trees) it.tables.old;
    rows = record { content = it.content; tables = it.tables };
  },
)

-- trees are read under the schema that they list
same_database : (a b : Database) → IsDatabase a → IsDatabase b → a.trees ≡ b.trees → a ≡ b
same_database a b one other same =
    let listed : IsDatabase (record { schema = a.schema; trees = b.trees }) =
    subst (λ trees. IsDatabase (record { schema = a.schema; trees = trees })) same one in
    let schema : a.schema ≡ b.schema = lists_once _ a.schema b.schema listed.lists other.lists in
    λ i. record { schema = schema i; trees = same i }

module _ (db : Database) (sound : IsDatabase db) where
  whole_holds : (trees : Trees) (w : World) → db.trees ≡ trees → HasWorld trees w → HasContent w db
  whole_holds trees w is it =
      let there : Database = record { schema = it.listed; trees = trees } in
      subst (HasContent w) (sym (same_database db there sound it.sound is)) (
        false,
        record {
          made = All;
          desk = made_desk there it.desk;
          schema = old_rows_none (tables_of trees) it.tables.old;
          rows = record { content = it.content; tables = it.tables };
        },
      )

  old_holds : (trees : Trees) (w : World) → db.trees ≡ trees → HasOldWorld trees w → HasContent w db
  old_holds trees w is it =
      let there : Database = record { schema = it.listed; trees = trees } in
      subst (HasContent w) (sym (same_database db there sound it.sound is)) (
        true,
        record {
          made = All;
          desk = made_desk there it.desk;
          schema = it.schema;
          rows = it.rows;
        },
      )

module _ (one_shape : (one other : Shape) → HasValidParts one → HasValidParts other
    → footprint_bytes one ≡ footprint_bytes other → one ≡ other) where
  -- what has become of a content has that content
  become : (w : World) (db now : Database) (trees : Trees) → IsDatabase now → now.trees ≡ trees
      → HasContent w db → IsMovedOn db trees → HasContent w now
  become w db now trees sound is has (inl done) =
      subst (λ v. HasContent v now) (one_held one_shape db done.world w (false, done.before) has)
      (whole_holds now sound trees done.world is done.after)
  become w db now trees sound is has (inr moved) =
      subst (λ v. HasContent v now) (one_held one_shape db moved.world w (true, moved.before) has)
      (elim moved.after [
        | inl old ↦ old_holds now sound trees moved.world is old
        | inr new ↦ whole_holds now sound trees moved.world is new
      ])

  module _ {D E : Type 0} {g : disk.Ghosts D} {k : disk.Ghosts E} where
    pub found_after_cut : (image : Image) (w : World) (cut : Held (FileStore D g))
        (found : Held (FileStore E k)) → ShowContent g image w → IsCutShort IsMovedOn image cut
        → HasCleanDisk (file_state cut) → IsFoundAfter cut found → ∥ HasContent w (file_state found).now ∥₁
    found_after_cut image w cut found shows short clean it =
        let first = short.opened clean in
        let was = shows short.found first in
        let live = it.first.0 in
        let sound = (live.1 live.0.is_open).0 in
        let sound_before = (first.0.1 first.0.0.is_open).0 in
        let settled = ap (λ (d : Database). d.trees) live.0.clean in
        ∥∥₁_map (next_run cut.store it.files.connected.numbered it.files.connected.sound it.image
        it.files.left (file_state found) it.first.1)
        (λ may. elim (short.left clean (file_state found).committed.trees may) [
          | inl same ↦ subst (HasContent w) (sym (same_database (file_state found).now
              (file_state short.found).now sound sound_before (settled ∙ same))) was
          | inr becomes ↦ become w (file_state short.found).now (file_state found).now
              (file_state found).committed.trees sound settled was becomes
        ])

  -- a store that begins over what is shown begins with its content
  pub begins_shown : {S : Type 0} (g : Ghosts S) (found new : Held S) (w other : World)
      → HasContent w (state g found).now → HasCleanDisk (state g new) → IsTrue (state g new).is_open
      → BeginsWith g found new other → other ≡ w
  begins_shown g found new w other has clean live begins = elim (begins clean live) [
    | inl blank ↦ sym (one_held one_shape (state g found).now w other has (subst
        (λ v. HasContent v (state g found).now) (sym blank.empty) (
          false,
          record {
            made = Nothing;
            desk = record { schema = blank.blank; rows = λ table there. absurd (true≢false (sym there)) };
            schema = refl;
            rows = nothing_holds;
          },
        )))
    | inr (inl was) ↦
        one_held one_shape (state g found).now other w (standing_holds g found other was.standing) has
    | inr (inr (inl was)) ↦ one_held one_shape (state g found).now other w (
      false,
      record {
        made = was.made;
        desk = was.part.part;
        schema = old_rows_none (tables_at was.made (state g found).now.trees) was.rows.tables.old;
        rows = was.rows;
      },
    ) has
    | inr (inr (inr was)) ↦ one_held one_shape (state g found).now other w (
      false,
      record {
        made = Packed;
        desk = was.part;
        schema = old_rows_none (tables_at Packed (state g found).now.trees) was.rows.tables.old;
        rows = was.rows;
      },
    ) has
  ]

  pub begins_moved_shown : {S : Type 0} (g : Ghosts S) (found new : Held S) (w other : World) (count : ℕ)
      → HasContent w (state g found).now → HasCleanDisk (state g new) → IsTrue (state g new).is_open
      → BeginsMoved g found new other count → other ≡ w
  begins_moved_shown g found new w other count has clean live begins = elim (begins clean live) [
    | inl (none, same) ↦ begins_shown g found new w other has clean live same
    | inr (reported, was) ↦ one_held one_shape (state g found).now other w (
      true,
      record {
        made = was.made;
        desk = was.desk;
        schema = was.old_rows;
        rows = was.rows;
      },
    ) has
  ]

-- ---- a look

-- what was only read is left as it was found
pub read_leaves : {D : Type 0} {g : disk.Ghosts D} (image : Image) (left found : Held (FileStore D g))
    → SeenMayStay g → (HasCleanDisk (file_state left) → FindsFirst image found)
    → OnlyReads over_files found left → IsCutShort (λ _ _. ⊥) image left
read_leaves image left found stays opened reads = record {
  found = found;
  opened = opened;
  left = λ clean db may.
      let first = opened clean in
      inl (settled_at found.store stays db first.0.0.is_open (reads.spared clean db may)
      ∙ sym (ap (λ (d : Database). d.trees) first.0.0.clean));
}
