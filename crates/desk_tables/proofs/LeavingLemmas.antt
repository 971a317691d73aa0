-- What a crash leaves is read as one content.
use Rattle.std.proofs.Common.{◌≡◌, ◌⊎◌, inl, inr, ◌≢◌, Option, Some, None, Result, Ok, Err, IfOk, IsTrue, refl, sym, ap, subst, ◌∙◌, arith, true, false, true≢false}
use Rattle.std.specs.Coded.{Coded-set}
use Rattle.std.proofs.Math.Logic.{∥∥₁_elim, ∥∥₁_map}
use Rattle.sqlite_trees.specs.declared.store.Store.{Ghosts}
use Rattle.sqlite_disk.specs.declared.Disk as disk
use Rattle.sqlite_wal.specs.Recovery.{Image}
use Rattle.sqlite_store.specs.declared.store.FileStore.{FileStore}
use Rattle.sqlite_catalog.proofs.ReadLemmas.{lists_once}
use Rattle.sqlite.specs.Tree.{Trees}
use Rattle.sqlite.specs.Effect.{Database, IsDatabase}
use Rattle.sqlite.specs.State.{HasCleanDisk}
use Rattle.table_load.specs.declared.path.NotOpened.{NotOpened}
use Rattle.sqlite.specs.Held.{Held, state}
use Rattle.sqlite.specs.Files.{over_files, file_state}
use Rattle.sqlite.proofs.Theorems.{next_run}
use Rattle.desk_sql.specs.declared.opening.finding.TablesPresent.{TablesPresent}
use Rattle.desk_sql.specs.declared.opening.finding.TablesPresent.TheVariants.{Nothing, Operators, Plans, OldVolumes, OldSpans, OldIndex, Volumes, Spans, All, Packed}
use Rattle.desk_sql.specs.Schema.{blank_schema, IsSchemaOf}
use Rattle.desk_sql.specs.Rows.{IsDesk, IsMadeTo, Tables, tables_of, tables_at, has_old_rows}
use Rattle.desk_store.specs.World.{World, LeavesOnly, LeavesOldOr, IsContent}
use Rattle.desk_store.specs.contracts.list.ListStore as list
use Rattle.table_load.specs.declared.fault.OpenFault.{OpenFault}
use Rattle.table_load.specs.declared.fault.OpenFault.TheVariants.{OutOfMemory, Store, NotADesk, OldSchema}
use Rattle.row_codec.specs.Tables.{AreTables}
use Rattle.table_load.specs.Opening.{IsDatabaseOf, Stands, IsPart, AreNoContent}
use Rattle.table_load.specs.Files.{AreRefused, IsUnread, HasWorld, ReadsAs, MayLeave, MayHave, IsFoundAfter, BeginsAfter, IsImageLeft, IsLegible, IsRefusedAfter, IsRefusedAtRest, FindsFirst}
use Rattle.sqlite_disk.specs.declared.Files.{Files}
use Rattle.sqlite_wal.specs.Files.{outcomes}
use Rattle.sqlite_wal.proofs.LogLemmas.{SeenMayStay}
use Rattle.sqlite_store.specs.Laws.{stays_at}
use Rattle.sqlite.specs.Closing.{IsCopied}
use Rattle.table_load.specs.Moving.{HoldsContent}
use Rattle.table_load.specs.OpeningSteps.{IsCutShort, IsMovedOn}
use Rattle.table_load.proofs.lemmas.Opening.{desk_made, made_desk, old_rows_none}
use Rattle.desk_sql.specs.Statements.{IsMisnumbered}
use Rattle.table_load.specs.Opening.{IsNoDesk}
use Rattle.table_load.specs.Opening.{HasOldRows}
use Rattle.desk_tables.proofs.CutFoundLemmas.{one_made}

-- what a start does not take for the schema's tables as they are
abbrev pub IsNotTakenAsIs : Database → Type 0
IsNotTakenAsIs db = ((made : TablesPresent) × IsPart made db)
    ⊎ (IsMisnumbered db ⊎ (IsNoDesk db ⊎ HasOldRows db))

-- the law `one_content`
abbrev pub HaveOneContent : Type 0
HaveOneContent = (tables : Tables) (one other : World) → IsContent one → IsContent other
    → AreTables tables one → AreTables tables other → one ≡ other

-- what stands is read as its content
reads_standing : {S : Type 0} (g : Ghosts S) (h : Held S) (w : World) (db : Trees) → IsDatabaseOf g h w
    → IsDatabase (state g h).now → (state g h).now.trees ≡ db → HasWorld db w
reads_standing g h w db it sound is = record {
  content = it.content;
  listed = (state g h).now.schema;
  desk = subst (λ trees. IsDesk (record { schema = (state g h).now.schema; trees = trees })) is it.desk;
  sound = subst (λ trees. IsDatabase (record { schema = (state g h).now.schema; trees = trees })) is sound;
  tables = subst (λ trees. AreTables (tables_of trees) w) is it.tables;
}

module _ (law : HaveOneContent) where
  -- trees with the rows of a content are read as it
  read_once : (db : Trees) (w : World) (found : Option World) → HasWorld db w → ReadsAs db found
      → found ≡ Some w
  read_once db w None has reads = absurd (reads w has)
  read_once db w (Some other) has reads =
      ap (λ v. Some v) (law (tables_of db) other w reads.content has.content reads.tables has.tables)

  module _ {S : Type 0} (g : Ghosts S) where
    pub leaves_or_changed : (old new : Held S) (w : World) → MayHave g old new w
        → HasCleanDisk (state g new) → LeavesOldOr w (MayLeave g old) (MayLeave g new)
    leaves_or_changed old new w may clean found (db, left, reads) = elim (may clean db left) [
      | inl before ↦ inl (db, before, reads)
      | inr has ↦ inr (read_once db w found has reads)
    ]

    -- of what stands and is committed
    pub leaves_what_stands : (h : Held S) (w : World) → Stands g h w → HasCleanDisk (state g h)
        → IsTrue (state g h).is_open → (state g h).now ≡ (state g h).committed
        → IsDatabase (state g h).now
        → ((db : Trees) → (state g h).may_leave db → db ≡ (state g h).committed.trees)
        → LeavesOnly w (MayLeave g h)
    leaves_what_stands h w stands clean live settled sound alone found (db, left, reads) =
        read_once db w found (reads_standing g h w db (stands.standing clean live) sound
        (ap (λ d. d.trees) settled ∙ sym (alone db left))) reads

-- ---- over files

all_or : (made : TablesPresent) → ¬ (made ≢ All) → made ≡ All
all_or Nothing never = absurd (never (λ e. cc))
all_or Operators never = absurd (never (λ e. cc))
all_or Plans never = absurd (never (λ e. cc))
all_or OldVolumes never = absurd (never (λ e. cc))
all_or OldSpans never = absurd (never (λ e. cc))
all_or OldIndex never = absurd (never (λ e. cc))
all_or Volumes never = absurd (never (λ e. cc))
all_or Spans never = absurd (never (λ e. cc))
all_or All never = refl
all_or Packed never = absurd (never (λ e. cc))

-- a packed file
packed_part : (db : Database) → IsMadeTo Packed db → IsPart Packed db
packed_part db made = record { missing = λ e. cc; part = made }

-- a database with no table
nothing_made : (db : Database) → db.schema ≡ blank_schema → IsPart Nothing db
nothing_made db blank = record {
  missing = λ e. cc;
  part = record { schema = blank; rows = λ table there. absurd (true≢false (sym there)) };
}

-- what is taken for no desk's is read as none
untaken : (db : Database) → IsDatabase db → IsNotTakenAsIs db → ReadsAs db.trees None
untaken db sound un w has =
    let same : has.listed ≡ db.schema = lists_once _ has.listed db.schema has.sound.lists sound.lists in
    let desk : IsDesk db =
    subst (λ schema. IsDesk (record { schema = schema; trees = db.trees })) same has.desk in
    let all : (made : TablesPresent) → IsSchemaOf made db.schema → made ≡ All =
    λ made is. one_made made All db.schema is desk.schema in
    elim un [
      | inl (made, part) ↦ part.missing (all made part.part.schema)
      | inr (inl numbers) ↦ numbers.unsound (subst (λ made. IsMadeTo made db)
          (sym (all numbers.made numbers.schema)) (made_desk db desk))
      | inr (inr (inl (inl others))) ↦ others All desk.schema
      | inr (inr (inl (inr none))) ↦ subst (λ made. AreNoContent (tables_at made db.trees))
          (all none.made none.desk.schema) none.none w has.content has.tables
      | inr (inr (inr rows)) ↦ true≢false (sym (subst (λ made. has_old_rows (tables_at made db.trees) ≡ true)
          (all rows.made rows.desk.schema) rows.old)
          ∙ old_rows_none (tables_of db.trees) has.tables.old)
    ]

-- what leaves a content, or one of two, leaves nothing that is no desk's
module _ {D : Type 0} {g : disk.Ghosts D} where
  pub only_content : (last : Held (FileStore D g)) (w : World) → LeavesOnly w (MayLeave over_files last)
      → ¬ MayLeave over_files last None
  only_content last w only none = let is : None ≡ Some w = only None none in cc

  only_this : (last : Held (FileStore D g)) (w : World) → LeavesOnly w (MayLeave over_files last)
      → (v : World) → ∥ MayLeave over_files last (Some v) ∥₁ → v ≡ w
  only_this last w only v may = ∥∥₁_elim may (Coded-set list.the_row.coded v w)
      (λ left. let is : Some v ≡ Some w = only (Some v) left in cc)

  only_read : (last : Held (FileStore D g)) (w : World) → LeavesOnly w (MayLeave over_files last)
      → (read : Option World) → ∥ MayLeave over_files last read ∥₁ → read ≡ Some w
  only_read last w only None may = absurd (∥∥₁_elim may (λ x y. absurd x) (only_content last w only))
  only_read last w only (Some v) may = ap (λ u. Some u) (only_this last w only v may)

  pub either_content : (old last : Held (FileStore D g)) (before after : World)
      → LeavesOnly before (MayLeave over_files old)
      → LeavesOldOr after (MayLeave over_files old) (MayLeave over_files last)
      → ¬ MayLeave over_files last None
  either_content old last before after only may none = elim (may None none) [
    | inl was ↦ (let is : None ≡ Some before = only None was in cc)
    | inr is ↦ cc
  ]

module _ {D E : Type 0} {g : disk.Ghosts D} {k : disk.Ghosts E} (last : Held (FileStore D g)) where
  found_as : (found : Held (FileStore E k)) (read : Option World) → IsFoundAfter last found
      → ReadsAs (file_state found).committed.trees read → ∥ MayLeave over_files last read ∥₁
  found_as found read it reads =
      ∥∥₁_map (next_run last.store it.files.connected.numbered it.files.connected.sound it.image
      it.files.left (file_state found) it.first.1)
      (λ may. ((file_state found).committed.trees, may, reads))

  now_sound : (found : Held (FileStore E k)) → IsFoundAfter last found → IsDatabase (file_state found).now
  now_sound found it = (it.first.0.1 it.first.0.0.is_open).0

  same_trees : (found : Held (FileStore E k)) → IsFoundAfter last found
      → (file_state found).now.trees ≡ (file_state found).committed.trees
  same_trees found it = ap (λ d. d.trees) it.first.0.0.clean

  pub found_again : (found : Held (FileStore E k)) (w : World) → IsFoundAfter last found
      → IsDatabaseOf over_files found w → ∥ MayLeave over_files last (Some w) ∥₁
  found_again found w it standing =
      found_as found (Some w) it (reads_standing over_files found w (file_state found).committed.trees
      standing (now_sound found it) (same_trees found it))

  module _ (never : ¬ MayLeave over_files last None) where
    never_untaken : (found : Held (FileStore E k)) → IsFoundAfter last found
        → IsNotTakenAsIs (file_state found).now → ⊥
    never_untaken found it un =
        ∥∥₁_elim (found_as found None it (subst (λ db. ReadsAs db None) (same_trees found it)
        (untaken (file_state found).now (now_sound found it) un))) (λ x y. absurd x) never

    pub begins_again : (new : Held (FileStore E k)) (w : World) → BeginsAfter last new w
        → ∥ MayLeave over_files last (Some w) ∥₁
    begins_again new w it =
        let after : IsFoundAfter last it.opens.found = record {
          image = it.image;
          files = it.files;
          first = it.opens.opened it.clean;
        } in
        elim (it.opens.begins it.clean (it.opens.live it.clean)) [
          | inl blank ↦ absurd (never_untaken it.opens.found after (inl (
            Nothing,
            nothing_made
                (file_state it.opens.found).now blank.blank,
          )))
          | inr (inl was) ↦ found_again it.opens.found w after was.standing
          | inr (inr (inl part)) ↦ absurd (never_untaken it.opens.found after
              (inl (part.made, part.part)))
          | inr (inr (inr was)) ↦ absurd (never_untaken it.opens.found after
              (inl (Packed, packed_part _ was.part)))
        ]

    module _ (e : OpenFault) (left : Held (FileStore E k)) where
      taken : (it : IsRefusedAfter last e left) → IsNotTakenAsIs (file_state it.refused.found).now → ⊥
      taken it = never_untaken it.refused.found (record {
        image = it.image;
        files = it.files;
        first = it.refused.opened it.legible.0;
      })

      -- that there is no desk, or one of schema 1, is never reported of them
      pub never_none : IsRefusedAfter last e left → e ≢ NotADesk
      never_none it is = taken it (inr (inr (inl (it.refused.none is it.legible.0 it.legible.1))))

      pub never_old : IsRefusedAfter last e left → e ≢ OldSchema
      never_old it is = taken it (inr (inr (inr (it.refused.old is it.legible.0 it.legible.1))))

      pub never_refused : IsRefusedAtRest last e left → ⊥
      never_refused it = by_fault e refl where
        by_fault : (f : OpenFault) → e ≡ f → ⊥
        by_fault OutOfMemory is = it.room is
        by_fault NotADesk is = never_none it.after is
        by_fault OldSchema is = never_old it.after is
        by_fault Store is = elim (it.after.refused.cause it.after.legible.0 it.after.legible.1 is) [
          | inl failed ↦ it.quiet failed
          | inr numbers ↦ taken it.after (inr (inl numbers))
        ]

    -- their database has no row of schema 1, and what it holds in schema 2 stands
    never_old_rows : (found : Held (FileStore E k)) → IsFoundAfter last found → (v : World)
        → HoldsContent true v (file_state found).now → ⊥
    never_old_rows found it v holds = never_untaken found it (inr (inr (inr (record {
      made = holds.made;
      desk = holds.desk;
      old = holds.schema;
    }))))

    holds_whole : (found : Held (FileStore E k)) → IsFoundAfter last found → (v : World)
        → HoldsContent false v (file_state found).now → IsDatabaseOf over_files found v
    holds_whole found it v holds =
        let whole = all_or holds.made (λ missing. never_untaken found it (inl (
          holds.made,
          record { missing = missing; part = holds.desk },
        ))) in
        record {
          content = holds.rows.content;
          desk = desk_made (file_state found).now
              (subst (λ made. IsMadeTo made (file_state found).now) whole holds.desk);
          tables = subst (λ made. AreTables (tables_at made (file_state found).now.trees) v) whole
              holds.rows.tables;
        }

    -- of such files neither is reported, by a connection that can be read or by none
    pub not_reported : (image : Image) → IsImageLeft last image → (e : OpenFault)
        → (connection : Result (Held (FileStore E k)) (NotOpened E k)) → AreRefused image e connection
        → IfOk connection IsLegible → IsUnread e
    not_reported image files e (Err it) unread legible = unread.unread
    not_reported image files e (Ok left) refused legible =
        let after : IsRefusedAfter last e left = record {
          image = image;
          files = files;
          refused = refused;
          legible = legible;
        } in (never_none e left after, never_old e left after)

  pub begins_alone : (new : Held (FileStore E k)) (w other : World)
      → LeavesOnly w (MayLeave over_files last) → BeginsAfter last new other → other ≡ w
  begins_alone new w other only it =
      ∥∥₁_elim (begins_again (only_content last w only) new other it) (Coded-set list.the_row.coded other w)
      (λ may. let is : Some other ≡ Some w = only (Some other) may in cc)

  -- a start over files that were closed finds what the store could have left
  pub found_closed : SeenMayStay g → (files : Files D) (image : Image) (found : Held (FileStore E k))
      (w other : World) → LeavesOnly w (MayLeave over_files last) → IsCopied last files
      → outcomes g files.log files.db image → FindsFirst image found → IsDatabaseOf over_files found other
      → other ≡ w
  found_closed stays files image found w other only copied outcome first stands =
      let may = stays_at last.store stays copied.was_open in
      let opened = first.0 in
      ∥∥₁_elim (copied.left image outcome).both (Coded-set list.the_row.coded other w) (λ held.
      let same : (file_state found).committed.trees ≡ (file_state last).committed.trees =
      first.1.holds (file_state last).committed.trees held in
      let reads : HasWorld (file_state last).committed.trees other =
      reads_standing over_files found other (file_state last).committed.trees stands
      (opened.1 opened.0.is_open).0 (ap (λ (d : Database). d.trees) opened.0.clean ∙ same) in
      let is : Some other ≡ Some w = only (Some other) ((file_state last).committed.trees, may, reads) in cc)

  -- a start over what one content was left in, wherever it is cut short, leaves that content alone
  module _ (w : World) (only : LeavesOnly w (MayLeave over_files last)) where
    pub cut_leaves : HaveOneContent → (image : Image) → IsImageLeft last image → (new : Held (FileStore E k))
        → IsCutShort IsMovedOn image new → HasCleanDisk (file_state new)
        → LeavesOnly w (MayLeave over_files new)
    cut_leaves law image files new cut clean read (db, may, reads) =
        let found = cut.found in
        let after : IsFoundAfter last found =
        record { image = image; files = files; first = cut.opened clean } in
        let never = only_content last w only in
        elim (cut.left clean db may) [
          | inl same ↦ only_read last w only read (found_as found read after
              (subst (λ trees. ReadsAs trees read) (same ∙ same_trees found after) reads))
          | inr (inl done) ↦
              let stands = holds_whole never found after done.world done.before in
              let is = only_this last w only done.world (found_again found done.world after stands) in
              read_once law db w read (subst (HasWorld db) is done.after) reads
          | inr (inr moved) ↦ absurd (never_old_rows never found after moved.world moved.before)
        ]

  module _ (old : Held (FileStore D g)) (before after : World)
      (only : LeavesOnly before (MayLeave over_files old))
      (may : LeavesOldOr after (MayLeave over_files old) (MayLeave over_files last)) where
    pub begins_either : (new : Held (FileStore E k)) (other : World) → BeginsAfter last new other
        → ∥ (other ≡ before) ⊎ (other ≡ after) ∥₁
    begins_either new other it =
        let never = either_content old last before after only may in
        ∥∥₁_map (begins_again never new other it) (λ left. elim (may (Some other) left) [
          | inl was ↦ (let is : Some other ≡ Some before = only (Some other) was in inl cc)
          | inr is ↦ inr cc
        ])
