-- What a DELETE of all rows of a table of version 1 leaves.
use Rattle.std.proofs.Common.{◌≡◌, ℕ, true, false, List, [], ◌∷◌, map, filter, Option, Ok, refl, sym, ap, subst, ◌∙◌}
use Rattle.sqlite.specs.Order.{Row}
use Rattle.sqlite.specs.Program.{overlay}
use Rattle.sqlite.specs.Tree.{Trees}
use Rattle.sqlite.specs.Edit.{taken_by}
use Rattle.sqlite.specs.Command.TheVariants.{Delete}
use Rattle.sqlite.specs.Effect.{Database}
use Rattle.sqlite.specs.Rows.{Written, Task, Deletes}
use Rattle.sqlite.proofs.Callers.{one_step}
use Rattle.sqlite_schema.specs.declared.schema.Column.{Column}
use Rattle.sqlite_schema.specs.declared.schema.Reference.{Reference}
use Rattle.sqlite_schema.specs.declared.program.Program.{Program}
use Rattle.sqlite_schema.specs.declared.schema.Keys.TheVariants.{Enforced}
use Rattle.desk_sql.specs.Schema.{old_volume_table, old_span_table, Beside, StandsApart, IsDeskSchema, desk_with}
use Rattle.desk_sql.specs.Rows.{IsDesk, AreNumbered, columns, cover_columns, tables_of, RemovesOldVolumes, RemovesOldSpans}
use Rattle.desk_sql.specs.Statements.{Changes}
use Rattle.desk_changes.specs.RowChanges.{TakesRoom, TextTakes}
use Rattle.desk_sql.proofs.lemmas.OldTexts.{empty_old_volumes_text, empty_old_spans_text, empty_query, empty_old_volumes_is, empty_old_spans_is}
use Rattle.desk_sql.proofs.lemmas.Number.{unequal, removed}
use Rattle.desk_sql.proofs.lemmas.Write.{May, did, changes_by, rows_written, task_at}
use Rattle.desk_changes.proofs.DeleteLemmas.{delete_edit, delete_finds}
use Rattle.desk_sql.proofs.lemmas.Cascade.{IsQuiet, Others, old_volume_works, old_span_works}
use Rattle.desk_changes.proofs.RemoveLemmas.{tables_are}
use Rattle.desk_changes.proofs.RoomTexts.{same_room}

module _ {beside : Beside} (away : StandsApart beside) where
  -- a tree has no rows, and the others have theirs
  pub record Emptied (tree : ℕ) (db next : Trees) : Type 0 where
    pub rows : next tree ≡ []
    pub others : Others away tree db next

none_stay : (rows : List Row) → filter (λ r. false) rows ≡ []
none_stay [] = refl
none_stay (r ∷ rows) = none_stay rows

pub none_numbered : AreNumbered []
none_numbered = record { whole = tt; distinct = tt }

module _ {beside : Beside} (away : StandsApart beside) where
  module _ (limit : Option ℕ) (name : List ℕ) (cols : List Column) (key : List ℕ) (refs : List Reference)
      (tree : ℕ) where
    abbrev pub empty_task : Task
    empty_task = task_at away limit [] name cols key refs tree

    abbrev pub empty_program : Program
    empty_program = record { lets = []; body = empty_query tree }

    pub emptied : (db : Trees) (w : Written) → overlay db [] tree ≡ db tree → AreNumbered (db tree)
        → IsQuiet away tree → Deletes empty_task empty_program db (Ok w) → Emptied away tree db w.trees
    emptied db w same num quiet h =
        let f = delete_finds away limit [] name cols key refs tree db [] (λ r. true) w same (λ r. refl) h in
        let edit = delete_edit away limit [] name cols key refs tree db f.found in
        let step = one_step (desk_with beside) Enforced db w.trees edit (quiet 0 (taken_by db edit)) f.writes in
        record {
          rows = step.rows ∙ removed (λ r. true) (db tree) f.found num f.are ∙ none_stay (db tree);
          others = step.tables;
        }

module _ (limit : Option ℕ) (old new : Database) (desk : IsDesk old) where
  abbrev db : Trees
  db = old.trees

  -- ---- version 1's volumes

  volumes_left : May empty_old_volumes_text [] limit old new
      → (new.schema ≡ old.schema) × Emptied desk.schema.apart 4 db new.trees
  volumes_left h =
      let task = empty_task desk.schema.apart limit old_volume_table.name old_volume_table.columns
      old_volume_table.primary
      old_volume_table.references 4 in
      let q : Program = record { lets = []; body = empty_query 4 } in
      let d = did empty_old_volumes_text [] limit old new desk (Delete 2 q) empty_old_volumes_is h in
      let it = rows_written task (Delete 2 q) db d.0 new d.1 in (
        ap (λ (d : Database). d.schema) it.2 ∙ sym desk.schema.is,
        subst (Emptied desk.schema.apart 4 db) (sym (ap (λ (d : Database). d.trees) it.2))
            (emptied desk.schema.apart limit old_volume_table.name old_volume_table.columns
            old_volume_table.primary
            old_volume_table.references 4 db it.0 refl desk.old_volumes (old_volume_works desk.schema.apart)
            it.1),
      )

  pub empty_old_volumes : May empty_old_volumes_text [] limit old new
      → IsDesk new × RemovesOldVolumes (tables_of db) (tables_of new.trees)
      × (new.schema ≡ old.schema)
  empty_old_volumes h =
      let left = volumes_left h in
      let a = left.1.others in
      let e0 : new.trees 0 ≡ db 0 = a.0 (unequal _ _ refl) in
      let e2 : new.trees 2 ≡ db 2 = a.1.0 (unequal _ _ refl) in
      let e4 : new.trees 4 ≡ [] = left.1.rows in
      let e6 : new.trees 6 ≡ db 6 = a.1.1.1.0 (unequal _ _ refl) in
      let e9 : new.trees 9 ≡ db 9 = a.1.1.1.1.0 (unequal _ _ refl) in
      let e11 : new.trees 11 ≡ db 11 = a.1.1.1.1.1.0 (unequal _ _ refl) in (
        record {
          schema = subst IsDeskSchema (sym left.0) desk.schema;
          operators = subst AreNumbered (sym e0) desk.operators;
          plans = subst AreNumbered (sym e2) desk.plans;
          old_volumes = subst AreNumbered (sym e4) none_numbered;
          old_spans = subst AreNumbered (sym e6) desk.old_spans;
          volumes = subst AreNumbered (sym e9) desk.volumes;
          spans = subst AreNumbered (sym e11) desk.spans;
        },
        tables_are new.trees _ _ _ _ _ _ _ (ap (map (columns 2)) e0) (ap (map (columns 5)) e2)
            (ap (map (columns 8)) e4) (ap (map (columns 10)) e6) (ap (map (columns 8)) e9)
            (ap (map cover_columns) e9) (ap (map (columns 10)) e11),
        left.0,
      )

  -- ---- version 1's spans

  spans_left : May empty_old_spans_text [] limit old new
      → (new.schema ≡ old.schema) × Emptied desk.schema.apart 6 db new.trees
  spans_left h =
      let task = empty_task desk.schema.apart limit old_span_table.name old_span_table.columns
      old_span_table.primary
      old_span_table.references 6 in
      let q : Program = record { lets = []; body = empty_query 6 } in
      let d = did empty_old_spans_text [] limit old new desk (Delete 3 q) empty_old_spans_is h in
      let it = rows_written task (Delete 3 q) db d.0 new d.1 in (
        ap (λ (d : Database). d.schema) it.2 ∙ sym desk.schema.is,
        subst (Emptied desk.schema.apart 6 db) (sym (ap (λ (d : Database). d.trees) it.2))
            (emptied desk.schema.apart limit old_span_table.name old_span_table.columns old_span_table.primary
            old_span_table.references 6 db it.0 refl desk.old_spans (old_span_works desk.schema.apart) it.1),
      )

  pub empty_old_spans : May empty_old_spans_text [] limit old new
      → IsDesk new × RemovesOldSpans (tables_of db) (tables_of new.trees)
      × (new.schema ≡ old.schema)
  empty_old_spans h =
      let left = spans_left h in
      let a = left.1.others in
      let e0 : new.trees 0 ≡ db 0 = a.0 (unequal _ _ refl) in
      let e2 : new.trees 2 ≡ db 2 = a.1.0 (unequal _ _ refl) in
      let e4 : new.trees 4 ≡ db 4 = a.1.1.0 (unequal _ _ refl) in
      let e6 : new.trees 6 ≡ [] = left.1.rows in
      let e9 : new.trees 9 ≡ db 9 = a.1.1.1.1.0 (unequal _ _ refl) in
      let e11 : new.trees 11 ≡ db 11 = a.1.1.1.1.1.0 (unequal _ _ refl) in (
        record {
          schema = subst IsDeskSchema (sym left.0) desk.schema;
          operators = subst AreNumbered (sym e0) desk.operators;
          plans = subst AreNumbered (sym e2) desk.plans;
          old_volumes = subst AreNumbered (sym e4) desk.old_volumes;
          old_spans = subst AreNumbered (sym e6) none_numbered;
          volumes = subst AreNumbered (sym e9) desk.volumes;
          spans = subst AreNumbered (sym e11) desk.spans;
        },
        tables_are new.trees _ _ _ _ _ _ _ (ap (map (columns 2)) e0) (ap (map (columns 5)) e2)
            (ap (map (columns 8)) e4) (ap (map (columns 10)) e6) (ap (map (columns 8)) e9)
            (ap (map cover_columns) e9) (ap (map (columns 10)) e11),
        left.0,
      )

-- ---- the texts

pub empty_old_volumes_changes : Changes empty_old_volumes_text [] RemovesOldVolumes
empty_old_volumes_changes = changes_by empty_old_volumes_text [] _ _ empty_old_volumes_is tt
    (λ limit old new desk h. empty_old_volumes limit old new desk h)

pub empty_old_spans_changes : Changes empty_old_spans_text [] RemovesOldSpans
empty_old_spans_changes = changes_by empty_old_spans_text [] _ _ empty_old_spans_is tt
    (λ limit old new desk h. empty_old_spans limit old new desk h)

pub empty_old_volumes_room : TextTakes empty_old_volumes_text [] (TakesRoom 0 0 0)
empty_old_volumes_room = record {
  room = λ limit old new desk h.
      let a = (volumes_left limit old new desk h).1.others in
      record {
        of_plans = λ left. same_room (old.trees 2) (new.trees 2) left (a.1.0 (unequal _ _ refl));
        of_volumes = λ left. same_room (old.trees 9) (new.trees 9) left (a.1.1.1.1.0 (unequal _ _ refl));
        of_spans = λ left. same_room (old.trees 11) (new.trees 11) left (a.1.1.1.1.1.0 (unequal _ _ refl));
      };
}

pub empty_old_spans_room : TextTakes empty_old_spans_text [] (TakesRoom 0 0 0)
empty_old_spans_room = record {
  room = λ limit old new desk h.
      let a = (spans_left limit old new desk h).1.others in
      record {
        of_plans = λ left. same_room (old.trees 2) (new.trees 2) left (a.1.0 (unequal _ _ refl));
        of_volumes = λ left. same_room (old.trees 9) (new.trees 9) left (a.1.1.1.1.0 (unequal _ _ refl));
        of_spans = λ left. same_room (old.trees 11) (new.trees 11) left (a.1.1.1.1.1.0 (unequal _ _ refl));
      };
}
