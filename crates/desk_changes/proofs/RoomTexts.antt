-- How many rows each text adds at most.
use Rattle.std.proofs.Common.{◌≡◌, ◌+◌, ℕ, suc, ◌/◌, Bool, true, false, not, cond, List, [], ◌∷◌, ◌++◌, length, filter, Option, None, Ok, refl, sym, ap, subst, arith}
use Rattle.std.specs.List.{list_any}
use Rattle.std.specs.Prelude.{⊤}
use Rattle.sqlite.specs.Order.{Row}
use Rattle.sqlite.specs.declared.types.Value.TheVariants.{Null, Int}
use Rattle.sqlite.specs.Term.{Term}
use Rattle.sqlite.specs.Ops.{is_null}
use Rattle.sqlite.specs.Tree.{Trees, rowid}
use Rattle.sqlite.specs.Cast.{cast_all, cast_row}
use Rattle.sqlite.specs.Edit.{next_rowid, with_rowid}
use Rattle.sqlite.specs.Rowids.TheVariants.{Chosen}
use Rattle.sqlite.specs.Source.TheVariants.{Values}
use Rattle.sqlite.specs.Command.TheVariants.{Insert, Delete}
use Rattle.sqlite.specs.Effect.{Database, value_rows}
use Rattle.sqlite.specs.Does.{Tally, OnRows}
use Rattle.sqlite_schema.specs.declared.schema.Column.{Column}
use Rattle.sqlite_schema.specs.declared.schema.Reference.{Reference}
use Rattle.sqlite.specs.State.{State, Executes}
use Rattle.desk_sql.specs.Schema.{operator_table, plan_table, volume_table, span_table, Beside, StandsApart}
use Rattle.desk_changes.specs.declared.writing.PlanRecord.{PlanRecord}
use Rattle.desk_changes.specs.declared.writing.VolumeRecord.{VolumeRecord}
use Rattle.desk_changes.specs.declared.writing.SpanRecord.{SpanRecord}
use Rattle.desk_changes.specs.RowChanges.{volume_params, span_row_in, key_row, plan_row_in, HasRoomFor, TakesOperators, TakesRoom, TextCounts, TextTakes}
use Rattle.desk_sql.specs.Rows.{IsDesk, Tables, operator_row, tables_of}
use Rattle.desk_sql.specs.Statements.{Changes, enforced}
use Rattle.desk_sql.proofs.lemmas.Texts.{insert_operator_text, insert_plan_text, insert_volume_text, insert_span_text, remove_plan_text}
use Rattle.desk_sql.proofs.lemmas.CommandTexts.{insert_operator_is, insert_operator_terms, insert_plan_is, insert_plan_terms, insert_volume_is, insert_volume_terms, insert_span_is, insert_span_terms, remove_plan_is}
use Rattle.desk_sql.proofs.lemmas.Write.{Adds, adds, cast_null, did, insert_applies, ran, ran_counting, rows_written, table_at, task_at}
use Rattle.desk_sql.proofs.lemmas.Cascade.{has_key}
use Rattle.desk_sql.proofs.lemmas.Number.{unequal}
use Rattle.desk_changes.proofs.RemoveLemmas.{AreCut, plan_program, plan_removed, plan_task}
use Rattle.desk_changes.proofs.RoomLemmas.{AreWhole, fewer, room_kept, room_put}

-- ---- one row comes to a tree

module _ {beside : Beside} (away : StandsApart beside) where
  module _ (limit : Option ℕ) (params : Row) (name : List ℕ) (cols : List Column) (key : List ℕ)
      (refs : List Reference) (tree : ℕ) (db : Trees) where
    abbrev numbered : Row
    numbered = with_rowid Chosen (db tree)
        (cast_row (table_at limit params name cols key refs tree) (Null ∷ params))

    numbered_next : rowid numbered ≡ Int (next_rowid (db tree))
    numbered_next = ap (λ v. rowid (cond (is_null v) (Int (next_rowid (db tree)) ∷ cast_all cols params)
        (v ∷ cast_all cols params))) cast_null

    -- what an INSERT of one row adds
    pub row_added : (at : ℕ) (terms : List Term) (width : ℕ) (tally : Tally) (now : Database)
        → value_rows (params ++ []) width (length terms / width) terms ≡ (Null ∷ params) ∷ []
        → OnRows (task_at away limit params name cols key refs tree) enforced None
        (Insert at (Values terms width)) db
        (Ok (tally, now)) → Adds away tree numbered db now.trees
    row_added at terms width tally now one h =
        let it = rows_written (task_at away limit params name cols key refs tree)
        (Insert at (Values terms width)) db
        tally now h in
        let done = insert_applies away limit params name cols key refs tree terms width db it.0
        (Null ∷ params) one
        it.1 in
        subst (Adds away tree numbered db) (sym (ap (λ (d : Database). d.trees) it.2))
        (adds away name cols key refs tree db it.0.trees (Null ∷ params) done)

    pub room_taken : (now : Trees) (left : ℕ) → AreWhole (db tree) → Adds away tree numbered db now
        → HasRoomFor (1 + left) (db tree) → HasRoomFor left (now tree)
    room_taken now left whole a room = subst (HasRoomFor left) (sym a.at)
        (room_put left numbered (db tree) numbered_next whole
        (fewer (suc left) (1 + left) (db tree) (omega arith) room))

-- a tree that stays has its room
pub same_room : (old now : List Row) (left : ℕ) → now ≡ old → HasRoomFor (0 + left) old → HasRoomFor left now
same_room old now left same room =
    subst (HasRoomFor left) (sym same) (fewer left (0 + left) old (omega arith) room)

pub insert_operator_room : (name : List ℕ) (ceiling : ℕ)
    → TextTakes insert_operator_text (operator_row name ceiling) (TakesOperators 1)
insert_operator_room name ceiling = record {
  room = λ limit old new desk h.
      let row = operator_row name ceiling in
      let db = old.trees in
      let d = did insert_operator_text row limit old new desk (Insert 0 (Values insert_operator_terms 3))
      insert_operator_is h in
      let a = row_added desk.schema.apart limit row operator_table.name operator_table.columns
      operator_table.primary
      operator_table.references 0 db 0 insert_operator_terms 3 d.0 new refl d.1 in
      λ left. room_taken desk.schema.apart limit row operator_table.name operator_table.columns
      operator_table.primary
      operator_table.references 0 db new.trees left desk.operators.whole a;
}

pub insert_plan_room : (p : PlanRecord) → TextTakes insert_plan_text (plan_row_in p) (TakesRoom 1 0 0)
insert_plan_room p = record {
  room = λ limit old new desk h.
      let db = old.trees in
      let d = did insert_plan_text (plan_row_in p) limit old new desk (Insert 1 (Values insert_plan_terms 6))
      insert_plan_is h in
      let a = row_added desk.schema.apart limit (plan_row_in p) plan_table.name plan_table.columns
      plan_table.primary
      plan_table.references 2 db 1 insert_plan_terms 6 d.0 new refl d.1 in
      record {
        of_plans = λ left. room_taken desk.schema.apart limit (plan_row_in p) plan_table.name plan_table.columns
            plan_table.primary
            plan_table.references 2 db new.trees left desk.plans.whole a;
        of_volumes = λ left. same_room (db 9) (new.trees 9) left (a.others.1.1.1.1.0 (unequal _ _ refl));
        of_spans = λ left. same_room (db 11) (new.trees 11) left (a.others.1.1.1.1.1.0 (unequal _ _ refl));
      };
}

pub insert_volume_room : (v : VolumeRecord) → TextTakes insert_volume_text (volume_params v) (TakesRoom 0 1 0)
insert_volume_room v = record {
  room = λ limit old new desk h.
      let db = old.trees in
      let d =
      did insert_volume_text (volume_params v) limit old new desk (Insert 4 (Values insert_volume_terms 10))
      insert_volume_is h in
      let a = row_added desk.schema.apart limit (volume_params v) volume_table.name volume_table.columns
      volume_table.primary
      volume_table.references 9 db 4 insert_volume_terms 10 d.0 new refl d.1 in
      record {
        of_plans = λ left. same_room (db 2) (new.trees 2) left (a.others.1.0 (unequal _ _ refl));
        of_volumes = λ left. room_taken desk.schema.apart limit (volume_params v) volume_table.name
            volume_table.columns
            volume_table.primary volume_table.references 9 db new.trees left desk.volumes.whole a;
        of_spans = λ left. same_room (db 11) (new.trees 11) left (a.others.1.1.1.1.1.0 (unequal _ _ refl));
      };
}

pub insert_span_room : (s : SpanRecord) → TextTakes insert_span_text (span_row_in s) (TakesRoom 0 0 1)
insert_span_room s = record {
  room = λ limit old new desk h.
      let db = old.trees in
      let d = did insert_span_text (span_row_in s) limit old new desk (Insert 5 (Values insert_span_terms 11))
      insert_span_is h in
      let a = row_added desk.schema.apart limit (span_row_in s) span_table.name span_table.columns
      span_table.primary
      span_table.references 11 db 5 insert_span_terms 11 d.0 new refl d.1 in
      record {
        of_plans = λ left. same_room (db 2) (new.trees 2) left (a.others.1.0 (unequal _ _ refl));
        of_volumes = λ left. same_room (db 9) (new.trees 9) left (a.others.1.1.1.1.0 (unequal _ _ refl));
        of_spans = λ left. room_taken desk.schema.apart limit (span_row_in s) span_table.name span_table.columns
            span_table.primary span_table.references 11 db new.trees left desk.spans.whole a;
      };
}

-- ---- rows go

cut_room : (b : Bool) (q : Row → Bool) (old now : List Row) (left : ℕ) → now ≡ cond b (filter q old) old
    → AreWhole old → HasRoomFor (0 + left) old → HasRoomFor left now
cut_room b q old now left is whole room =
    let there = fewer left (0 + left) old (omega arith) room in
    subst (HasRoomFor left) (sym is) (elim b as (λ b. HasRoomFor left (cond b (filter q old) old))
    [ true ↦ room_kept left q old whole there | false ↦ there ])

pub remove_plan_room : (operator id : List ℕ)
    → TextTakes remove_plan_text (key_row operator id) (TakesRoom 0 0 0)
remove_plan_room operator id = record {
  room = λ limit old new desk h.
      let db = old.trees in
      let d =
      did remove_plan_text (key_row operator id) limit old new desk
      (Delete 1 (plan_program desk.schema.apart operator id limit))
      remove_plan_is h in
      let it = rows_written (plan_task desk.schema.apart operator id limit)
      (Delete 1 (plan_program desk.schema.apart operator id limit)) db d.0 new d.1 in
      let cut = plan_removed desk.schema.apart operator id limit old it.0 desk it.1 in
      let left_are : AreCut desk.schema.apart operator id (list_any (has_key operator id) (db 2)) db new.trees =
      subst (AreCut desk.schema.apart operator id (list_any (has_key operator id) (db 2)) db)
      (sym (ap (λ (d : Database). d.trees) it.2)) cut in
      let b = list_any (has_key operator id) (db 2) in
      let other = λ (r : Row). not (has_key operator id r) in
      record {
        of_plans = λ left. cut_room true other (db 2) (new.trees 2) left left_are.plans desk.plans.whole;
        of_volumes = λ left. cut_room b other (db 9) (new.trees 9) left left_are.volumes desk.volumes.whole;
        of_spans = λ left. cut_room b other (db 11) (new.trees 11) left left_are.spans desk.spans.whole;
      };
}

-- of a change whose room nobody asks
pub any_room : (text : List ℕ) (params : Row) → TextTakes text params (λ old new. ⊤)
any_room text params = record { room = λ limit old new desk h. tt }

-- what ran took that room
pub took : (text : List ℕ) (params : Row) (Change : Tables → Tables → Type 0) (Room : Trees → Trees → Type 0)
    → Changes text params Change → TextTakes text params Room → (old new : State) → IsDesk old.now
    → (count : ℕ)
    → Executes text params old new (Ok count) → Room old.now.trees new.now.trees
took text params Change Room known takes old new desk count h =
    takes.room old.step_limit old.now new.now desk
    (ran text params old new old.now.schema refl (known.plain old.now.schema desk.schema)
    (known.writes old.now.schema desk.schema) count h)

-- of a change whose rows nobody counts
pub any_count : (text : List ℕ) (params : Row) → TextCounts text params (λ count t. ⊤)
any_count text params = record { counted = λ limit old new count desk h. tt }

-- what ran counted so
pub counted_so : (text : List ℕ) (params : Row) (Change : Tables → Tables → Type 0)
    (Counts : ℕ → Tables → Type 0) → Changes text params Change → TextCounts text params Counts
    → (old new : State) → IsDesk old.now → (count : ℕ)
    → Executes text params old new (Ok count) → Counts count (tables_of old.now.trees)
counted_so text params Change Counts known counts old new desk count h =
    counts.counted old.step_limit old.now new.now count desk
    (ran_counting text params old new old.now.schema refl (known.plain old.now.schema desk.schema)
    (known.writes old.now.schema desk.schema) count h)
