-- What each DELETE leaves.
use Rattle.std.proofs.Common.{◌≡◌, ℕ, Bool, true, false, not, cond, ◌&&◌, List, [], ◌∷◌, map, filter, Ok, refl, sym, ap, ap₂, subst, ◌∙◌, Option, arith}
use Rattle.std.specs.List.{AllByRecursion, list_any, list_all}
use Rattle.sqlite_trees.proofs.ListLemmas.{filter-map}
use Rattle.sqlite_keyed.proofs.ListLemmas.{filter_same}
use Rattle.sqlite.specs.Order.{Row, column}
use Rattle.sqlite.specs.declared.types.Value.TheVariants.{Text}
use Rattle.sqlite.specs.Term.{holds}
use Rattle.sqlite.specs.Tree.{Trees}
use Rattle.sqlite.specs.Table.{Table}
use Rattle.sqlite.specs.Edit.{row_at, taken_by}
use Rattle.sqlite.specs.Command.TheVariants.{Delete}
use Rattle.sqlite.specs.Effect.{Database}
use Rattle.sqlite.proofs.Callers.{one_step}
use Rattle.sqlite.specs.Rows.{Written, Task, Deletes}
use Rattle.sqlite_rules.specs.Calls.{ids_of}
use Rattle.sqlite_rules.specs.Action.{Settles, pairs}
use Rattle.sqlite_schema.specs.declared.program.Program.{Program}
use Rattle.sqlite_schema.specs.declared.schema.Keys.TheVariants.{Enforced}
use Rattle.desk_sql.specs.Schema.{plan_table, span_table, Beside, StandsApart, IsDeskSchema, desk_with}
use Rattle.desk_sql.specs.Rows.{IsDesk, AreNumbered, is_of, is_not_of, columns, cover_columns, tables_of, RemovesPlan, RemovesSpans}
use Rattle.desk_sql.specs.Statements.{Changes}
use Rattle.desk_changes.specs.RowChanges.{key_row}
use Rattle.desk_sql.proofs.lemmas.Texts.{remove_spans_text, remove_plan_text}
use Rattle.desk_sql.proofs.lemmas.CommandTexts.{remove_spans_is, remove_spans_query, remove_plan_is, remove_plan_query}
use Rattle.desk_sql.proofs.lemmas.Read.{equals_text}
use Rattle.desk_sql.proofs.lemmas.Number.{unequal, removed, numbered_kept, any_map}
use Rattle.desk_sql.proofs.lemmas.Write.{May, did, changes_by, rows_written, task_at}
use Rattle.desk_changes.proofs.DeleteLemmas.{delete_edit, delete_finds}
use Rattle.desk_sql.proofs.lemmas.Cascade.{has_key, some, span_works, plan_works, plan_actions, stepped, delete_on, old_volumes_at, old_spans_at, volumes_at, spans_at, child_of, children_are, all_lost, olds_pass, olds_some, ended, all_go}
use Rattle.sqlite_rules.specs.Lists.{Has}
use Rattle.desk_sql.proofs.lemmas.Beside.{rest_stays}

both_hold : (a : Bool) → (a && true) ≡ a
both_hold true = refl
both_hold false = refl

by_key : (operator id : List ℕ) (r : Row) → list_all (holds ((Text operator ∷ Text id ∷ []) ∷ r ∷ []))
    remove_plan_query.filter ≡ has_key operator id r
by_key operator id r = ap₂ (λ a b. a && b) (equals_text (column r 1) operator)
    (both_hold _ ∙ equals_text (column r 2) id)

-- rows of a tree and as they are shown
shown_cut : (show : Row → Row) (operator id : List ℕ) (b : Bool) (rows next : List Row) → next
    ≡ cond b (filter (λ r. not (is_of operator id (show r))) rows) rows
    → map show next ≡ cond b (filter (is_not_of operator id) (map show rows)) (map show rows)
shown_cut show operator id true rows next is = ap (map show) is
    ∙ sym (filter-map (is_not_of operator id) show rows)
shown_cut show operator id false rows next is = ap (map show) is

numbered_cut : (p : Row → Bool) (b : Bool) (rows next : List Row) → next ≡ cond b (filter p rows) rows
    → AreNumbered rows → AreNumbered next
numbered_cut p true rows next is num = subst AreNumbered (sym is) (numbered_kept p rows num)
numbered_cut p false rows next is num = subst AreNumbered (sym is) num

pub tables_are : (next : Trees) (operators plans old_volumes old_spans volumes covers spans : List Row)
    → map (columns 2) (next 0) ≡ operators → map (columns 5) (next 2) ≡ plans
    → map (columns 8) (next 4) ≡ old_volumes → map (columns 10) (next 6) ≡ old_spans
    → map (columns 8) (next 9) ≡ volumes → map cover_columns (next 9) ≡ covers
    → map (columns 10) (next 11) ≡ spans
    → tables_of next ≡ record {
      operators = operators;
      plans = plans;
      old_volumes = old_volumes;
      old_spans = old_spans;
      volumes = volumes;
      covers = covers;
      spans = spans;
    }
tables_are next operators plans old_volumes old_spans volumes covers spans a b c d e f g = λ i. record {
  operators = a i;
  plans = b i;
  old_volumes = c i;
  old_spans = d i;
  volumes = e i;
  covers = f i;
  spans = g i;
}

module _ {beside : Beside} (away : StandsApart beside) where
  -- what a DELETE of a plan's spans leaves
  pub record AreSpared (operator id : List ℕ) (db next : Trees) : Type 0 where
    pub operators : next 0 ≡ db 0
    pub plans : next 2 ≡ db 2
    pub old_volumes : next 4 ≡ db 4
    pub old_spans : next 6 ≡ db 6
    pub volumes : next 9 ≡ db 9
    pub spans : next 11 ≡ filter (λ r. not (has_key operator id r)) (db 11)
    pub rest : (t : Table) → Has beside.tables t → next t.tree ≡ db t.tree

  module _ (operator id : List ℕ) (limit : Option ℕ) where
    abbrev pub params : Row
    params = Text operator ∷ Text id ∷ []

    abbrev pub spans_task : Task
    spans_task = task_at away limit params span_table.name span_table.columns span_table.primary
        span_table.references 11

    abbrev pub spans_program : Program
    spans_program = record { lets = []; body = remove_spans_query }

    pub spans_removed : (old : Database) (w : Written) → IsDesk old
        → Deletes spans_task spans_program old.trees (Ok w) → AreSpared operator id old.trees w.trees
    spans_removed old w desk h =
        let db = old.trees in
        let f = delete_finds away limit params span_table.name span_table.columns span_table.primary
        span_table.references 11 db remove_spans_query.filter (has_key operator id) w refl
        (by_key operator id) h in
        let edit = delete_edit away limit params span_table.name span_table.columns span_table.primary
        span_table.references 11 db f.found in
        let step = one_step (desk_with beside) Enforced db w.trees edit (span_works away 0 (taken_by db edit))
        f.writes
        in
        record {
          operators = step.tables.0 (unequal _ _ refl);
          plans = step.tables.1.0 (unequal _ _ refl);
          old_volumes = step.tables.1.1.0 (unequal _ _ refl);
          old_spans = step.tables.1.1.1.0 (unequal _ _ refl);
          volumes = step.tables.1.1.1.1.0 (unequal _ _ refl);
          spans = step.rows ∙ removed (has_key operator id) (db 11) f.found desk.spans f.are;
          rest = rest_stays away 11 (omega arith) db w.trees step.tables.1.1.1.1.1.1;
        }

module _ (operator id : List ℕ) (limit : Option ℕ) (old new : Database) where
  pub remove_spans : IsDesk old → May remove_spans_text (key_row operator id) limit old new
      → IsDesk new × RemovesSpans operator id (tables_of old.trees) (tables_of new.trees)
      × (new.schema ≡ old.schema)
  remove_spans desk h =
      let db = old.trees in
      let q = spans_program desk.schema.apart operator id limit in
      let d = did remove_spans_text (key_row operator id) limit old new desk (Delete 5 q)
      remove_spans_is h in
      let it = rows_written (spans_task desk.schema.apart operator id limit) (Delete 5 q) db d.0 new d.1 in
      let left = spans_removed desk.schema.apart operator id limit old it.0 desk it.1 in
      let same : new.schema ≡ old.schema = ap (λ (d : Database). d.schema) it.2 ∙ sym desk.schema.is in
      let now : new.trees ≡ it.0.trees = ap (λ (d : Database). d.trees) it.2 in
      let e0 : new.trees 0 ≡ db 0 = ap (λ (t : Trees). t 0) now ∙ left.operators in
      let e2 : new.trees 2 ≡ db 2 = ap (λ (t : Trees). t 2) now ∙ left.plans in
      let e4 : new.trees 4 ≡ db 4 = ap (λ (t : Trees). t 4) now ∙ left.old_volumes in
      let e6 : new.trees 6 ≡ db 6 = ap (λ (t : Trees). t 6) now ∙ left.old_spans in
      let e9 : new.trees 9 ≡ db 9 = ap (λ (t : Trees). t 9) now ∙ left.volumes in
      let e11 : new.trees 11 ≡ filter (λ r. not (has_key operator id r)) (db 11) =
      ap (λ (t : Trees). t 11) now ∙ left.spans in (
        record {
          schema = subst IsDeskSchema (sym same) desk.schema;
          operators = subst AreNumbered (sym e0) desk.operators;
          plans = subst AreNumbered (sym e2) desk.plans;
          old_volumes = subst AreNumbered (sym e4) desk.old_volumes;
          old_spans = subst AreNumbered (sym e6) desk.old_spans;
          volumes = subst AreNumbered (sym e9) desk.volumes;
          spans = subst AreNumbered (sym e11) (numbered_kept (λ r. not (has_key operator id r)) (db 11)
              desk.spans);
        },
        tables_are new.trees _ _ _ _ _ _ _ (ap (map (columns 2)) e0) (ap (map (columns 5)) e2)
            (ap (map (columns 8)) e4) (ap (map (columns 10)) e6) (ap (map (columns 8)) e9)
            (ap (map cover_columns) e9) (shown_cut (columns 10) operator id true (db 11)
            (new.trees 11) e11),
        same,
      )

-- ---- a plan

-- the rows that are left of a tree where the plan is there, and where it isn't
abbrev pub cut_by : List ℕ → List ℕ → Bool → List Row → List Row
cut_by operator id there rows = cond there (filter (λ r. not (has_key operator id r)) rows) rows

module _ {beside : Beside} (away : StandsApart beside) where
  -- what the actions leave, if there are some
  pub record AreLeft (operator id : List ℕ) (b : Bool) (mid next : Trees) : Type 0 where
    pub operators : next 0 ≡ mid 0
    pub plans : next 2 ≡ mid 2
    pub old_volumes : next 4 ≡ cut_by operator id b (mid 4)
    pub old_spans : next 6 ≡ cut_by operator id b (mid 6)
    pub volumes : next 9 ≡ cut_by operator id b (mid 9)
    pub spans : next 11 ≡ cut_by operator id b (mid 11)
    pub rest : (t : Table) → Has beside.tables t → next t.tree ≡ mid t.tree

  module _ (operator id : List ℕ) (olds : List Row) (all : AllByRecursion
      (λ old. has_key operator id old ≡ true) olds) (mid next : Trees) (four : AreNumbered (mid 4))
      (six : AreNumbered (mid 6)) (nine : AreNumbered (mid 9)) (eleven : AreNumbered (mid 11)) where
    abbrev moves : List (Row × Row)
    moves = pairs olds []

    goes : (table : Table) → some olds ≡ true → (rows : List Row)
        → filter (λ r. not (child_of away moves table r)) rows
        ≡ filter (λ r. not (has_key operator id r)) rows
    goes table is rows = filter_same _ _ (λ r. ap not
        (children_are (delete_on table moves) refl refl refl operator id r olds all
        ∙ ap (λ b. b && has_key operator id r) is)) rows

    all_left : (b : Bool) → some olds ≡ b
        → Settles (desk_with beside) Enforced mid (cond b (plan_actions moves) []) (Ok next)
        → AreLeft operator id b mid next
    all_left false none h =
        let same : next ≡ mid = sym (ended away moves next h.0 mid h.1) in
        record {
          operators = ap (λ (t : Trees). t 0) same;
          plans = ap (λ (t : Trees). t 2) same;
          old_volumes = ap (λ (t : Trees). t 4) same;
          old_spans = ap (λ (t : Trees). t 6) same;
          volumes = ap (λ (t : Trees). t 9) same;
          spans = ap (λ (t : Trees). t 11) same;
          rest = λ t known. ap (λ (trees : Trees). trees t.tree) same;
        }
    all_left true is h =
        let done = all_go away moves next h.0 mid four six nine eleven h.1 in
        record {
          operators = done.operators;
          plans = done.plans;
          old_volumes = done.old_volumes ∙ goes old_volumes_at is (mid 4);
          old_spans = done.old_spans ∙ goes old_spans_at is (mid 6);
          volumes = done.volumes ∙ goes volumes_at is (mid 9);
          spans = done.spans ∙ goes spans_at is (mid 11);
          rest = done.rest;
        }

  -- what a DELETE of a plan leaves, if it is there and if not
  pub record AreCut (operator id : List ℕ) (b : Bool) (db next : Trees) : Type 0 where
    pub operators : next 0 ≡ db 0
    pub plans : next 2 ≡ filter (λ r. not (has_key operator id r)) (db 2)
    pub old_volumes : next 4 ≡ cut_by operator id b (db 4)
    pub old_spans : next 6 ≡ cut_by operator id b (db 6)
    pub volumes : next 9 ≡ cut_by operator id b (db 9)
    pub spans : next 11 ≡ cut_by operator id b (db 11)
    pub rest : (t : Table) → Has beside.tables t → next t.tree ≡ db t.tree

  module _ (operator id : List ℕ) (limit : Option ℕ) where
    abbrev pub plan_params : Row
    plan_params = Text operator ∷ Text id ∷ []

    abbrev pub plan_task : Task
    plan_task = task_at away limit plan_params plan_table.name plan_table.columns plan_table.primary
        plan_table.references 2

    abbrev pub plan_program : Program
    plan_program = record { lets = []; body = remove_plan_query }

    pub plan_removed : (old : Database) (w : Written) → IsDesk old
        → Deletes plan_task plan_program old.trees (Ok w)
        → AreCut operator id (list_any (has_key operator id) (old.trees 2)) old.trees w.trees
    plan_removed old w desk h =
        let db = old.trees in
        let f = delete_finds away limit plan_params plan_table.name plan_table.columns
        plan_table.primary
        plan_table.references 2 db remove_plan_query.filter (has_key operator id) w refl
        (by_key operator id) h in
        let edit = delete_edit away limit plan_params plan_table.name plan_table.columns
        plan_table.primary
        plan_table.references 2 db f.found in
        let step = stepped away (Settles (desk_with beside) Enforced) db edit 0 [] w.trees f.writes in
        let mid = step.0 in
        let olds = map (row_at (db 2)) (ids_of f.found) in
        let all = olds_pass (has_key operator id) (db 2) f.found desk.plans f.are in
        let b = list_any (has_key operator id) (db 2) in
        let is : some olds ≡ b = olds_some (has_key operator id) (db 2) f.found desk.plans f.are in
        let m0 : mid 0 ≡ db 0 = step.1.tables.0 (unequal _ _ refl) in
        let m4 : mid 4 ≡ db 4 = step.1.tables.1.1.0 (unequal _ _ refl) in
        let m6 : mid 6 ≡ db 6 = step.1.tables.1.1.1.0 (unequal _ _ refl) in
        let m9 : mid 9 ≡ db 9 = step.1.tables.1.1.1.1.0 (unequal _ _ refl) in
        let m11 : mid 11 ≡ db 11 = step.1.tables.1.1.1.1.1.0 (unequal _ _ refl) in
        let m2 : mid 2 ≡ filter (λ r. not (has_key operator id r)) (db 2) = step.1.rows
        ∙ removed (has_key operator id) (db 2) f.found desk.plans f.are in
        let settled = subst (λ ws. Settles (desk_with beside) Enforced mid ws (Ok w.trees))
        (plan_works away olds b (all_lost operator id olds all ∙ is)) step.2 in
        let left = all_left operator id olds all mid w.trees (subst AreNumbered (sym m4) desk.old_volumes)
        (subst AreNumbered (sym m6) desk.old_spans) (subst AreNumbered (sym m9) desk.volumes)
        (subst AreNumbered (sym m11) desk.spans) b is settled in
        record {
          operators = left.operators ∙ m0;
          plans = left.plans ∙ m2;
          old_volumes = left.old_volumes ∙ ap (cut_by operator id b) m4;
          old_spans = left.old_spans ∙ ap (cut_by operator id b) m6;
          volumes = left.volumes ∙ ap (cut_by operator id b) m9;
          spans = left.spans ∙ ap (cut_by operator id b) m11;
          rest = λ t known. left.rest t known ∙ rest_stays away 2 (omega arith) db mid
              step.1.tables.1.1.1.1.1.1 t known;
        }

module _ (operator id : List ℕ) (limit : Option ℕ) (old new : Database) where
  pub remove_plan : IsDesk old → May remove_plan_text (key_row operator id) limit old new
      → IsDesk new × RemovesPlan operator id (tables_of old.trees) (tables_of new.trees)
      × (new.schema ≡ old.schema)
  remove_plan desk h =
      let db = old.trees in
      let q = plan_program desk.schema.apart operator id limit in
      let d = did remove_plan_text (key_row operator id) limit old new desk (Delete 1 q)
      remove_plan_is h in
      let it = rows_written (plan_task desk.schema.apart operator id limit) (Delete 1 q) db d.0 new d.1 in
      let left = plan_removed desk.schema.apart operator id limit old it.0 desk it.1 in
      let b = list_any (has_key operator id) (db 2) in
      let lacks = λ (r : Row). not (has_key operator id r) in
      let same : new.schema ≡ old.schema = ap (λ (d : Database). d.schema) it.2 ∙ sym desk.schema.is in
      let now : new.trees ≡ it.0.trees = ap (λ (d : Database). d.trees) it.2 in
      let e0 : new.trees 0 ≡ db 0 = ap (λ (t : Trees). t 0) now ∙ left.operators in
      let e2 : new.trees 2 ≡ filter lacks (db 2) = ap (λ (t : Trees). t 2) now ∙ left.plans in
      let e4 : new.trees 4 ≡ cut_by operator id b (db 4) =
      ap (λ (t : Trees). t 4) now ∙ left.old_volumes in
      let e6 : new.trees 6 ≡ cut_by operator id b (db 6) =
      ap (λ (t : Trees). t 6) now ∙ left.old_spans in
      let e9 : new.trees 9 ≡ cut_by operator id b (db 9) =
      ap (λ (t : Trees). t 9) now ∙ left.volumes in
      let e11 : new.trees 11 ≡ cut_by operator id b (db 11) =
      ap (λ (t : Trees). t 11) now ∙ left.spans in
      let shown : b ≡ list_any (is_of operator id) (map (columns 5) (db 2)) =
      sym (any_map (is_of operator id) (columns 5) (db 2)) in
      let cut : (show : Row → Row) (rows next : List Row)
      → next ≡ cond b (filter (λ r. not (is_of operator id (show r))) rows) rows
      → map show next ≡ cond (list_any (is_of operator id) (map (columns 5) (db 2)))
      (filter (is_not_of operator id) (map show rows)) (map show rows) =
      λ show rows next e. shown_cut show operator id b rows next e
      ∙ ap (λ c. cond c (filter (is_not_of operator id) (map show rows)) (map show rows)) shown in (
        record {
          schema = subst IsDeskSchema (sym same) desk.schema;
          operators = subst AreNumbered (sym e0) desk.operators;
          plans = subst AreNumbered (sym e2) (numbered_kept lacks (db 2) desk.plans);
          old_volumes = numbered_cut lacks b (db 4) (new.trees 4) e4 desk.old_volumes;
          old_spans = numbered_cut lacks b (db 6) (new.trees 6) e6 desk.old_spans;
          volumes = numbered_cut lacks b (db 9) (new.trees 9) e9 desk.volumes;
          spans = numbered_cut lacks b (db 11) (new.trees 11) e11 desk.spans;
        },
        tables_are new.trees _ _ _ _ _ _ _ (ap (map (columns 2)) e0)
            (shown_cut (columns 5) operator id true (db 2) (new.trees 2) e2)
            (cut (columns 8) (db 4) (new.trees 4) e4) (cut (columns 10) (db 6) (new.trees 6) e6)
            (cut (columns 8) (db 9) (new.trees 9) e9) (cut cover_columns (db 9) (new.trees 9) e9)
            (cut (columns 10) (db 11) (new.trees 11) e11),
        same,
      )

pub remove_plan_changes : (operator id : List ℕ)
    → Changes remove_plan_text (key_row operator id) (RemovesPlan operator id)
remove_plan_changes operator id = changes_by remove_plan_text (key_row operator id) _ _ remove_plan_is tt
    (λ limit old new desk h. remove_plan operator id limit old new desk h)

pub remove_spans_changes : (operator id : List ℕ)
    → Changes remove_spans_text (key_row operator id) (RemovesSpans operator id)
remove_spans_changes operator id = changes_by remove_spans_text (key_row operator id) _ _ remove_spans_is tt
    (λ limit old new desk h. remove_spans operator id limit old new desk h)
