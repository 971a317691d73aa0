-- An UPDATE that leaves each row its rowid and its keys stops only at the limit on steps.
use Rattle.std.proofs.Common.{◌≡◌, ◌≢◌, inl, inr, ℕ, Bool, true, not, List, [], ◌∷◌, filter, map, drop, None, Option, Ok, Err, sym, ap₂, subst, ◌∙◌}
use Rattle.std.specs.Prelude.{IsSome}
use Rattle.std.specs.List.{list_all}
use Rattle.std.specs.List.Sorted.{IsPermutation}
use Rattle.sqlite.specs.Order.{Row}
use Rattle.sqlite.specs.Term.{Term, eval_all, holds}
use Rattle.sqlite.specs.Query.{inner, end}
use Rattle.sqlite.specs.Program.{overlay}
use Rattle.sqlite_schema.specs.declared.schema.Column.{Column}
use Rattle.sqlite_schema.specs.declared.schema.Reference.{Reference}
use Rattle.desk_sql.proofs.lemmas.QueryTexts.{query_of}
use Rattle.sqlite.specs.declared.error.Error.{Error}
use Rattle.sqlite.specs.declared.error.Error.TheVariants.{SqliteFailure}
use Rattle.sqlite.specs.declared.error.ErrorCode.TheVariants as code
use Rattle.sqlite.specs.Tree.{Trees, rowid}
use Rattle.sqlite.specs.Table.{Table}
use Rattle.sqlite.specs.Edit.{Edit, edit_of, edited, taken_by, without_all, put_all}
use Rattle.sqlite.specs.Rowids.TheVariants.{Given}
use Rattle.sqlite.specs.Cast.{cast_row}
use Rattle.sqlite.specs.Command.TheVariants.{Update}
use Rattle.sqlite.specs.Effect.{RefusesQuery}
use Rattle.sqlite.specs.Does.{OnRows}
use Rattle.sqlite.specs.Rows.{Task, Queried, Updates}
use Rattle.sqlite.proofs.Callers.{one_step}
use Rattle.sqlite_rules.specs.Calls.{ids_of}
use Rattle.sqlite_rules.specs.Lists.{Has}
use Rattle.sqlite_rules.specs.InPlace.{AreTwins}
use Rattle.sqlite_rules.specs.Action.{Writes, works}
use Rattle.sqlite_rules.specs.declared.error.Refusal.{Refusal}
use Rattle.sqlite_rules.proofs.ListLemmas.{all_has}
use Rattle.sqlite_schema.specs.Rules.{is_key_of, Obeys}
use Rattle.sqlite_schema.specs.declared.program.Program.{Program}
use Rattle.sqlite_schema.specs.declared.schema.Constraint.TheVariants.{Unique}
use Rattle.sqlite_schema.specs.declared.schema.Keys.TheVariants.{Enforced}
use Rattle.desk_sql.specs.Rows.{AreNumbered}
use Rattle.desk_sql.specs.Statements.{enforced}
use Rattle.desk_sql.specs.Changing.{AreLow, IsAtLimit}
use Rattle.desk_changes.proofs.UpdateLemmas.{update_finds, update_sets, update_edit, news_of, left_is, made_is, given_stay}
use Rattle.desk_sql.proofs.lemmas.Write.{task_at, table_at}
use Rattle.desk_changes.proofs.DeleteStops.{IsReferredTo, same_stop, rows_stopped, queried_stopped}
use Rattle.desk_sql.proofs.lemmas.Key.{obeyed_refers}
use Rattle.desk_changes.proofs.PassLemmas.{Passes, passed, refers_twins}
use Rattle.desk_changes.proofs.UpdateStops.{Sets, IsGood, passes_all, twins_of}
use Rattle.desk_sql.specs.Schema.{Beside, StandsApart, desk_with}

-- an UPDATE stops where its query does
updates_stopped : (task : Task) (q : Program) (given : Row) (db : Trees) (stop : Option Error)
    → ((e : Error) → RefusesQuery task.limit (record { schema = task.schema; trees = db }) q given e
    → (e ≡ SqliteFailure code.OperationInterrupted) × IsSome task.limit)
    → ((found : List Row) (why : Option Refusal)
    → Queried task.limit (record { schema = task.schema; trees = db }) q given (Ok found)
    → ¬ Writes task.schema task.keys db (edit_of db task.table (ids_of found) Given 1 found) (Err why))
    → Updates task q given db (Err stop) → IsAtLimit task.limit stop
updates_stopped task q given db stop sure made (inl (s, h, is)) =
    subst (IsAtLimit task.limit) (sym (same_stop is))
    (queried_stopped task.limit (record { schema = task.schema; trees = db }) q given s sure h)
updates_stopped task q given db stop sure made (inr (found, h, inl (s, (why, refused, e), is))) =
    absurd (made found why h refused)
updates_stopped task q given db stop sure made (inr (found, h, inr (next, writes, is))) = absurd (cc)

module _ {beside : Beside} (away : StandsApart beside) where
  -- what an UPDATE of one table finds and sets
  module _ (limit : Option ℕ) (params : Row) (name : List ℕ) (cols : List Column) (key : List ℕ)
      (refs : List Reference) (tree : ℕ) (db : Trees) (terms project : List Term) (wanted : Row → Bool)
      (source : Row → Row) (cells : Row) where
    abbrev table : Table
    table = table_at limit params name cols key refs tree

    abbrev program : Program
    program = record { lets = []; body = query_of (inner tree end) terms project [] }

    abbrev made : Row → Row
    made r = cast_row table (drop 1 (source r))

    abbrev edit : List Row → Edit
    edit = update_edit away limit params name cols key refs tree db

    pub record IsInPlace : Type 0 where
      pub listed : Has (desk_with beside).tables table
      pub referred : IsReferredTo away table
      pub refers : list_all (is_key_of (desk_with beside)) refs ≡ true
      pub alone : overlay db [] tree ≡ db tree
      pub shows : (r : Row) → eval_all project (params ∷ r ∷ []) ≡ source r
      pub finds : (r : Row) → list_all (holds (params ∷ r ∷ [])) terms ≡ wanted r
      pub keeps : (r : Row) → rowid (source r) ≡ rowid r
      pub sets : Sets away table wanted made cells
      pub good : IsGood away table db cells
      pub num : AreNumbered (db tree)
      pub low : AreLow (db tree)
      pub obeys : Obeys (desk_with beside) db
      pub quiet : (found : List Row)
          → works (desk_with beside) Enforced 0 tree (taken_by db (edit found)) (edit found).news ≡ []
      pub sure : (e : Error) → RefusesQuery limit (record { schema = (desk_with beside); trees = db }) program
          params e
          → (e ≡ SqliteFailure code.OperationInterrupted) × IsSome limit

    module _ (it : IsInPlace) where
      abbrev news : List Row → List Row
      news found = news_of away limit params name cols key refs tree db found

      news_are : (found : List Row) → (edit found).news ≡ news found
      news_are found = given_stay (without_all (db tree) (ids_of found)) (news found)

      module _ (found : List Row) (are : IsPermutation (map source (filter wanted (db tree))) found) where
        leaves : without_all (db tree) (ids_of found) ≡ filter (λ r. not (wanted r)) (db tree)
        leaves = left_is away limit params name cols key refs tree db wanted source found are it.num it.keeps

        makes : IsPermutation (map made (filter wanted (db tree))) (news found)
        makes = made_is away limit params name cols key refs tree db wanted source found are

        pass : Passes away db (edit found)
        pass = subst (λ ns. Passes away db (record { table = table; gone = ids_of found; news = ns }))
            (sym (news_are found))
            (passes_all away table it.listed it.referred db (news found) wanted made cells it.num it.sets makes
            (ids_of found) leaves it.low it.good it.refers (it.obeys.rules Unique))

        twins : (next : Trees) → next tree ≡ edited db (edit found) → AreTwins (desk_with beside) table db next
        twins next is = twins_of away table it.listed it.referred db (news found) wanted made cells it.num
            it.sets
            makes next (is ∙ ap₂ put_all leaves (news_are found))

      pub never_stops : (at : ℕ) (stop : Option Error)
          → OnRows (task_at away limit params name cols key refs tree) enforced None (Update at program) db
          (Err stop)
          → IsAtLimit limit stop
      never_stops at stop =
          rows_stopped (task_at away limit params name cols key refs tree) (Update at program) db stop
          (IsAtLimit limit stop)
          (updates_stopped (task_at away limit params name cols key refs tree) program params db stop it.sure
          (λ found why asked. passed away db (edit found) (pass found
          (update_finds away limit params name cols key refs tree db terms project wanted source found it.alone
          it.shows it.finds asked)) (it.quiet found) why))
          (λ w done.
          let s = update_sets away limit params name cols key refs tree db terms project wanted source w
          it.alone
          it.shows it.finds done in
          let step = one_step (desk_with beside) Enforced db w.trees (edit s.found) (it.quiet s.found)
          s.writes in
          refers_twins away db w.trees table it.listed
          (λ t known. all_has (λ (t : Table). t.tree ≢ tree → w.trees t.tree ≡ db t.tree)
          (desk_with beside).tables t
          step.tables known)
          (twins s.found s.are w.trees step.rows) (obeyed_refers (desk_with beside) db it.obeys))
