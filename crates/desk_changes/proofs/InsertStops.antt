-- Each INSERT of a row whose key is free and whose parents are there is refused only by memory, the disk and
-- a limit on steps.
use Rattle.std.proofs.Common.{◌≡◌, ◌≢◌, inl, inr, ◌/◌, ℕ, true, cond, List, [], ◌∷◌, ◌++◌, length, None, Some, Option, Err, sym, ap, subst, ◌∙◌}
use Rattle.std.specs.Prelude.{IsSome}
use Rattle.std.specs.List.{AllByRecursion, list_all}
use Rattle.sqlite.specs.Order.{Row, column}
use Rattle.sqlite.specs.declared.types.Value.TheVariants.{Null, Int}
use Rattle.sqlite.specs.declared.error.Error.{Error}
use Rattle.sqlite.specs.declared.error.Error.TheVariants.{SqliteFailure}
use Rattle.sqlite.specs.declared.error.ErrorCode.TheVariants as code
use Rattle.sqlite.specs.Term.{Term}
use Rattle.sqlite.specs.Tree.{Trees, rowid}
use Rattle.sqlite.specs.View.{is_int}
use Rattle.sqlite.specs.Ops.{is_null}
use Rattle.sqlite.specs.Table.{Table}
use Rattle.sqlite.specs.Cast.{cast, cast_all, cast_row}
use Rattle.sqlite.specs.Edit.{Edit, edit_of, taken_by, next_rowid, with_rowid}
use Rattle.sqlite.specs.Rowids.TheVariants.{Chosen}
use Rattle.sqlite.specs.Source.TheVariants.{Values}
use Rattle.sqlite.specs.Command.TheVariants.{Insert}
use Rattle.sqlite.specs.Effect.{RefusesSource, value_rows}
use Rattle.sqlite.specs.Does.{OnRows}
use Rattle.sqlite.specs.Rows.{Task, Sourced, Inserts}
use Rattle.sqlite_rules.specs.Lists.{Has}
use Rattle.sqlite_rules.specs.Action.{Writes}
use Rattle.sqlite_rules.specs.declared.error.Refusal.{Refusal}
use Rattle.sqlite_rules.proofs.ActionLemmas.{no_works}
use Rattle.sqlite_rules.proofs.ListLemmas.{all_has}
use Rattle.sqlite_schema.specs.Rules.{is_key_of, Obeys}
use Rattle.sqlite_schema.specs.declared.schema.Column.{Column}
use Rattle.sqlite_schema.specs.declared.schema.Constraint.TheVariants.{Unique}
use Rattle.sqlite_schema.specs.declared.schema.Keys.TheVariants.{Enforced}
use Rattle.sqlite_schema.specs.declared.schema.Reference.{Reference}
use Rattle.desk_sql.specs.Statements.{enforced}
use Rattle.desk_sql.specs.Changing.{HasRowids, IsAtLimit}
use Rattle.desk_sql.proofs.lemmas.Write.{table_at, task_at, insert_applies, cast_null}
use Rattle.desk_changes.proofs.DeleteStops.{same_stop, rows_stopped}
use Rattle.desk_sql.proofs.lemmas.Key.{obeyed_refers}
use Rattle.desk_changes.proofs.PassLemmas.{Passes, passed}
use Rattle.desk_changes.proofs.UpdateStops.{IsGood}
use Rattle.desk_changes.proofs.AddLemmas.{added, IsLone, HasParents, passes_added, refers_added}
use Rattle.desk_sql.specs.Schema.{Beside, StandsApart, desk_with}

module _ {beside : Beside} (away : StandsApart beside) where
  -- what an INSERT of one row of values adds to one table
  module _ (limit : Option ℕ) (params : Row) (name : List ℕ) (cols : List Column) (key : List ℕ)
      (refs : List Reference) (tree : ℕ) (db : Trees) (terms : List Term) (width : ℕ) (cells : Row) where
    abbrev table : Table
    table = table_at limit params name cols key refs tree

    abbrev task : Task
    task = task_at away limit params name cols key refs tree

    abbrev source : Row
    source = Null ∷ params

    abbrev edit : List Row → Edit
    edit sources = edit_of db table [] Chosen 0 sources

    pub record IsAdded : Type 0 where
      pub listed : Has (desk_with beside).tables table
      pub refers : list_all (is_key_of (desk_with beside)) refs ≡ true
      pub one : value_rows (params ++ []) width (length terms / width) terms ≡ source ∷ []
      pub sure : (e : Error)
          → RefusesSource limit (record { schema = (desk_with beside); trees = db }) (params ++ [])
          (Values terms width) e
          → (e ≡ SqliteFailure code.OperationInterrupted) × IsSome limit
      pub casts : cast_all cols params ≡ cells
      pub good : IsGood away table db cells
      pub room : HasRowids 1 (db tree)
      pub whole : AllByRecursion (λ r. is_int (rowid r) ≡ true) (db tree)
      pub lone : IsLone away table listed db cells
      pub parents : HasParents away table listed db cells
      pub obeys : Obeys (desk_with beside) db

    module _ (it : IsAdded) where
      news_are : (edit (source ∷ [])).news ≡ (added away) table it.listed db cells ∷ []
      news_are = ap (λ v. cond (is_null v) (Int (next_rowid (db tree)) ∷ cast_all cols params)
          (v ∷ cast_all cols params) ∷ []) cast_null
          ∙ ap (λ cs. (Int (next_rowid (db tree)) ∷ cs) ∷ []) it.casts

      pass : Passes away db (edit (source ∷ []))
      pass = subst (λ ns. Passes away db (record { table = table; gone = []; news = ns })) (sym news_are)
          (passes_added away table it.listed db cells it.room it.whole it.good it.lone (it.obeys.rules Unique)
          it.refers)

      never_made : (why : Option Refusal) → ¬ Writes (desk_with beside) Enforced db (edit (source ∷ []))
          (Err why)
      never_made = passed away db (edit (source ∷ [])) pass
          (no_works (desk_with beside) Enforced 0 tree (edit (source ∷ [])).news)

      sourced : (stop : Option Error) → Sourced limit (record { schema = (desk_with beside); trees = db })
          (params ++ []) (Values terms width) (Err stop) → IsAtLimit limit stop
      sourced None h = absurd h
      sourced (Some e) h = let stopped = it.sure e h in (ap Some stopped.0, stopped.1)

      inserts_stopped : (stop : Option Error) → Inserts task (Values terms width) db (Err stop)
          → IsAtLimit limit stop
      inserts_stopped stop (inl (s, h, is)) = subst (IsAtLimit limit) (sym (same_stop is)) (sourced s h)
      inserts_stopped stop (inr (sources, h, inl (s, none, is))) = absurd (cc)
      inserts_stopped stop (inr (sources, h, inr (counter, none, inl (s, (why, refused, e), is)))) =
          absurd (never_made why
          (subst (λ ss. Writes (desk_with beside) Enforced db (edit ss) (Err why)) (h.1 ∙ it.one) refused))
      inserts_stopped stop (inr (sources, h, inr (counter, none, inr (mid, made, inl (s, same, is))))) =
          absurd (cc)
      inserts_stopped stop (inr (sources, h, inr (counter, none, inr (mid, made, inr (next, same, is))))) =
          absurd (cc)

      pub never_stops : (at : ℕ) (stop : Option Error)
          → OnRows task enforced None (Insert at (Values terms width)) db (Err stop) → IsAtLimit limit stop
      never_stops at stop =
          rows_stopped task (Insert at (Values terms width)) db stop (IsAtLimit limit stop)
          (inserts_stopped stop)
          (λ w done.
          let step = insert_applies away limit params name cols key refs tree terms width db w source it.one
          done in
          refers_added away table it.listed db cells it.room it.whole w.trees
          (step.rows ∙ ap (λ ns. Rattle.sqlite.specs.Edit.put_all (db tree) ns) news_are)
          (λ t known. all_has (λ (t : Table). t.tree ≢ tree → w.trees t.tree ≡ db t.tree)
          (desk_with beside).tables t
          step.tables known) it.parents (obeyed_refers (desk_with beside) db it.obeys))
