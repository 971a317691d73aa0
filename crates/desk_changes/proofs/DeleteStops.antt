-- A DELETE of a sound desk's rows stops only at the limit on steps.
use Rattle.std.proofs.Common.{◌≡◌, inl, inr, ℕ, zero, suc, ℤ, ◌==◌, true, List, [], ◌∷◌, ◌++◌, None, Some, Option, Ok, Err, Result, sym, ap, subst, eqb-true}
use Rattle.std.specs.Prelude.{IsSome}
use Rattle.std.specs.List.{list_all}
use Rattle.std.proofs.lemmas.Bool.{and_parts, and_from, or_right, both_ways, not-true, not_from_false, false_from_ne_true, cases_Bool}
use Rattle.sqlite.specs.Order.{Row}
use Rattle.sqlite.specs.Tree.{Trees, with_tree}
use Rattle.sqlite.specs.Table.{Table}
use Rattle.sqlite.specs.Edit.{Edit, edit_of, taken_by, without_all, IsRefused, Applies}
use Rattle.sqlite.specs.Rowids.TheVariants.{Given}
use Rattle.sqlite.specs.Command.{Command}
use Rattle.sqlite.specs.Effect.{Database, RefusesQuery}
use Rattle.sqlite.specs.Does.{OnRows, WritesRows}
use Rattle.sqlite.specs.Rows.{Written, Task, Queried, Deletes}
use Rattle.sqlite.specs.declared.error.Error.{Error}
use Rattle.sqlite.specs.declared.error.Error.TheVariants.{SqliteFailure}
use Rattle.sqlite.specs.declared.error.ErrorCode.TheVariants as code
use Rattle.sqlite_rules.specs.declared.error.Refusal.{Refusal}
use Rattle.sqlite_rules.specs.declared.error.Refusal.TheVariants.{Violates, Mismatch, NoRowid, BadReference, TooDeep}
use Rattle.sqlite_rules.specs.Lists.{Has}
use Rattle.sqlite_rules.specs.Calls.{ids_of}
use Rattle.sqlite_rules.specs.Action.{Work, Leads, Settles, Goes, End, Writes, works}
use Rattle.sqlite_rules.proofs.ListLemmas.{some_has, some_from, test_has, test_from}
use Rattle.sqlite_rules.proofs.RuleLemmas.{keeps_at, keeps_from}
use Rattle.sqlite_rules.proofs.TableLemmas.{without_all_has}
use Rattle.sqlite_schema.specs.Rules.{clashes, guards, Keeps, Refers, is_key_if_to}
use Rattle.sqlite_schema.specs.declared.schema.Among.TheVariants.{All}
use Rattle.sqlite_schema.specs.declared.schema.Constraint.TheVariants.{Datatype, NotNull, Check, PrimaryKey, Unique, ForeignKey}
use Rattle.sqlite_schema.specs.declared.schema.Keys.TheVariants.{Enforced}
use Rattle.sqlite_schema.specs.declared.schema.Schema.{Schema}
use Rattle.sqlite_schema.specs.declared.program.Program.{Program}
use Rattle.desk_sql.specs.Statements.{enforced}
use Rattle.desk_sql.specs.Changing.{IsAtLimit}
use Rattle.desk_sql.specs.Schema.{Beside, StandsApart, desk_with}

pub same_stop : {A : Type 0} {a b : Option Error} → ◌≡◌ {A = Result A (Option Error)} (Err a) (Err b)
    → a ≡ b
same_stop e = cc

-- a statement on rows stops where its rows are written, or where a foreign key is broken then
pub rows_stopped : (task : Task) (command : Command) (db : Trees) (stop : Option Error) (P : Type 0)
    → (WritesRows task db command (Err stop) → P)
    → ((w : Written) → WritesRows task db command (Ok w) → Refers All task.schema w.trees)
    → OnRows task enforced None command db (Err stop) → P
rows_stopped task command db stop P first keeps (inl (s, h, is)) =
    first (subst (λ s. WritesRows task db command (Err s)) (sym (same_stop is)) h)
rows_stopped task command db stop P first keeps (inr (w, h, inl (s, tested, is))) =
    absurd (tested.0 (keeps w h))
rows_stopped task command db stop P first keeps (inr (w, h, inr (doubt, tested, inl (s, none, is)))) =
    absurd (cc)
rows_stopped task command db stop P first keeps (inr (w, h, inr (doubt, tested, inr (rows, all, is)))) =
    absurd (cc)

-- a query that is refused at the limit alone
pub queried_stopped : (limit : Option ℕ) (db : Database) (q : Program) (params : Row) (stop : Option Error)
    → ((e : Error) → RefusesQuery limit db q params e
    → (e ≡ SqliteFailure code.OperationInterrupted) × IsSome limit)
    → Queried limit db q params (Err stop) → IsAtLimit limit stop
queried_stopped limit db q params None sure h = absurd h
queried_stopped limit db q params (Some e) sure h = let it = sure e h in (ap Some it.0, it.1)

-- ---- rows that are taken out

-- rows that were there break no key that they kept
pub unique_fewer : (schema : Schema) (db next : Trees)
    → ((t : Table) (row : Row) → Has schema.tables t → Has (next t.tree) row → Has (db t.tree) row)
    → Keeps Unique schema db → Keeps Unique schema next
unique_fewer schema db next were keeps = keeps_from Unique schema next (λ t row known there.
    test_from _ schema.indexes (λ i k. not_from_false _ (false_from_ne_true _ (λ clash.
    let parts = and_parts (guards i t) (clashes i.order i.columns (next t.tree) row) clash in
    let other = some_has _ (next t.tree) parts.1 in
    both_ways _ (not-true _ (test_has _ schema.indexes i
    (keeps_at Unique schema db t row keeps known (were t row known there)) k))
    (and_from _ _ parts.0 (some_from _ (db t.tree) other.0 (were t other.0 known other.1) other.2))))))

module _ {beside : Beside} (away : StandsApart beside) where
  -- each reference to the table points to a key
  abbrev pub IsReferredTo : Table → Type 0
  IsReferredTo table =
      list_all (λ (t : Table). list_all (is_key_if_to (desk_with beside) table) t.references)
      (desk_with beside).tables
      ≡ true

  module _ (table : Table) (fit : IsReferredTo table) (db : Trees) (gone : List ℤ)
      (keeps : Keeps Unique (desk_with beside) db) where
    abbrev out : Edit
    out = edit_of db table gone Given 0 []

    were_there : (t : Table) (row : Row)
        → Has (with_tree db table.tree (without_all (db table.tree) gone) t.tree) row → Has (db t.tree) row
    were_there t row there = elim (cases_Bool (t.tree == table.tree)) [
      | inl is ↦ subst (λ n. Has (db n) row) (sym (eqb-true t.tree table.tree is))
          (without_all_has gone (db table.tree) row (rw is at there))
      | inr other ↦ rw other at there
    ]

    not_refused : (why : Refusal) → ¬ IsRefused (desk_with beside) Enforced db out why
    not_refused (Violates Datatype) h = cc
    not_refused (Violates NotNull) h = cc
    not_refused (Violates Check) h = cc
    not_refused (Violates PrimaryKey) h = cc
    not_refused (Violates Unique) h = h (unique_fewer (desk_with beside) db _
        (λ t row known. were_there t row) keeps)
    not_refused (Violates ForeignKey) h = h
    not_refused Mismatch h = cc
    not_refused NoRowid h = cc
    not_refused BadReference h = both_ways _ h (or_right _ _ fit)
    not_refused TooDeep h = h

    -- a step that takes rows out is made
    pub taken_out : (Later : Trees → List Work → End → Type 0) (depth : ℕ) (below : List Work)
        (why : Option Refusal) → Goes (desk_with beside) Enforced Later db out depth below (Err why)
        → (mid : Trees) × Applies (desk_with beside) Enforced db out mid
        × Later mid (below ++ works (desk_with beside) Enforced depth table.tree (taken_by db out) []) (Err why)
    taken_out Later depth below why (inl (reason, refused, is)) = absurd (not_refused reason refused)
    taken_out Later depth below why (inr (inl big)) = absurd big.1
    taken_out Later depth below why (inr (inr went)) = went

  pub never_ends : (n : ℕ) (db : Trees) (why : Option Refusal)
      → ¬ Leads (desk_with beside) Enforced n db [] (Err why)
  never_ends zero db why h = absurd (let e = h.1 in cc)
  never_ends (suc n) db why h = none h.0 h.1 h.2
    where
      none : (below : List Work) (w : Work) → ¬ ([] ≡ below ++ w ∷ [])
      none [] w e = cc
      none (x ∷ below) w e = cc

  -- where no action follows
  pub quiet_out : (table : Table) → IsReferredTo table → (db : Trees) (gone : List ℤ)
      → Keeps Unique (desk_with beside) db
      → works (desk_with beside) Enforced 0 table.tree (taken_by db (edit_of db table gone Given 0 [])) [] ≡ []
      → (why : Option Refusal)
      → ¬ Writes (desk_with beside) Enforced db (edit_of db table gone Given 0 []) (Err why)
  quiet_out table fit db gone keeps quiet why h =
      let done = taken_out table fit db gone keeps (Settles (desk_with beside) Enforced) 0 [] why h in
      let settled = subst (λ ws. Settles (desk_with beside) Enforced done.0 ws (Err why)) quiet done.2 in
      never_ends settled.0 done.0 why settled.1

-- a DELETE stops where its query does
pub deletes_stopped : (task : Task) (q : Program) (db : Trees) (stop : Option Error)
    → ((e : Error) → RefusesQuery task.limit (record { schema = task.schema; trees = db }) q task.params e
    → (e ≡ SqliteFailure code.OperationInterrupted) × IsSome task.limit)
    → ((rows : List Row) (why : Option Refusal)
    → ¬ Writes task.schema task.keys db (edit_of db task.table (ids_of rows) Given 0 []) (Err why))
    → Deletes task q db (Err stop) → IsAtLimit task.limit stop
deletes_stopped task q db stop sure made (inl (s, h, is)) =
    subst (IsAtLimit task.limit) (sym (same_stop is))
    (queried_stopped task.limit (record { schema = task.schema; trees = db }) q task.params s sure h)
deletes_stopped task q db stop sure made (inr (rows, h, inl (s, (why, refused, e), is))) =
    absurd (made rows why refused)
deletes_stopped task q db stop sure made (inr (rows, h, inr (next, writes, is))) = absurd (cc)
