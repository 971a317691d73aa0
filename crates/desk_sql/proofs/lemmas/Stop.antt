-- From the error of a statement that writes to what stopped it.
use Rattle.std.proofs.Common.{◌≡◌, ◌≤◌, inl, inr, ℕ, List, length, append-nil, false, ◌||◌, None, Some, Option, Ok, Err, Result, refl, sym, ap, subst, ◌∙◌, IsTrue}
use Rattle.std.specs.Prelude.{is_some, MatchBool}
use Rattle.sqlite.specs.Order.{Row}
use Rattle.sqlite_trees.specs.declared.error.StoreError.{StoreError}
use Rattle.sqlite_trees.specs.declared.error.StoreError.TheVariants.{OutOfMemory, Io, Corrupt, Full, Broken, Unstorable}
use Rattle.sqlite.specs.Command.{Command}
use Rattle.sqlite.specs.Command.TheVariants.{Select, Insert, InsertOr, Update, Delete, CreateTable, CreateIndex, DropTable, DropIndex, Begin, Commit, Rollback, Savepoint, Release, RollbackTo, Rows, Nothing, CreateView, DropView}
use Rattle.sqlite_schema.specs.declared.command.Returning.{Returning}
use Rattle.sqlite_resolve.specs.declared.compiled.Compiled.{Compiled}
use Rattle.sqlite_resolve.specs.declared.error.CompileError.{CompileError}
use Rattle.sqlite.specs.declared.error.Error.{Error}
use Rattle.sqlite.specs.declared.error.Error.TheVariants.{ExecuteReturnedResults}
use Rattle.sqlite.specs.Calls.{IsWrite}
use Rattle.sqlite.specs.Clock.{timed}
use Rattle.sqlite.specs.Given.{IsPlain}
use Rattle.sqlite.proofs.Callers.{command_of, statement_of}
use Rattle.sqlite.specs.Does.{Does}
use Rattle.sqlite.specs.Effect.{Database, IsDatabase, is_query}
use Rattle.sqlite.specs.Listing.{understood}
use Rattle.sqlite.specs.State.{State, HasCleanDisk, HasCause, IsMisplaced, IsNoStatement, IsNotRun, IsUnchanged, IsRolledBack, RunsCommand, RunsAlone, ExecutesIn, Executes, EndsScope, ExecutesInside, is_pragma, shows_rows, text_of}
use Rattle.sqlite.specs.Store.{Ghosts}
use Rattle.sqlite.specs.Held.{Held, state}
use Rattle.desk_sql.specs.Schema.{Beside, beside_of, desk_with, desk_in}
use Rattle.desk_sql.specs.Effects.{IsUnderWay, Holds}
use Rattle.desk_sql.specs.Rows.{IsDesk}
use Rattle.desk_sql.specs.Statements.{IsRefusal, enforced}
use Rattle.desk_sql.specs.Changing.{MayStop, IsAtLimit, IsWholeWrite, IsWholeIn, IsSureChange}
use Rattle.desk_sql.proofs.AskLemmas.{IsCause, by_store}
use Rattle.desk_sql.proofs.lemmas.CommandTexts.{IsCommand}

abbrev pub names_in : Result Compiled CompileError → ℕ
names_in (Ok c) = length c.names
names_in (Err e) = 0

abbrev pub tail_of : Result Compiled CompileError → ℕ
tail_of (Ok c) = c.tail
tail_of (Err e) = 0

-- a text that is a command which writes is a whole statement
pub whole_in : (text : List ℕ) (count : ℕ) (r : Result Compiled CompileError) (command : Command)
    → command_of r ≡ command → IsPlain r → IsWrite command → count ≡ names_in r → length text ≤ tail_of r
    → IsWholeIn text count r
whole_in text count (Ok c) command is plain writes given whole = record {
  bare = plain.0;
  timeless = plain.1;
  given = given;
  whole = whole;
  writes = subst IsWrite (sym is) writes;
}
whole_in text count (Err e) command is plain writes given whole = absurd plain

-- a write shows no rows
hidden : (command : Command) (returning : Option Returning) → returning ≡ None → IsWrite command
    → (is_query command || (is_pragma command || is_some returning)) ≡ false
hidden command (Some what) none writes = cc
hidden (Select q names) None none writes = absurd writes
hidden (Insert at from) None none writes = refl
hidden (InsertOr at how from clauses) None none writes = refl
hidden (Update at q) None none writes = refl
hidden (Delete at q) None none writes = refl
hidden CreateTable None none writes = refl
hidden (CreateIndex at) None none writes = refl
hidden (DropTable at) None none writes = refl
hidden (DropIndex at) None none writes = refl
hidden Begin None none writes = absurd writes
hidden Commit None none writes = absurd writes
hidden Rollback None none writes = absurd writes
hidden (Savepoint name) None none writes = absurd writes
hidden (Release name) None none writes = absurd writes
hidden (RollbackTo name) None none writes = absurd writes
hidden (Rows values width names) None none writes = absurd writes
hidden Nothing None none writes = absurd writes
hidden CreateView None none writes = refl
hidden (DropView at) None none writes = refl

-- nor does it begin or end a transaction
misplaced : (s : State) (command : Command) (e : Error) → IsWrite command → ¬ IsMisplaced s command e
misplaced s command e writes (inl (_, inl (is, _))) = absurd (subst IsWrite is writes)
misplaced s command e writes (inl (_, inr (inl is, _))) = absurd (subst IsWrite is writes)
misplaced s command e writes (inl (_, inr (inr is, _))) = absurd (subst IsWrite is writes)
misplaced s command e writes (inr (_, name, inl is, _)) = absurd (subst IsWrite is writes)
misplaced s command e writes (inr (_, name, inr is, _)) = absurd (subst IsWrite is writes)

whole_at : (text : List ℕ) (count : ℕ) (r : Result Compiled CompileError) (c : Compiled) → r ≡ Ok c
    → IsWholeIn text count r → IsWholeWrite text count c
whole_at text count r c is whole = subst (IsWholeIn text count) is whole

is_statement : (text : List ℕ) (params : Row) (s : State) (e : Error)
    → IsWholeIn text (length params) (understood s.now.schema text) → ¬ IsNoStatement s text params e
is_statement text params s e whole (inl (fault, is, _)) =
    absurd (subst (IsWholeIn text (length params)) is whole)
is_statement text params s e whole (inr (c, is, inl (short, _))) =
    short (whole_at text (length params) _ c is whole).whole
is_statement text params s e whole (inr (c, is, inr (inl (other, _)))) =
    other (whole_at text (length params) _ c is whole).given
is_statement text params s e whole (inr (c, is, inr (inr (timed, _)))) =
    timed (whole_at text (length params) _ c is whole).timeless

-- it does not end the scope of the transaction
stays : (held : ℕ) (text : List ℕ) (params : Row) (s : State)
    → IsWholeIn text (length params) (understood s.now.schema text) → ¬ EndsScope held text params s
unfolding EndsScope
stays held text params s whole (c, it, inl (inl is)) =
    absurd (subst IsWrite is (whole_at text (length params) _ c it.is whole).writes)
stays held text params s whole (c, it, inl (inr is)) =
    absurd (subst IsWrite is (whole_at text (length params) _ c it.is whole).writes)
stays held text params s whole (c, it, inr (name, inl is, _)) =
    absurd (subst IsWrite is (whole_at text (length params) _ c it.is whole).writes)
stays held text params s whole (c, it, inr (name, inr is, _)) =
    absurd (subst IsWrite is (whole_at text (length params) _ c it.is whole).writes)

none_stops : (limit : Option ℕ) → ¬ IsAtLimit limit None
none_stops limit h = absurd (let e = h.0 in cc)

some_stops : (old new : State) (e : Error) → IsAtLimit old.step_limit (Some e) → IsCause old new e
some_stops old new e h = inr (inr (let same = h.0 in cc, h.1))

-- the store failed, at no row that is too large
by_cause : (old new : State) (e : Error) (cause : StoreError) (too_big : Type 0) → ¬ too_big
    → e ≡ Rattle.sqlite.specs.State.store_error cause → HasCause old new too_big cause
    → IsTrue old.is_open → IsCause old new e
by_cause old new e OutOfMemory too_big fits is h live = by_store old new e OutOfMemory is h live
by_cause old new e Io too_big fits is h live = by_store old new e Io is h live
by_cause old new e Corrupt too_big fits is h live = by_store old new e Corrupt is h live
by_cause old new e Full too_big fits is h live = by_store old new e Full is h live
by_cause old new e Broken too_big fits is h live = by_store old new e Broken is h live
by_cause old new e Unstorable too_big fits is h live = absurd (fits h)

module _ (text : List ℕ) (params : Row) (old new : State) (e : Error) (live : IsTrue old.is_open)
    (never : (stop : Option Error)
    → MayStop text (understood old.now.schema text) params old.step_limit old.now stop
    → IsAtLimit old.step_limit stop) where
  module _ (c : Compiled) (is : understood old.now.schema text ≡ Ok c) where
    at_stop : (given : Row) (returning : Option Returning) (stop : Option Error) → given ≡ params
        → returning ≡ None
        → Does old.step_limit enforced given old.now (text_of text c) returning c.command (Err stop)
        → IsAtLimit old.step_limit stop
    at_stop given returning stop same none h =
        never stop (subst (λ r. MayStop text r params old.step_limit old.now stop) (sym is)
        (subst (λ ps. Does old.step_limit enforced ps old.now (text_of text c) None c.command (Err stop))
        same
        (subst (λ r. Does old.step_limit enforced given old.now (text_of text c) r c.command (Err stop))
        none h)))

    by_command : (given : Row) → given ≡ params → IsWholeWrite text (length params) c
        → RunsCommand old new text c given (Err e) → IsCause old new e
    by_command given same whole (inl (inl wrong, _)) = absurd (misplaced old c.command e whole.writes wrong)
    by_command given same whole (inl (inr (_, stops), _)) =
        some_stops old new e (at_stop given c.returning (Some e) same whole.bare stops)
    by_command given same whole (inr (cause, reported, h, _, _)) =
        by_cause old new e cause _ (λ big. none_stops _ (at_stop given c.returning None same whole.bare big))
        reported h live

  caused : IsWholeIn text (length params) (understood old.now.schema text)
      → Executes text params old new (Err e) → IsCause old new e
  unfolding ExecutesIn IsNotRun
  caused whole (inl (inl h)) = absurd (is_statement text params old e whole h.0)
  caused whole (inl (inr (cause, is, h, _, _))) = by_store old new e cause is h live
  caused whole (inr (c, it, h)) =
      let means = whole_at text (length params) _ c it.is whole in
      let given = timed params c.formats it.now in
      by_command c it.is given (ap (λ f. timed params f it.now) means.timeless ∙ append-nil params) means
      (subst (λ b. MatchBool b ((◌≡◌ {A = Result ℕ Error} (Err e) (Err ExecuteReturnedResults))
      × IsUnchanged old new)
      (RunsCommand old new text c given (Err e))) (hidden c.command c.returning means.bare means.writes) h)

  pub caused_inside : IsWholeIn text (length params) (understood old.now.schema text)
      → ExecutesInside 0 text params old new (Err e) → IsCause old new e
  caused_inside whole (inl h) = caused whole h.0
  caused_inside whole (inr h) = absurd (stays 0 text params old whole h.0)

-- why a statement of a transaction is refused
pub refused_change : {S : Type 0} (g : Ghosts S) (old new : Held S) (text : List ℕ) (params : Row)
    (Fits : Database → Type 0) → IsSureChange text params Fits → IsUnderWay g old
    → HasCleanDisk (state g old) → Fits (state g old).now
    → (e : Error) → ExecutesInside 0 text params (state g old) (state g new) (Err e) → IsRefusal g old new e
refused_change g old new text params Fits sure way clean fits e h =
    let under = way clean in
    caused_inside text params (state g old) (state g new) e under.0
    (λ stop stops. sure.never old.step_limit (state g old).now stop under.2 under.3 fits stops)
    (sure.means (state g old).now.schema under.2.schema) h

-- a text that is not prepared is not run
not_run : (text : List ℕ) (params : Row) (old new : State) (e : Error) → IsTrue new.is_open
    → (IsTrue old.is_open → IsWholeIn text (length params) (understood old.now.schema text))
    → IsNotRun old new text params e → IsCause old new e
unfolding IsNotRun
not_run text params old new e live whole (inl h) =
    absurd (is_statement text params old e (whole h.1.0.was_open) h.0)
not_run text params old new e live whole (inr (cause, is, h, back, _)) =
    by_store old new e cause is h (back.was_open live)

pub refused_unprepared : {S : Type 0} (g : Ghosts S) (old new : Held S) (text : List ℕ) (params : Row)
    (Fits : Database → Type 0) → IsSureChange text params Fits
    → Holds g old IsDesk → HasCleanDisk (state g old) → IsTrue (state g new).is_open
    → (e : Error) → IsNotRun (state g old) (state g new) text params e → IsRefusal g old new e
refused_unprepared g old new text params Fits sure ready clean live e =
    not_run text params (state g old) (state g new) e live
    (λ was. sure.means (state g old).now.schema (ready clean was).schema)

-- a text that is this command stops where the command does
pub stop_did : (text : List ℕ) (params : Row) (limit : Option ℕ) (old : Database) (stop : Option Error)
    → IsDesk old → (command : Command) → IsCommand text command
    → MayStop text (understood old.schema text) params limit old stop
    → Does limit enforced params (record { schema = desk_in old.schema; trees = old.trees })
    (statement_of text (understood (desk_in old.schema) text)) None command (Err stop)
stop_did text params limit old stop desk command known stops =
    let here = desk_in old.schema in
    subst (λ s. Does limit enforced params (record { schema = s; trees = old.trees })
    (statement_of text (understood here text)) None command (Err stop)) desk.schema.is
    (by_command (understood here text) (known (beside_of old.schema)).is
    (subst (λ s. MayStop text (understood s text) params limit old stop) desk.schema.is stops))
  where
    by_command : (r : Result Compiled CompileError) → command_of r ≡ command
        → MayStop text r params limit old stop
        → Does limit enforced params old (statement_of text r) None command (Err stop)
    by_command (Ok c) is h =
        subst (λ k. Does limit enforced params old (text_of text c) None k (Err stop)) is h
    by_command (Err e) is h = absurd h

pub sure_change : (text : List ℕ) (params : Row) (Fits : Database → Type 0) (command : Command)
    → IsCommand text command → IsWrite command
    → ((beside : Beside) → length params ≡ names_in (understood (desk_with beside) text))
    → ((beside : Beside) → length text ≤ tail_of (understood (desk_with beside) text))
    → ((limit : Option ℕ) (db : Database) (stop : Option Error) → IsDesk db → IsDatabase db → Fits db
    → Does limit enforced params (record { schema = desk_in db.schema; trees = db.trees })
    (statement_of text (understood (desk_in db.schema) text)) None command (Err stop)
    → IsAtLimit limit stop)
    → IsSureChange text params Fits
sure_change text params Fits command known writes given whole never = record {
  means = λ schema desk.
      let beside = beside_of schema in
      subst (λ s. IsWholeIn text (length params) (understood s text)) (sym desk.is)
      (whole_in text _ (understood (desk_with beside) text) command (known beside).is (known beside).plain
      writes
      (given beside) (whole beside));
  never = λ limit db stop desk sound fits stops. never limit db stop desk sound fits
      (stop_did text params limit db stop desk command known stops);
}
