-- Why a query of whole tables is refused.
use Rattle.std.proofs.Common.{◌≡◌, arith, ◌⊎◌, inl, inr, ℕ, List, [], append-nil, None, Some, Option, Ok, Err, Result, IfOk, Bool, if◌then◌else◌, refl, sym, ap, subst, ◌∙◌, IsTrue, true, false, true≢false, IfErr}
use Rattle.std.specs.Prelude.{IsSome}
use Rattle.sqlite_disk.specs.Disk.{MoreFaults}
use Rattle.sqlite.specs.Order.{Row}
use Rattle.sqlite_trees.specs.declared.error.StoreError.{StoreError}
use Rattle.sqlite_trees.specs.declared.error.StoreError.TheVariants.{OutOfMemory, Io, Corrupt, Full, Broken, Unstorable}
use Rattle.sqlite_resolve.specs.declared.compiled.Compiled.{Compiled}
use Rattle.sqlite_resolve.specs.declared.error.CompileError.{CompileError}
use Rattle.sqlite_schema.specs.declared.command.Returning.{Returning}
use Rattle.sqlite.specs.declared.error.Error.{Error}
use Rattle.sqlite.specs.declared.error.Error.TheVariants.{SqliteFailure}
use Rattle.sqlite.specs.declared.error.ErrorCode.TheVariants as code
use Rattle.sqlite.specs.Clock.{timed}
use Rattle.sqlite.specs.Effect.{Database, RefusesToRead}
use Rattle.sqlite.specs.Given.{IsPlain}
use Rattle.sqlite.specs.Listing.{understood, reads_listing, IsSourceOf}
use Rattle.sqlite.specs.State.{State, IsUnchanged, Survives, HasCleanDisk, Shown, HasCause, store_error, IsNoStatement, IsNotRun, FailsToQuery, FailsToShow}
use Rattle.sqlite.specs.Store.{Ghosts}
use Rattle.sqlite.specs.Held.{Held, state}
use Rattle.sqlite.specs.Schema.{Schema}
use Rattle.desk_sql.specs.declared.opening.finding.TablesPresent.{TablesPresent}
use Rattle.desk_sql.specs.declared.opening.numbers.DeskTable.{DeskTable}
use Rattle.desk_sql.specs.declared.reading.whole.WholeTable.{WholeTable}
use Rattle.desk_sql.specs.Queries.{table_read, table_in, key_cells, rows_read}
use Rattle.desk_sql.specs.Schema.{HasTable, has_table, is_packed}
use Rattle.desk_sql.specs.Effects.{Holds}
use Rattle.sqlite.specs.Tree.{Trees}
use Rattle.desk_sql.specs.Rows.{IsDesk, Lists, tables_of, tables_in, tables_at}
use Rattle.desk_sql.specs.Statements.{SelectsAll, NeverRefuses, IsSure, IsSureFor, IsSureCommand, IsSureGiven, IsSureMeaning, IsRefusal}
use Rattle.desk_sql.proofs.lemmas.Read.{shown_read, sure_plain}

-- the cause, of two states
abbrev pub IsCause : State → State → Error → Type 0
IsCause old new e = (e ≡ SqliteFailure code.OutOfMemory)
    ⊎ (MoreFaults old.faults new.faults ⊎ ((e ≡ SqliteFailure code.OperationInterrupted)
    × IsSome old.step_limit))

-- the store failed
pub by_store : (old new : State) (e : Error) (cause : StoreError) → e ≡ store_error cause
    → HasCause old new ⊥ cause → IsTrue old.is_open → IsCause old new e
by_store old new e OutOfMemory is h live = inl is
by_store old new e Io is h live = inr (inl h)
by_store old new e Corrupt is h live = inr (inl h)
by_store old new e Full is h live = inr (inl h)
by_store old new e Broken is h live = absurd (true≢false (sym live ∙ h))
by_store old new e Unstorable is h live = absurd h

pub sure_at : (schema : Schema) (text : List ℕ) (params : Row) (r : Result Compiled CompileError)
    (c : Compiled) → r ≡ Ok c → IsSureMeaning schema text params r → IsSureCommand schema text params c
sure_at schema text params r c is sure = subst (IsSureMeaning schema text params) is sure

-- the text is a statement
is_statement : (text : List ℕ) (params : Row) (old : State) (e : Error)
    → IsSureMeaning old.now.schema text params (understood old.now.schema text)
    → ¬ IsNoStatement old text params e
is_statement text params old e sure (inl (fault, is, _)) =
    absurd (subst (IsSureMeaning old.now.schema text params) is sure)
is_statement text params old e sure (inr (c, is, inl (short, _))) =
    short (sure_at old.now.schema text params _ c is sure).whole
is_statement text params old e sure (inr (c, is, inr (inl (other, _)))) =
    other (sure_at old.now.schema text params _ c is sure).given
is_statement text params old e sure (inr (c, is, inr (inr (timed, _)))) =
    timed (sure_at old.now.schema text params _ c is sure).timeless

-- what is read refuses
by_rows : (text : List ℕ) (old new : State) (c : Compiled) (given params : Row) (e : Error)
    (r : Option Returning)
    → r ≡ None → given ≡ params → NeverRefuses old.now.schema c.command params
    → reads_listing old.now.schema text ≡ false → FailsToShow old new text c given e r
    → IsCause old new e
by_rows text old new c given params e None none same never unlisted (db, source, refuses, _) =
    let now : db ≡ old.now = subst (λ b. IsSourceOf b old.now db) unlisted source in
    inr (inr (never old.step_limit db e (ap (λ (d : Database). d.schema) now)
    (subst (λ ps. RefusesToRead old.step_limit c.command db ps e) same refuses)))
by_rows text old new c given params e (Some what) none same never unlisted h = absurd cc

timed_none : (params : Row) (formats : _) (now : ℕ) → formats ≡ [] → timed params formats now ≡ params
timed_none params formats now none = ap (λ f. timed params f now) none ∙ append-nil params

pub was_shown : (text : List ℕ) (old new : State) (c : Compiled) (params : Row) (e : Error)
    (r : Option Returning)
    → IsTrue new.is_open → FailsToShow old new text c params e r → IsTrue old.is_open
was_shown text old new c params e None live h = h.3.0.was_open
was_shown text old new c params e (Some what) live (inl h) = h.1.0.was_open
was_shown text old new c params e (Some what) live (inr h) = h.3.was_open live

pub failed : (text : List ℕ) (params : Row) (old new : State) (e : Error)
    → (IsTrue old.is_open → IsSureGiven old.now.schema text params) → IsTrue new.is_open
    → FailsToQuery text params old new e → IsCause old new e
unfolding FailsToQuery IsNotRun
failed text params old new e sure live (inl (inl h)) =
    absurd (is_statement text params old e (sure h.1.0.was_open).means h.0)
failed text params old new e sure live (inl (inr (cause, is, h, back, _))) =
    by_store old new e cause is h (back.was_open live)
failed text params old new e sure live (inr (c, it, h)) =
    let here = sure (was_shown text old new c _ e c.returning live h) in
    let means = sure_at old.now.schema text params _ c it.is here.means in
    by_rows text old new c _ params e c.returning means.bare
    (timed_none params c.formats it.now means.timeless) means.never here.unlisted h

-- sure in the schema that there is
abbrev pub KnownSure : {S : Type 0} → Ghosts S → Held S → List ℕ → Row → Type 0
KnownSure g h text params = Holds g h (λ (db : Database). IsSureGiven db.schema text params)

-- over a desk's tables
pub sure_here : {S : Type 0} (g : Ghosts S) (h : Held S) (text : List ℕ) (params : Row) → Holds g h IsDesk
    → IsSureFor text params → KnownSure g h text params
sure_here g h text params ready sure clean live = sure (state g h).now.schema (ready clean live).schema

-- a text that shows rows, if the schema is the one that there is
abbrev pub KnownPlain : {S : Type 0} → Ghosts S → Held S → List ℕ → Type 0
KnownPlain g h text = Holds g h (λ (db : Database). IsPlain (understood db.schema text))

pub plain_if : {S : Type 0} (g : Ghosts S) (h : Held S) (text : List ℕ) (params : Row)
    → KnownSure g h text params → KnownPlain g h text
plain_if g h text params sure clean live = sure_plain (state g h).now.schema text params (sure clean live)

-- a query of a connection
pub refused : {S V : Type 0} (g : Ghosts S) (old new : Held S) (text : List ℕ)
    → KnownSure g old text [] → HasCleanDisk (state g old) → (r : Result V Error)
    → IfErr r (FailsToQuery text [] (state g old) (state g new)) → IsTrue (state g new).is_open
    → IfErr r (IsRefusal g old new)
refused g old new text sure clean (Ok v) fails live = tt
refused g old new text sure clean (Err e) fails live =
    failed text [] (state g old) (state g new) e (sure clean) live fails

-- a text that is not prepared is not run
pub refused_unprepared : {S : Type 0} (g : Ghosts S) (old new : Held S) (text : List ℕ) (params : Row)
    → KnownSure g old text params → HasCleanDisk (state g old) → (e : Error)
    → IsNotRun (state g old) (state g new) text params e → IsTrue (state g new).is_open
    → IsRefusal g old new e
unfolding FailsToQuery
refused_unprepared g old new text params sure clean e not_run live =
    failed text params (state g old) (state g new) e (sure clean) live (inl not_run)

-- a query that was prepared before
pub refused_after : {S V : Type 0} (g : Ghosts S) (old mid new : Held S) (sql text : List ℕ)
    → KnownSure g old sql [] → HasCleanDisk (state g old) → HasCleanDisk (state g mid)
    → IsUnchanged (state g old) (state g mid) → text ≡ sql
    → Survives (state g old) (state g mid) (λ _. ⊥) → (r : Result V Error)
    → IfErr r (FailsToQuery text [] (state g mid) (state g new)) → IsTrue (state g new).is_open
    → IfErr r (IsRefusal g old new)
refused_after g old mid new sql text sure start early same is last (Ok v) fails live = tt
refused_after {V = V} g old mid new sql text sure start early same is last (Err e) fails live =
    let here : IsSure (state g mid).now.schema sql =
    subst (λ (db : Database). IsSure db.schema sql) (sym same.0.now_is) (sure start same.0.was_open) in
    elim (refused {V = V} g mid new sql (λ clean live. here) early (Err e)
    (subst (λ t. FailsToQuery t [] (state g mid) (state g new) e) is fails) live) [
      | inl memory ↦ inl memory
      | inr (inl disk) ↦ inr (inl (omega (arith, last.counts, disk)))
      | inr (inr steps) ↦ inr (inr (steps.0, subst IsSome last.limit steps.1))
    ]

-- what is shown was selected
pub all_selected : (table : DeskTable) (text : List ℕ) (cells : List ℕ) (wanted : Trees → List Row)
    → SelectsAll table text cells wanted → (old new : State) (rows : List Row) → HasTable table old.now
    → Shown text [] old new rows → Lists cells (wanted old.now.trees) rows
all_selected table text cells wanted known old new rows has h =
    let sure = known.sure old.now has in
    known.rows old.now rows has
    (shown_read text [] old new rows refl (sure_plain old.now.schema text [] sure) sure.unlisted h)

-- ---- tables that may not be made

-- a query of a table that stands in one tree
pub one_tree : (whole : WholeTable) (table : DeskTable) (text : List ℕ) (cells : List ℕ)
    → ((packed : Bool) → table_in whole packed ≡ table)
    → ((packed : Bool) (db : Trees) → rows_read whole (tables_in packed db) ≡ rows_read whole (tables_of db))
    → SelectsAll table text cells (λ db. rows_read whole (tables_of db)) → (packed : Bool)
    → SelectsAll (table_in whole packed) text cells (λ db. rows_read whole (tables_in packed db))
one_tree whole table text cells is same known packed = record {
  sure = λ db has. known.sure db (subst (λ t. HasTable t db) (is packed) has);
  rows = λ db shown has h. subst (λ rows. Lists cells rows shown) (sym (same packed db.trees))
      (known.rows db shown (subst (λ t. HasTable t db) (is packed) has) h);
}

-- a query of a table that stands in another tree in a packed file
pub two_trees : (P : Bool → Type 0) → P false → P true → (packed : Bool) → P packed
two_trees P one two false = one
two_trees P one two true = two

pub part_at : (whole : WholeTable) (made : TablesPresent) (db : Trees) → rows_read whole (tables_at made db)
    ≡ (if has_table made (table_in whole (is_packed made))
    then rows_read whole (tables_in (is_packed made) db)
    else [])
part_at whole made db = grind arith

pub read_as : (whole : WholeTable) (made : TablesPresent) (db : Trees)
    → has_table made (table_in whole (is_packed made)) ≡ true
    → rows_read whole (tables_in (is_packed made) db) ≡ rows_read whole (tables_at made db)
read_as whole made db there = sym (part_at whole made db
    ∙ ap (λ b. if b then rows_read whole (tables_in (is_packed made) db) else []) there)

-- what a table that is made shows is its part of what is made so far
pub read_at : {V : Type 0} (whole : WholeTable) (made : TablesPresent) (there : Bool)
    → has_table made (table_in whole (is_packed made)) ≡ there
    → (items : V → List Row) (db : Trees) (r : Result V Error)
    → IfOk r (λ v. Lists (key_cells (table_read whole))
    (if there then rows_read whole (tables_in (is_packed made) db) else []) (items v))
    → IfOk r (λ v. Lists (key_cells (table_read whole)) (rows_read whole (tables_at made db)) (items v))
read_at whole made there is items db (Ok v) lists =
    subst (λ rows. Lists (key_cells (table_read whole)) rows (items v))
    (sym (part_at whole made db
    ∙ ap (λ b. if b then rows_read whole (tables_in (is_packed made) db) else []) is)) lists
read_at whole made there is items db (Err e) lists = tt
