-- From what a statement that writes does to the rows of the tables.
use Rattle.std.proofs.Common.{◌≡◌, ◌≢◌, ◌⊎◌, inl, inr, ℕ, ◌/◌, ℤ, List, [], ◌∷◌, ◌++◌, length, Bool, true, false, not, cond, ◌&&◌, None, Some, unwrap_or, Option, Ok, Err, Result, refl, sym, ap, subst, ◌∙◌}
use Rattle.std.specs.List.{AllByRecursion}
use Rattle.sqlite.specs.Order.{Row}
use Rattle.sqlite.specs.declared.types.Value.{Value}
use Rattle.sqlite.specs.declared.types.Value.TheVariants.{Null, Int}
use Rattle.sqlite.specs.Term.{Term}
use Rattle.sqlite.specs.Ops.{unary}
use Rattle.sqlite.specs.Cast.{cast, cast_row}
use Rattle.sqlite.specs.Kind.TheVariants.{Integer}
use Rattle.sqlite.specs.Tree.{Trees, rowid, put_row}
use Rattle.sqlite.specs.View.{is_int}
use Rattle.sqlite.specs.Table.{Table}
use Rattle.sqlite.specs.Edit.{Edit, edit_of, is_taken, with_rowid, Applies}
use Rattle.sqlite.specs.Rowids.TheVariants.{Chosen}
use Rattle.sqlite.specs.Command.{Command}
use Rattle.sqlite.specs.Command.TheVariants.{Select, Insert, InsertOr, Update, Delete, CreateTable, CreateIndex, DropTable, DropIndex, Begin, Commit, Rollback, Savepoint, Release, RollbackTo, Rows, Nothing, CreateView, DropView}
use Rattle.sqlite.specs.Source.TheVariants.{Values}
use Rattle.sqlite_schema.specs.declared.schema.Column.{Column}
use Rattle.sqlite_schema.specs.declared.schema.Reference.{Reference}
use Rattle.sqlite_schema.specs.declared.schema.Keys.TheVariants.{Enforced}
use Rattle.sqlite_schema.specs.declared.schema.Schema.{Schema}
use Rattle.sqlite_resolve.specs.declared.compiled.Compiled.{Compiled}
use Rattle.sqlite_resolve.specs.declared.error.CompileError.{CompileError}
use Rattle.sqlite.specs.Calls.{IsWrite}
use Rattle.sqlite.specs.Effect.{Database, IsDatabase, value_rows}
use Rattle.sqlite.specs.Does.{Tally, Does, OnRows, WritesRows}
use Rattle.sqlite.specs.Rows.{Written, Task, Inserts}
use Rattle.sqlite.specs.State.{State, HasCleanDisk, Executes, Runs, Writes, Shows, text_of}
use Rattle.sqlite.specs.Store.{Ghosts}
use Rattle.sqlite.specs.Held.{Held, state}
use Rattle.sqlite.specs.Listing.{understood}
use Rattle.sqlite.proofs.Callers.{IsPlain, command_of, statement_of, runs_as, one_step}
use Rattle.sqlite_rules.proofs.ActionLemmas.{no_works}
use Rattle.desk_sql.specs.Schema.{Beside, StandsApart, beside_of, desk_with, desk_in, table_of}
use Rattle.desk_sql.specs.Rows.{IsDesk, Tables, tables_of}
use Rattle.desk_sql.specs.Effects.{Holds, Makes}
use Rattle.desk_sql.specs.Statements.{IsWriting, MayCount, MayWrite, Changes, enforced}
use Rattle.desk_sql.proofs.lemmas.CommandTexts.{IsCommand}

-- a part that gave a value did not stop on the way
pub went : {B E R : Type 0} {b : B} {Stops : E → Type 0} → ((stop : E) × Stops stop × (Ok b ≡ Err stop))
    ⊎ R
    → R
went (inl stopped) = absurd (let e = stopped.2 in cc)
went (inr on) = on

pub same_value : {B E : Type 0} {a b : B} → ◌≡◌ {A = Result B E} (Ok a) (Ok b) → a ≡ b
same_value e = cc

-- ---- from the text to what is done

-- what ran, if it is a command that writes, wrote
runs_writes : (old new : State) (command : Command) (text : List ℕ) (params : Row) (count : ℕ)
    → IsWrite command → Runs old new None command text params count
    → Writes old new None command text params count
runs_writes old new (Select q names) text params count writing h = absurd writing
runs_writes old new (Insert at from) text params count writing h = h
runs_writes old new (InsertOr at how from clauses) text params count writing h = h
runs_writes old new (Update at q) text params count writing h = h
runs_writes old new (Delete at q) text params count writing h = h
runs_writes old new CreateTable text params count writing h = h
runs_writes old new (CreateIndex at) text params count writing h = h
runs_writes old new (DropTable at) text params count writing h = h
runs_writes old new (DropIndex at) text params count writing h = h
runs_writes old new Begin text params count writing h = absurd writing
runs_writes old new Commit text params count writing h = absurd writing
runs_writes old new Rollback text params count writing h = absurd writing
runs_writes old new (Savepoint name) text params count writing h = absurd writing
runs_writes old new (Release name) text params count writing h = absurd writing
runs_writes old new (RollbackTo name) text params count writing h = absurd writing
runs_writes old new (Rows values width names) text params count writing h = absurd writing
runs_writes old new Nothing text params count writing h = absurd writing
runs_writes old new CreateView text params count writing h = h
runs_writes old new (DropView at) text params count writing h = h

-- what a text did, it may do
pub ran : (text : List ℕ) (params : Row) (old new : State) (schema : Schema) → old.now.schema ≡ schema
    → IsPlain (understood schema text) → IsWriting (understood schema text) → (count : ℕ)
    → Executes text params old new (Ok count)
    → MayWrite text (understood schema text) params old.step_limit old.now new.now
ran text params old new schema has plain writing count h =
    by_command (understood schema text) writing (runs_as text params old new schema has
    (command_of (understood schema text)) refl plain count h) where
      by_command : (r : Result Compiled CompileError) → IsWriting r
          → Runs old new None (command_of r) (statement_of text r) params count
          → MayWrite text r params old.step_limit old.now new.now
      by_command (Ok c) w runs =
          let writes = runs_writes old new c.command (text_of text c) params count w runs in
          (writes.tally, writes.changed)
      by_command (Err e) w runs = absurd w

-- and counts as many rows as it may
pub ran_counting : (text : List ℕ) (params : Row) (old new : State) (schema : Schema)
    → old.now.schema ≡ schema
    → IsPlain (understood schema text) → IsWriting (understood schema text) → (count : ℕ)
    → Executes text params old new (Ok count)
    → MayCount text (understood schema text) params old.step_limit old.now new.now count
ran_counting text params old new schema has plain writing count h =
    by_command (understood schema text) writing (runs_as text params old new schema has
    (command_of (understood schema text)) refl plain count h) where
      by_command : (r : Result Compiled CompileError) → IsWriting r
          → Runs old new None (command_of r) (statement_of text r) params count
          → MayCount text r params old.step_limit old.now new.now count
      by_command (Ok c) w runs =
          let writes = runs_writes old new c.command (text_of text c) params count w runs in
          (writes.tally, writes.changed, writes.counted)
      by_command (Err e) w runs = absurd w

-- and leaves a sound database
pub ran_sound : (text : List ℕ) (params : Row) (old new : State) (schema : Schema)
    → old.now.schema ≡ schema
    → IsPlain (understood schema text) → IsWriting (understood schema text) → (count : ℕ)
    → Executes text params old new (Ok count) → IsDatabase new.now
ran_sound text params old new schema has plain writing count h =
    by_command (understood schema text) writing (runs_as text params old new schema has
    (command_of (understood schema text)) refl plain count h) where
      by_command : (r : Result Compiled CompileError) → IsWriting r
          → Runs old new None (command_of r) (statement_of text r) params count → IsDatabase new.now
      by_command (Ok c) w runs = (runs_writes old new c.command (text_of text c) params count w runs).sound
      by_command (Err e) w runs = absurd w

-- what ran changed the tables so
pub changed : (text : List ℕ) (params : Row) (Change : Tables → Tables → Type 0) → Changes text params Change
    → (old new : State) → IsDesk old.now → (count : ℕ) → Executes text params old new (Ok count)
    → IsDesk new.now × Change (tables_of old.now.trees) (tables_of new.now.trees) × IsDatabase new.now
    × (new.now.schema ≡ old.now.schema)
changed text params Change known old new desk count h =
    let here = old.now.schema in
    let plain = known.plain here desk.schema in
    let writes = known.writes here desk.schema in
    let done = known.tables old.step_limit old.now new.now desk
    (ran text params old new here refl plain writes count h) in
    (done.0, done.1, ran_sound text params old new here refl plain writes count h, done.2)

pub is_writing : (r : Result Compiled CompileError) (command : Command) → command_of r ≡ command
    → IsWrite command → IsPlain r → IsWriting r
is_writing (Ok c) command is writing plain = subst IsWrite (sym is) writing
is_writing (Err e) command is writing plain = absurd plain

-- a text that is this command may do what the command does
pub does_command : (text : List ℕ) (r : Result Compiled CompileError) (params : Row) (limit : Option ℕ)
    (old new : Database) (command : Command) → command_of r ≡ command
    → MayWrite text r params limit old new
    → (tally : Tally) × Does limit enforced params old (statement_of text r) None command (Ok (tally, new))
does_command text (Ok c) params limit old new command is h = (
  h.0,
  subst (λ k. Does limit enforced params old (text_of text c) None k (Ok (h.0, new))) is h.1,
)
does_command text (Err e) params limit old new command is h = absurd h

counts_command : (text : List ℕ) (r : Result Compiled CompileError) (params : Row) (limit : Option ℕ)
    (old new : Database) (count : ℕ) (command : Command) → command_of r ≡ command
    → MayCount text r params limit old new count
    → (tally : Tally) × Does limit enforced params old (statement_of text r) None command (Ok (tally, new))
    × (count ≡ unwrap_or tally.rows 0)
counts_command text (Ok c) params limit old new count command is h = (
  h.0,
  subst (λ k. Does limit enforced params old (text_of text c) None k (Ok (h.0, new))) is h.1,
  h.2,
)
counts_command text (Err e) params limit old new count command is h = absurd h

-- what a text does that counts so many rows
pub did_counting : (text : List ℕ) (params : Row) (limit : Option ℕ) (old new : Database) (count : ℕ)
    → IsDesk old → (command : Command) → IsCommand text command
    → MayCount text (understood old.schema text) params limit old new count
    → (tally : Tally) × Does limit enforced params (record { schema = desk_in old.schema; trees = old.trees })
    (statement_of text (understood (desk_in old.schema) text)) None command (Ok (tally, new))
    × (count ≡ unwrap_or tally.rows 0)
did_counting text params limit old new count desk command known may =
    let here = desk_in old.schema in
    let it = counts_command text (understood here text) params limit old new count command
    (known (beside_of old.schema)).is
    (subst (λ s. MayCount text (understood s text) params limit old new count) desk.schema.is may)
    in (
      it.0,
      subst (λ s. Does limit enforced params (record old { schema = s })
          (statement_of text (understood here text)) None command (Ok (it.0, new))) desk.schema.is it.1,
      it.2,
    )

module _ (text : List ℕ) (params : Row) (limit : Option ℕ) (old new : Database) where
  abbrev pub May : Type 0
  May = MayWrite text (understood old.schema text) params limit old new

  abbrev pub Did : Command → Type 0
  Did command = (tally : Tally) × Does limit enforced params
      (record { schema = desk_in old.schema; trees = old.trees })
      (statement_of text (understood (desk_in old.schema) text)) None command (Ok (tally, new))

  pub did : IsDesk old → (command : Command) → IsCommand text command → May → Did command
  did desk command known may =
      let here = desk_in old.schema in
      let it = does_command text (understood here text) params limit old new command
      (known (beside_of old.schema)).is
      (subst (λ s. MayWrite text (understood s text) params limit old new) desk.schema.is may)
      in (
        it.0,
        subst (λ s. Does limit enforced params (record old { schema = s })
            (statement_of text (understood here text)) None command (Ok (it.0, new))) desk.schema.is it.1,
      )

pub changes_by : (text : List ℕ) (params : Row) (Change : Tables → Tables → Type 0) (command : Command)
    → IsCommand text command → IsWrite command → ((limit : Option ℕ) (old new : Database) → IsDesk old
    → May text params limit old new → IsDesk new × Change (tables_of old.trees) (tables_of new.trees)
    × (new.schema ≡ old.schema))
    → Changes text params Change
changes_by text params Change command known writing gives = record {
  plain = λ schema desk. subst (λ s. IsPlain (understood s text)) (sym desk.is)
      (known (beside_of schema)).plain;
  writes = λ schema desk.
      let here = known (beside_of schema) in
      subst (λ s. IsWriting (understood s text)) (sym desk.is)
      (is_writing (understood (desk_in schema) text) command here.is writing here.plain);
  tables = gives;
}

-- what it writes is what is there then
pub rows_written : (task : Task) (command : Command) (db : Trees) (tally : Tally) (now : Database)
    → OnRows task enforced None command db (Ok (tally, now))
    → (w : Written) × WritesRows task db command (Ok w)
    × (now ≡ record { schema = task.schema; trees = w.trees })
rows_written task command db tally now h =
    let done = went h in
    let tested = went done.2 in
    let returned = went tested.2 in
    (done.0, done.1, ap (λ (p : Tally × Database). p.1) (same_value returned.2))

-- and it counts what is written
pub rows_counted : (task : Task) (command : Command) (db : Trees) (tally : Tally) (now : Database)
    → OnRows task enforced None command db (Ok (tally, now))
    → (w : Written) × WritesRows task db command (Ok w) × (tally.rows ≡ Some (length w.rows))
rows_counted task command db tally now h =
    let done = went h in
    let tested = went done.2 in
    let returned = went tested.2 in
    (done.0, done.1, ap (λ (p : Tally × Database). p.0.rows) (same_value returned.2))

-- ---- INSERT

module _ (limit : Option ℕ) (params : Row) (name : List ℕ) (cols : List Column) (key : List ℕ)
    (refs : List Reference) (tree : ℕ) where
  abbrev pub table_at : Table
  table_at = record (table_of name cols key refs) { tree = tree }

module _ {beside : Beside} (away : StandsApart beside) where
  abbrev pub task_at : Option ℕ → Row → List ℕ → List Column → List ℕ → List Reference → ℕ → Task
  task_at limit params name cols key refs tree = record {
    limit = limit;
    keys = Enforced;
    schema = desk_with beside;
    table = table_at limit params name cols key refs tree;
    params = params;
  }

  module _ (limit : Option ℕ) (params : Row) (name : List ℕ) (cols : List Column) (key : List ℕ)
      (refs : List Reference) (tree : ℕ) where
    abbrev edit_at : Trees → List Row → Edit
    edit_at db sources = edit_of db (table_at limit params name cols key refs tree) [] Chosen 0 sources

    pub insert_applies : (terms : List Term) (width : ℕ) (db : Trees) (w : Written) (source : Row)
        → value_rows (params ++ []) width (length terms / width) terms ≡ source ∷ []
        → Inserts (task_at limit params name cols key refs tree) (Values terms width) db (Ok w)
        → Applies (desk_with beside) Enforced db (edit_at db (source ∷ [])) w.trees
    insert_applies terms width db w source one h =
        let given = went h in
        let counter = went given.2 in
        let written = went counter.2 in
        let counted = went written.2 in
        let rows : given.0 ≡ source ∷ [] = given.1.1 ∙ one in
        let step = one_step (desk_with beside) Enforced db written.0 (edit_at db given.0)
        (no_works (desk_with beside) Enforced 0 tree (edit_at db given.0).news) written.1 in
        let trees : w.trees ≡ written.0 = ap (λ (it : Written). it.trees) (same_value counted.2)
        ∙ same_value counted.1 in
        subst (λ rs. Applies (desk_with beside) Enforced db (edit_at db rs) w.trees) rows
        (subst (Applies (desk_with beside) Enforced db (edit_at db given.0)) (sym trees) step)

  -- one row came to a tree, under a rowid that was free
  pub record Adds (tree : ℕ) (new : Row) (db next : Trees) : Type 0 where
    pub at : next tree ≡ put_row new (db tree)
    pub free : is_taken (db tree) new ≡ false
    pub whole : is_int (rowid new) ≡ true
    pub others : AllByRecursion (λ (t : Table). t.tree ≢ tree → next t.tree ≡ db t.tree)
        (desk_with beside).tables

and_first : (a b : Bool) → (a && b) ≡ true → a ≡ true
and_first true b h = refl
and_first false b h = cc

not_true : (a : Bool) → not a ≡ true → a ≡ false
not_true true h = cc
not_true false h = refl

module _ {beside : Beside} (away : StandsApart beside) where
  pub adds : (name : List ℕ) (cols : List Column) (key : List ℕ) (refs : List Reference) (tree : ℕ)
      (db next : Trees) (source : Row) → Applies (desk_with beside) Enforced db
      (edit_of db (table_at None [] name cols key refs tree) [] Chosen 0 (source ∷ [])) next
      → Adds away tree (with_rowid Chosen (db tree) (cast_row (table_at None [] name cols key refs tree)
      source)) db next
  adds name cols key refs tree db next source h = record {
    at = h.rows;
    free = not_true _ (and_first _ _ h.fresh);
    whole = and_first _ _ h.keyed;
    others = h.tables;
  }

-- ---- what a column makes of a value

either : (b : Bool) (x : Value) → cond b x x ≡ x
either true x = refl
either false x = refl

pub cast_null : cast Integer Null ≡ Null
unfolding unary
cast_null = either _ Null

pub cast_int : (n : ℤ) → cast Integer (Int n) ≡ Int n
unfolding unary
cast_int n = either _ (Int n)

-- ---- the statement's effect, from what its text does

module _ {S : Type 0} (g : Ghosts S) (old new : Held S) (ready : Holds g old IsDesk)
    (clean : HasCleanDisk (state g old)) (Changes : Tables → Tables → Type 0)
    (shows : Shows (state g old) (state g new) (state g new).now (state g old).committed true) where
  pub makes : (IsDesk (state g old).now → IsDesk (state g new).now
      × Changes (tables_of (state g old).now.trees) (tables_of (state g new).now.trees)
      × IsDatabase (state g new).now × ((state g new).now.schema ≡ (state g old).now.schema))
      → Makes g old new Changes
  makes gives =
      let done = gives (ready clean shows.was_open) in
      record {
        was_open = shows.was_open;
        is_open = shows.is_open;
        begun = shows.mode;
        committed = shows.committed_is;
        desk = done.0;
        beside = ap beside_of done.3;
        sound = done.2;
        changed = done.1;
      }
