-- A loop that adds a row at each turn.
use Rattle.std.proofs.Common.{◌≡◌, inl, inr, IsTrue, ℕ, List, [], ◌∷◌, ◌++◌, refl, sym, ap, subst, ◌∙◌, arith, append_assoc, Result, Ok, Err}
use Rattle.std.specs.Result.{IsErrAnd}
use Rattle.std.specs.List.Sorted.{IsPermutation}
use Rattle.std.proofs.lemmas.List.Sorted.{IsPermutation-refl, IsPermutation-cons, IsPermutation-trans, IsPermutation-middle}
use Rattle.sqlite.specs.Order.{Row}
use Rattle.sqlite.specs.Tree.{Trees}
use Rattle.sqlite.specs.Store.{Ghosts}
use Rattle.sqlite.specs.State.{State, HasCleanDisk, IsUnchanged, IsNotRun, KeepsCommit, Survives}
use Rattle.sqlite.specs.Effect.{Database, IsDatabase}
use Rattle.sqlite.specs.declared.error.Error.{Error}
use Rattle.sqlite.specs.Held.{Held, state}
use Rattle.desk_sql.specs.Rows.{IsDesk, Tables, tables_of, AddsVolume, AddsSpan}
use Rattle.desk_sql.specs.Effects.{Makes, IsUnderWay, Remembers, Holds}
use Rattle.desk_sql.specs.Statements.{IsRefusal}
use Rattle.desk_sql.proofs.lemmas.Rowid.{refusal_on}
use Rattle.desk_sql.proofs.lemmas.Leaving.{remembers_itself, remembers_survived, remembers_then}
use Rattle.desk_changes.specs.RowChanges.{AddsVolumes, AddsSpans}
use Rattle.desk_sql.specs.Queries.{IsChanged}
use Rattle.desk_sql.specs.Schema.{beside_of}

pub record HasAdded {S : Type 0} (g : Ghosts S) (old now : Held S)
    (Changes : Tables → Tables → Type 0) : Type
    0 where
  pub remembered : Remembers g old now
  pub made : HasCleanDisk (state g now) → Makes g old now Changes

pub begins : {S : Type 0} (g : Ghosts S) (old : Held S) (Changes : Tables → Tables → Type 0)
    → ((t : Tables) → Changes t t) → IsUnderWay g old → HasAdded g old old Changes
begins g old Changes none under = record {
  remembered = remembers_itself g old;
  made = λ clean. let h = under clean in record {
    was_open = h.0;
    is_open = h.0;
    begun = h.1;
    committed = refl;
    desk = h.2;
    beside = refl;
    sound = h.3;
    changed = none (tables_of (state g old).now.trees);
  };
}

pub goes_on : {S : Type 0} (g : Ghosts S) (old mid new : Held S)
    (Before Step After : Tables → Tables → Type 0)
    → ((a b c : Tables) → Before a b → Step b c → After a c)
    → HasAdded g old mid Before → Remembers g mid new
    → (HasCleanDisk (state g new) → Makes g mid new Step) → HasAdded g old new After
goes_on g old mid new Before Step After joins so_far turn step = record {
  remembered = remembers_then g old mid new so_far.remembered turn;
  made = λ clean.
      let last = step clean in
      let first = so_far.made (omega (arith, turn.doubt, clean)) in
      record {
        was_open = first.was_open;
        is_open = last.is_open;
        begun = last.begun;
        committed = last.committed ∙ first.committed;
        desk = last.desk;
        beside = last.beside ∙ first.beside;
        sound = last.sound;
        changed = joins (tables_of (state g old).now.trees) (tables_of (state g mid).now.trees)
            (tables_of (state g new).now.trees) first.changed last.changed;
      };
}

-- a loop before which a text was prepared, so that the connection is open
pub begins_prepared : {S : Type 0} (g : Ghosts S) (old now : Held S) (Changes : Tables → Tables → Type 0)
    → ((t : Tables) → Changes t t) → Holds g old IsDesk → Holds g old IsDatabase → IsTrue old.in_transaction
    → (HasCleanDisk (state g now) → IsUnchanged (state g old) (state g now))
    → Survives (state g old) (state g now) (λ _. ⊥) → HasAdded g old now Changes
begins_prepared g old now Changes none ready sound begun same last = record {
  remembered = remembers_survived g old now last;
  made = λ clean.
      let h = (same clean).0 in
      record {
        was_open = h.was_open;
        is_open = h.is_open;
        begun = subst (λ b. IsTrue b) (sym h.mode) begun;
        committed = h.committed_is;
        desk = subst IsDesk (sym h.now_is) (ready (omega (arith, last.clean, clean)) h.was_open);
        beside = ap (λ (db : Database). beside_of db.schema) h.now_is;
        sound = subst IsDatabase (sym h.now_is) (sound (omega (arith, last.clean, clean)) h.was_open);
        changed = subst (λ (db : Database). Changes (tables_of (state g old).now.trees)
            (tables_of db.trees)) (sym h.now_is) (none (tables_of (state g old).now.trees));
      };
}

-- the transaction goes on
pub way_on : {S : Type 0} (g : Ghosts S) (old now : Held S) (Changes : Tables → Tables → Type 0)
    → HasAdded g old now Changes → IsUnderWay g now
way_on g old now Changes added clean = let made = added.made clean in
    (made.is_open, made.begun, made.desk, made.sound)

-- a turn is refused for a cause since the start
pub refused_on : {S : Type 0} (g : Ghosts S) (old now new : Held S) (Changes : Tables → Tables → Type 0)
    → HasAdded g old now Changes → (e : Error) → IsRefusal g now new e → IsRefusal g old new e
refused_on g old now new Changes added = refusal_on g old now new added.remembered.faults
    added.remembered.limit

pub keeps_unprepared : (old new : State) (text : List ℕ) (params : Row) (e : Error)
    → IsNotRun old new text params e → KeepsCommit old new
unfolding IsNotRun
keeps_unprepared old new text params e (inl h) = record {
  was_open = λ live. h.1.0.was_open;
  committed = λ live. h.1.0.committed_is;
}
keeps_unprepared old new text params e (inr h) = record {
  was_open = λ live. h.3.was_open live;
  committed = λ live. (h.3.undone live).1;
}

more_added : (rows : List Row) (row : Row) (old mid new : List Row) → IsPermutation (rows ++ old) mid
    → IsPermutation (row ∷ mid) new → IsPermutation ((rows ++ row ∷ []) ++ old) new
more_added rows row old mid new first last =
    subst (λ xs. IsPermutation xs new) (sym (append_assoc rows (row ∷ []) old))
    (IsPermutation-trans _ _ _ (IsPermutation-middle rows row old)
    (IsPermutation-trans _ _ _ (IsPermutation-cons row _ _ first) last))

pub no_volumes : (t : Tables) → AddsVolumes [] [] t t
no_volumes t = (IsPermutation-refl t.volumes, IsPermutation-refl t.covers, refl)

pub more_volumes : (rows covers : List Row) (row cover : Row) (all all_covers : List Row)
    → all ≡ rows ++ row ∷ [] → all_covers ≡ covers ++ cover ∷ [] → (a b c : Tables)
    → AddsVolumes rows covers a b → AddsVolume row cover b c → AddsVolumes all all_covers a c
more_volumes rows covers row cover all all_covers is are a b c first last = (
  subst (λ xs. IsPermutation (xs ++ a.volumes) c.volumes) (sym is)
      (more_added rows row a.volumes b.volumes c.volumes first.0 last.0),
  subst (λ xs. IsPermutation (xs ++ a.covers) c.covers) (sym are)
      (more_added covers cover a.covers b.covers c.covers first.1 last.1),
  last.2 ∙ ap (λ (t : Tables). record t { volumes = c.volumes; covers = c.covers }) first.2,
)

pub no_spans : (t : Tables) → AddsSpans [] t t
no_spans t = (IsPermutation-refl t.spans, refl)

pub more_spans : (rows : List Row) (row : Row) (all : List Row) → all ≡ rows ++ row ∷ []
    → (a b c : Tables)
    → AddsSpans rows a b → AddsSpan row b c → AddsSpans all a c
more_spans rows row all is a b c first last = (
  subst (λ xs. IsPermutation (xs ++ a.spans) c.spans) (sym is)
      (more_added rows row a.spans b.spans c.spans first.0 last.0),
  last.1
      ∙ ap (λ (t : Tables). record t { spans = c.spans }) first.1,
)

-- ---- what a loop comes to

module _ {S V : Type 0} (g : Ghosts S) (old : Held S) {Fits : Database → Type 0}
    {Takes : Trees → Trees → Type 0}
  where
    -- all rows were added
    pub all_changed : {v : V} {Changes : Tables → Tables → Type 0} (new : Held S) → HasAdded g old new Changes
        → (HasCleanDisk (state g new) → Takes (state g old).now.trees (state g new).now.trees)
        → IsChanged g old new (Ok v) Changes Fits Takes
    all_changed new added room = record {
      done = added.made;
      undone = λ clean. tt;
      cause = λ way fits clean. tt;
      room = room;
      remembered = added.remembered;
    }

    -- a row is refused, after those before it; a `?` hands that on
    pub refused_changed : {Before Changes : Tables → Tables → Type 0} (mid new : Held S) (r : Result V Error)
        (e : Error) → IsErrAnd r (λ fault. fault ≡ e) → HasAdded g old mid Before → Remembers g mid new
        → (HasCleanDisk (state g new) → KeepsCommit (state g mid) (state g new))
        → (Fits (state g old).now → HasCleanDisk (state g new) → IsRefusal g old new e)
        → IsChanged g old new r Changes Fits Takes
    refused_changed mid new (Ok v) e is added last undone refused = absurd is
    refused_changed mid new (Err f) e is added last undone refused = record {
      done = λ clean. tt;
      undone = λ clean.
          let before = added.made (omega (arith, last.doubt, clean)) in
          record {
            was_open = λ live. before.was_open;
            committed = λ live. (undone clean).committed live ∙ before.committed;
          };
      cause = λ way fits clean. subst (IsRefusal g old new) (sym is) (refused fits clean);
      room = λ clean. tt;
      remembered = remembers_then g old mid new added.remembered last;
    }
