-- What a change makes of what stood, from what its transaction came to.
use Rattle.std.proofs.Common.{◌≡◌, inl, inr, ℕ, pos, ◌≤◌, ◌∙◌, None, false, List, ◌∷◌, map, arith, IsTrue, Result, Ok, Err, IfErr, IfOk, OnErr, OnOk, sym, ap, subst}
use Rattle.sqlite_trees.specs.declared.store.Store.{Ghosts}
use Rattle.sqlite_trees.specs.View.{doubt}
use Rattle.sqlite.specs.State.{HasCleanDisk}
use Rattle.sqlite.specs.Tree.{Trees}
use Rattle.sqlite.specs.Effect.{Database}
use Rattle.sqlite.specs.declared.error.Error.{Error}
use Rattle.sqlite.specs.Held.{Held, state}
use Rattle.sqlite_value.specs.declared.value.Value.TheVariants.{Int}
use Rattle.sqlite_value.specs.Order.{Row, column}
use Rattle.desk_sql.specs.Rows.{Tables, PutsOperator, ClosesPlan, tables_of}
use Rattle.desk_changes.specs.RowChanges.{PutsPlan, RemovesPlans}
use Rattle.desk_sql.specs.Effects.{Commits, MayMake, IsMadeOf, OnlyReads}
use Rattle.desk_sql.specs.Queries.{IsCommitted}
use Rattle.desk_sql.specs.Statements.{IsRefusal}
use Rattle.desk_rules.specs.Limits.{is_operator_name}
use Rattle.desk_store.specs.World.{World, IsId, IsPlan, IsContent}
use Rattle.desk_store.specs.Changes.{changed_by, IsFitting, filed_by}
use Rattle.desk_rules.specs.declared.plan.PlanRow.{PlanRow}
use Rattle.desk_store.specs.declared.change.Change.{Change}
use Rattle.desk_store.specs.declared.fault.StoreFault.{StoreFault}
use Rattle.desk_store.specs.declared.change.Change.TheVariants.{Enrol, Put, Close}
use Rattle.row_codec.specs.Tables.{filed_put, id_text, usage_number, aircraft_number, plan_rows, area_rows, area_covers, ArePlanSpanRows, AreTables}
use Rattle.desk_tables.specs.Store.{own_of, ChangesRows, PutsRows, ClosesRows, ClearsRows, IsWithinLimits, BlamesStore, HeldWorld, HasFollowed, IsMade, IsNext}
use Rattle.table_load.specs.Opening.{Stands}
use Rattle.table_load.specs.Files.{HasWorld, MayHave}
use Rattle.desk_tables.proofs.ChangeLemmas.{change_tables, change_content}
use Rattle.desk_tables.proofs.SetLemmas.{operator_is_put}
use Rattle.desk_tables.proofs.PutLemmas.{put_as, put_is_put}
use Rattle.desk_tables.proofs.ClearLemmas.{removal_is_clear}
use Rattle.desk_tables.proofs.CloseLemmas.{close_is_close}
use Rattle.desk_tables.proofs.CauseLemmas.{blamed}
use Rattle.table_load.proofs.lemmas.Store.{kept_stands}

named : (name : List ℕ) (ceiling : ℕ) → IsTrue (is_operator_name name) → IsWithinLimits (Enrol name ceiling)
unfolding IsWithinLimits
named name ceiling valid = valid

enrolled : (name : List ℕ) (ceiling : ℕ) (w : World) (old new : Tables) → IsContent w → AreTables old w
    → PutsOperator name ceiling old new → ChangesRows (Enrol name ceiling) old new
unfolding ChangesRows
enrolled name ceiling w old new h t e = operator_is_put name ceiling w old new h t e

within_put : (operator : List ℕ) (row : PlanRow) → IsPlan row → IsWithinLimits (Put operator row)
unfolding IsWithinLimits
within_put operator row plan = plan

within_close : (operator id : List ℕ) → IsId id → IsWithinLimits (Close operator id)
unfolding IsWithinLimits
within_close operator id valid = valid

put_asked : (operator : List ℕ) (row : PlanRow) (old new : Tables)
    → PutsRows (filed_by operator row) old new
    → ChangesRows (Put operator row) old new
unfolding ChangesRows
put_asked operator row old new e = e

close_asked : (operator id : List ℕ) (old new : Tables) → ClosesRows operator id old new
    → ChangesRows (Close operator id) old new
unfolding ChangesRows
close_asked operator id old new e = e

-- tables that stood for a world stand for what a transaction makes of it, and that is committed, or for the
-- same world; a crash leaves what it could leave before, or what the change makes
pub record MakesStand {S V : Type 0} (g : Ghosts S) (old new : Held S) (r : Result V Error) (w : World)
    (change : Change) : Type 0
  where
    pub ok : OnOk r (Stands g new (changed_by change w))
    pub err : OnErr r (Stands g new w)
    pub crash : MayHave g old new (changed_by change w)
    pub is_open : HasCleanDisk (state g new) → OnOk r (IsTrue (state g new).is_open)
    pub committed : HasCleanDisk (state g new) → OnOk r ((state g new).now ≡ (state g new).committed)
    pub doubt : doubt (state g old).is_clean ≤ doubt (state g new).is_clean
    pub shield : (state g old).IsShielded → (state g new).IsShielded

-- of rows that are the same
pub committed_as : {S V A : Type 0} {g : Ghosts S} {old new : Held S} {r : Result V Error}
    {Fits : Database → Type 0} (Rows : A → Tables → Tables → Type 0) {a b : A} → a ≡ b
    → IsCommitted g old new r (Rows a) Fits → IsCommitted g old new r (Rows b) Fits
committed_as {g = g} {old} {new} {r} {Fits} Rows is it =
    subst (λ x. IsCommitted g old new r (Rows x) Fits) is it

module _ {S : Type 0} (g : Ghosts S) (old new : Held S) (w : World) (stood : Stands g old w) where
  stands_changed : new.in_transaction ≡ false → new.step_limit ≡ old.step_limit
      → doubt (state g old).is_clean ≤ doubt (state g new).is_clean
      → (change : Change) (Rows : Tables → Tables → Type 0)
      → (HasCleanDisk (state g new) → Commits g old new Rows)
      → (HasCleanDisk (state g old) → IsFitting change w) → IsWithinLimits change
      → ((one two : Tables) → HasCleanDisk (state g new) → IsContent w → AreTables one w → Rows one two
      → ChangesRows change one two)
      → Stands g new (changed_by change w)
  stands_changed mode limit rises change Rows done fits within asks = record {
    settled = mode;
    unlimited = limit ∙ stood.unlimited;
    standing = λ clean live.
        let made = done clean in
        let before = stood.standing (omega (arith, rises, clean)) made.was_open in
        let one = tables_of (state g old).now.trees in
        let two = tables_of (state g new).now.trees in
        record {
          content = change_content change w before.content (fits (omega (arith, rises, clean))) within;
          desk = made.desk;
          tables = change_tables change w one two before.content within before.tables
              (asks one two clean before.content before.tables made.changed);
        };
  }

  left_changed : doubt (state g old).is_clean ≤ doubt (state g new).is_clean
      → (change : Change) (Rows : Tables → Tables → Type 0) → MayMake g old new Rows
      → (HasCleanDisk (state g old) → IsFitting change w) → IsWithinLimits change
      → ((one two : Tables) → HasCleanDisk (state g new) → IsContent w → AreTables one w → Rows one two
      → ChangesRows change one two)
      → MayHave g old new (changed_by change w)
  left_changed rises change Rows makes fits within asks clean db left = elim (makes clean db left) [
    | inl before ↦ inl before
    | inr made ↦ inr (has_changed clean db made)
  ] where
    has_changed : HasCleanDisk (state g new) → (db : Trees) → IsMadeOf g old Rows db
        → HasWorld db (changed_by change w)
    has_changed clean db made =
        let start : HasCleanDisk (state g old) = omega (arith, rises, clean) in
        let before = stood.standing start made.was_open in
        let one = tables_of (state g old).now.trees in
        let two = tables_of db in
        record {
          content = change_content change w before.content (fits start) within;
          listed = _;
          desk = made.desk;
          sound = made.sound;
          tables = change_tables change w one two before.content within before.tables
              (asks one two clean before.content before.tables made.changed);
        }

  module _ {Fits : Database → Type 0} (r : Result (Unit {0}) Error) where
    -- a transaction that changed the rows as a change asks made the change
    made_changed : (change : Change) (Rows : Tables → Tables → Type 0) → IsCommitted g old new r Rows Fits
        → (HasCleanDisk (state g old) → IsFitting change w) → IsWithinLimits change
        → ((one two : Tables) → HasCleanDisk (state g new) → IsContent w → AreTables one w → Rows one two
        → ChangesRows change one two)
        → MakesStand g old new r w change
    made_changed change Rows it fits within asks = by_cases r it where
      by_cases : (r : Result (Unit {0}) Error) → IsCommitted g old new r Rows Fits
          → MakesStand g old new r w change
      by_cases (Ok u) it = record {
        ok = stands_changed it.over.mode it.over.limit it.over.doubt change Rows it.done fits within
            asks;
        err = tt;
        crash = left_changed it.over.doubt change Rows it.crash fits within asks;
        is_open = λ clean. (it.done clean).is_open;
        committed = λ clean. (it.done clean).settled;
        doubt = it.over.doubt;
        shield = it.over.shield;
      }
      by_cases (Err e) it = record {
        ok = tt;
        err = kept_stands g old new w stood it.over.mode it.over.limit it.over.doubt it.kept;
        crash = left_changed it.over.doubt change Rows it.crash fits within asks;
        is_open = λ clean. tt;
        committed = λ clean. tt;
        doubt = it.over.doubt;
        shield = it.over.shield;
      }

    pub made_enrolled : (name : List ℕ) (ceiling : ℕ)
        → IsCommitted g old new r (PutsOperator name ceiling) Fits
        → IsTrue (is_operator_name name) → (HasCleanDisk (state g old) → IsFitting (Enrol name ceiling) w)
        → MakesStand g old new r w (Enrol name ceiling)
    made_enrolled name ceiling it valid fits =
        made_changed (Enrol name ceiling) (PutsOperator name ceiling) it fits (named name ceiling valid)
        (λ one two clean h t e. enrolled name ceiling w one two h t e)

    pub made_put : (operator : List ℕ) (row : PlanRow) (text : List ℕ) (volumes covers spans : List Row)
        → text ≡ id_text row.id → volumes ≡ area_rows (filed_by operator row)
        → covers ≡ area_covers (filed_by operator row)
        → ArePlanSpanRows (filed_by operator row) spans → IsPlan row
        → IsCommitted g old new r (PutsPlan (put_as operator text row.priority (usage_number row.usage)
        (aircraft_number row.aircraft) volumes covers spans)) Fits
        → (HasCleanDisk (state g old) → IsFitting (Put operator row) w)
        → MakesStand g old new r w (Put operator row)
    made_put operator row text volumes covers spans is are covers_are span_rows plan it fits =
        let usage = usage_number row.usage in
        let aircraft = aircraft_number row.aircraft in
        let area = area_rows (filed_by operator row) in
        made_changed (Put operator row) (PutsPlan (filed_put (filed_by operator row) spans))
        (committed_as (λ rows. PutsPlan (put_as operator (id_text row.id) row.priority usage aircraft
        area rows spans)) covers_are
        (committed_as (λ rows. PutsPlan (put_as operator (id_text row.id) row.priority usage aircraft
        rows covers spans)) are
        (committed_as (λ t. PutsPlan (put_as operator t row.priority usage aircraft volumes covers spans))
        is it)))
        fits (within_put operator row plan) (λ one two clean h t e. put_asked operator row one two
        (put_is_put (filed_by operator row) w one two spans h plan t span_rows e))

    pub made_cleared : (change : Change) (operator : List ℕ) (ids texts : List (List ℕ))
        → IsWithinLimits change
        → ((one two : Tables) → ClearsRows operator ids one two → ChangesRows change one two)
        → texts ≡ map id_text ids → IsCommitted g old new r (RemovesPlans operator texts) Fits
        → (HasCleanDisk (state g old) → IsFitting change w) → MakesStand g old new r w change
    made_cleared change operator ids texts within asks are it fits =
        made_changed change (RemovesPlans operator (map id_text ids))
        (committed_as (λ ts. RemovesPlans operator ts) are it) fits within
        (λ one two clean h t e. asks one two (removal_is_clear operator ids w one two t e))

    pub made_closed : (operator id : List ℕ) (priority aircraft : ℕ) (head_rows rest : List Row)
        (head : Row)
        → IsId id → column head 2 ≡ Int (pos priority) → column head 4 ≡ Int (pos aircraft)
        → (HasCleanDisk (state g new) → head_rows ≡ plan_rows (own_of operator id w))
        → head_rows ≡ head ∷ rest
        → IsCommitted g old new r (ClosesPlan operator (id_text id) priority aircraft) Fits
        → (HasCleanDisk (state g old) → IsFitting (Close operator id) w)
        → MakesStand g old new r w (Close operator id)
    made_closed operator id priority aircraft head_rows rest head valid at_priority at_aircraft are some it
        fits =
        made_changed (Close operator id) (ClosesPlan operator (id_text id) priority aircraft) it fits
        (within_close operator id valid)
        (λ one two clean h t e. close_asked operator id one two
        (close_is_close operator id head priority aircraft at_priority at_aircraft w one two head_rows rest
        h valid t (are clean) some e))

module _ {S V U : Type 0} (g : Ghosts S) (old new : Held S) (w then next : World) (answer : U) where
  -- the world follows, or stays
  pub followed : (change : Change) (r : Result V Error) (result : Result U StoreFault)
      → MakesStand g old new r w change → HasFollowed r answer result w then next
      → next ≡ changed_by change w → Stands g new then
      × IsMade g (record { held = old; world = w }) (record { held = new; world = then }) result change
  followed change (Ok v) (Ok u) it h is = (
    subst (Stands g new) (sym (h.1 ∙ is)) it.ok,
    record {
      ok = h.1 ∙ is;
      err = tt;
      crash = it.crash;
      is_open = it.is_open;
      committed = it.committed;
      doubt = it.doubt;
      shield = it.shield;
    },
  )
  followed change (Err e) (Err f) it h is = (
    subst (Stands g new) (sym h.1) it.err,
    record {
      ok = tt;
      err = h.1;
      crash = it.crash;
      is_open = λ clean. tt;
      committed = λ clean. tt;
      doubt = it.doubt;
      shield = it.shield;
    },
  )
  followed change (Ok v) (Err f) it h is = let whole = h.0 in cc
  followed change (Err e) (Ok u) it h is = absurd h.0

  -- why it is refused
  pub followed_blamed : (r : Result V Error) (result : Result U StoreFault) → old.step_limit ≡ None
      → HasFollowed r answer result w then next
      → (HasCleanDisk (state g new) → IsTrue (state g new).is_open → IfErr r (IsRefusal g old new))
      → IfErr result (BlamesStore g old new)
  followed_blamed (Ok v) result unlimited h refusal =
      subst (λ r. IfErr r (BlamesStore g old new)) (sym h.0) tt
  followed_blamed (Err e) (Err f) unlimited h refusal = blamed g old new e f unlimited h.0 refusal
  followed_blamed (Err e) (Ok u) unlimited h refusal = absurd h.0

pub followed_value : {V U : Type 0} (P : U → Type 0) (w then next : World) (answer : U) (r : Result V Error)
    (result : Result U StoreFault) → HasFollowed r answer result w then next → P answer → IfOk result P
followed_value P w then next answer (Ok v) result h holds = subst (λ r. IfOk r P) (sym h.0) holds
followed_value P w then next answer (Err e) (Err f) h holds = tt
followed_value P w then next answer (Err e) (Ok u) h holds = absurd h.0

module _ {S : Type 0} (g : Ghosts S) (old mid new : HeldWorld S) (same : mid.world ≡ old.world)
    (reads : OnlyReads g old.held mid.held)
  where
    -- a reader before it leaves no more than before
    pub made_after : {V : Type 0} (r : Result V StoreFault) (change : Change) → IsMade g mid new r change
        → IsMade g old new r change
    made_after r change made = record {
      ok = subst (λ w. OnOk r (new.world ≡ changed_by change w)) same made.ok;
      err = subst (λ w. OnErr r (new.world ≡ w)) same made.err;
      crash = λ clean db left. elim (made.crash clean db left) [
        | inl before ↦ inl (reads.spared (omega (arith, made.doubt, clean)) db before)
        | inr has ↦ inr (subst (λ w. HasWorld db (changed_by change w)) same has)
      ];
      is_open = made.is_open;
      committed = made.committed;
      doubt = omega (arith, reads.doubt, made.doubt);
      shield = λ s. made.shield (reads.shield s);
    }

    pub next_after : (next : World) (change : Change) → IsNext g old next change → IsNext g mid next change
    next_after next change it = record {
      world = it.world ∙ sym (ap (changed_by change) same);
      fits = λ clean. subst (IsFitting change) (sym same) (it.fits (omega (arith, reads.doubt, clean)));
    }
