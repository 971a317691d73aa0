-- What a change of its store leaves of a desk.
use Rattle.std.proofs.Common.{◌≡◌, ◌∙◌, Some, None, Result, Ok, Err, inl, refl, ap, subst}
use Rattle.std.specs.Result.{IsErrAnd}
use Rattle.desk_store.specs.World.{World, LeavesOldOr, LeavesOnly}
use Rattle.desk_store.specs.declared.store.PlanStore.{Ghosts}
use Rattle.desk_store.specs.declared.fault.StoreFault.{StoreFault}
use Rattle.desk_store.specs.declared.fault.StoreFault.TheVariants as store
use Rattle.desk_store.specs.Changes.{HasRisen, IsCounted, IsHonest, Remembers}
use Rattle.desk_run.specs.Calls.{fault_of, Leaves, fault_in}
use Rattle.desk_run.specs.Verdicts.{Parts, with_content, world_of}
use Rattle.desk_run.specs.declared.fault.DeskFault.{DeskFault}
use Rattle.desk_run.specs.declared.fault.DeskFault.TheVariants.{Store}

pub no_fault : {A : Type 0} {e : A} → None ≡ Some e → ⊥
no_fault h = cc

a_fault : {A : Type 0} {e : A} → Some e ≡ None → ⊥
a_fault h = cc

-- only a store's own fault is handed on as one
store_said : (fault : StoreFault) (e : DeskFault) → e ≡ fault_of fault → Some e ≡ Some Store
    → fault ≡ store.Store
store_said store.OutOfMemory e is said = cc
store_said store.Store e is said = refl

module _ {S : Type 0} (g : Ghosts S) (inside old : Parts S) (new : S) (is : inside ≡ old)
    (after : World → World)
  where
    abbrev MayLeave : Type 0
    MayLeave = IsHonest (g.doubt new)
        → LeavesOldOr (after (g.content inside.store)) (g.may_leave inside.store) (g.may_leave new)

    abbrev Keeps : Type 0
    Keeps = Remembers g.doubt g.faults g.is_shielded inside.store new

    crashed : MayLeave → IsHonest (g.doubt new)
        → LeavesOldOr (after (g.content old.store)) (g.may_leave old.store) (g.may_leave new)
    crashed crash honest = subst
        (λ d. LeavesOldOr (after (g.content d.store)) (g.may_leave d.store) (g.may_leave new)) is
        (crash honest)

    kept : Keeps → Remembers g.doubt g.faults g.is_shielded old.store new
    kept remembered = subst (λ d. Remembers g.doubt g.faults g.is_shielded d.store new) is remembered

    -- the store made the change
    pub leaves_made : MayLeave → (IsHonest (g.doubt new) → LeavesOnly (g.content new) (g.may_leave new))
        → Keeps
        → Leaves g old (record { store = new; terms = inside.terms })
        (record (world_of g.content old) { content = after (g.content old.store) }) None
    leaves_made crash only remembered = record {
      same = tt;
      cause = λ said. absurd (no_fault said);
      crash = crashed crash;
      kept = λ honest none settled. only honest;
      settled = λ honest none. inl (only honest);
      remembered = kept remembered;
    }

    -- it answered a fault, which was handed on
    pub leaves_failed : {V : Type 0} (r : Result V DeskFault) (fault : StoreFault)
        → IsErrAnd r (λ e. e ≡ fault_of fault) → g.content new ≡ g.content inside.store
        → IsCounted g.faults inside.store new fault → MayLeave → Keeps
        → Leaves g old (record { store = new; terms = inside.terms })
        (record (world_of g.content old) { content = after (g.content old.store) }) (fault_in r)
    leaves_failed (Ok v) fault handed same cause crash remembered = absurd handed
    leaves_failed (Err e) fault handed same cause crash remembered = record {
      same = ap (with_content inside.terms) same ∙ ap (world_of g.content) is;
      cause = λ said. subst (λ d. HasRisen (g.faults d.store) (g.faults new)) is
          (cause (store_said fault e handed said));
      crash = crashed crash;
      kept = λ honest none. absurd (a_fault none);
      settled = λ honest none. absurd (a_fault none);
      remembered = kept remembered;
    }
