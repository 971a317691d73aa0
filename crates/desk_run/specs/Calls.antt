-- What the calls of a desk give and preserve, runs of calls, and what is the same for one operator in two.
use Rattle.std.specs.Prelude.{◌≡◌, Option, Some, None, IfSome, Result, Ok, Err, ◌<◌, ◌^◌, ℕ, ℤ, ⊤, List, [], length, map, Bool, false, is_some, MatchOption, ◌⊎◌, codes, ◌+◌, ◌∷◌, take, true, cond}
use Rattle.std.specs.{List.filter, Option.option_map, Ordering.is_eq}
use Rattle.volume4d.specs.Volume.{Block, Point, is_leaf}
use Rattle.desk_rules.specs.declared.{plan.PlanRow.PlanRow, plan.PutCall.PutCall, decide.Effect.Effect, call.Asked.Asked, reply.Reply.Reply, reply.Reply.TheVariants.Cleared}
use Rattle.desk_rules.specs.declared.decide.Effect.TheVariants as effect
use Rattle.desk_rules.specs.Outcome.{said_in}
use Rattle.desk_store.specs.declared.{store.PlanStore.Ghosts, change.Change.Change, fault.StoreFault.StoreFault}
use Rattle.desk_store.specs.{World.LeavesOldOr, World.World, World.text_cmp, Changes.IsHonest, Changes.HasRisen, Changes.Remembers, Changes.changed_by, Changes.IsFitting, Changes.parts_in, Changes.clear}
use Rattle.desk_store.specs.declared.change.Change.TheVariants as change
use Rattle.desk_store.specs.declared.fault.StoreFault.TheVariants as store
use Rattle.desk_run.specs.Verdicts.{DeskWorld, Parts, IsSettled, IsSettledOrSame, world_of, Reported, Ruling, replied, unknown_operator, no_such_plan, is_in, row_asked, ruling_alone, world_with_plans, makes_change, reported_to, step, side, held_in, Side}
use Rattle.desk_run.specs.declared.{fault.DeskFault.DeskFault, fault.DeskFault.TheVariants.Store, fault.DeskFault.TheVariants.OutOfMemory, fault.DeskFault.TheVariants.UnknownOperator, fault.DeskFault.TheVariants.NoSuchPlan, fault.DeskFault.TheVariants.Ceiling, pending.Pending.Pending, run.Ran.Ran, run.Outcome.Outcome}
use Rattle.desk_run.specs.declared.run.Outcome.TheVariants as outcome

-- the fault that a call returned, if it did
abbrev pub fault_in : {V : Type 0} → Result V DeskFault → Option DeskFault
fault_in (Ok v) = None
fault_in (Err fault) = Some fault

module _ {S : Type 0} (g : Ghosts S) (old new : Parts S) where
  -- what a call that may change the desk leaves; `after` is the world it makes, `fault` the returned fault.
  -- After a fault the world is as it was, and a store that failed has counted a fault. A start finds what it
  -- might find before, or `after`; if there was no fault and the world changed, `after` alone
  pub record Leaves (after : DeskWorld) (fault : Option DeskFault) : Type 0 where
    pub same : IfSome fault (λ _. world_of g.content new ≡ world_of g.content old)
    pub cause : fault ≡ Some Store → HasRisen (g.faults old.store) (g.faults new.store)
    pub crash : IsHonest (g.doubt new.store)
        → LeavesOldOr after.content (g.may_leave old.store) (g.may_leave new.store)
    pub kept : IsHonest (g.doubt new.store) → fault ≡ None → IsSettled g.content g.may_leave old
        → IsSettled g.content g.may_leave new
    pub settled : IsHonest (g.doubt new.store) → fault ≡ None
        → IsSettledOrSame g.content g.may_leave old new
    pub remembered : Remembers g.doubt g.faults g.is_shielded old.store new.store

  -- all that a start may find now meets `IsSo`, if the store is honest, and if a start could find nothing but
  -- the desk's content before
  abbrev pub FindsOnly : (Option World → Type 0) → Type 0
  FindsOnly IsSo = IsHonest (g.doubt new.store) → IsSettled g.content g.may_leave old
      → (found : Option World) → g.may_leave new.store found → IsSo found

-- ==== What the calls of a desk give, by the verdict
-- a call without a reply: by the rules the caller is answered `reason` instead, and it leaves `w` as it was
pub record HasNoReply (w : DeskWorld) (moment : ℤ) (asked : Asked) (reason : Reported) : Type 0 where
  pub reported : reported_to w asked.operator moment asked.call ≡ reason
  pub change_is : makes_change w asked.operator moment asked.call ≡ false
  pub left : step w asked.operator moment asked.call ≡ w

-- the result of a call at a moment in the world `w`: a reply, an unknown operator and a missing plan are what
-- the rules say; of `OutOfMemory` and `Store` nothing is said here; `Ceiling` never comes
abbrev pub ReportsReply : DeskWorld → ℤ → Asked → Result Reply DeskFault → Type 0
ReportsReply w moment asked (Ok r) = reported_to w asked.operator moment asked.call ≡ replied (said_in r)
ReportsReply w moment asked (Err UnknownOperator) = HasNoReply w moment asked unknown_operator
ReportsReply w moment asked (Err NoSuchPlan) = HasNoReply w moment asked no_such_plan
ReportsReply w moment asked (Err OutOfMemory) = ⊤
ReportsReply w moment asked (Err Store) = ⊤
ReportsReply w moment asked (Err Ceiling) = ⊥

-- a change, if there is one, meets what a store requires of it
abbrev pub IsFittingIf : World → Option Change → Type 0
IsFittingIf w None = ⊤
IsFittingIf w (Some change) = IsFitting change w

-- the world with a change made, if there is one
abbrev pub world_with : World → Option Change → World
world_with w None = w
world_with w (Some change) = changed_by change w

-- the reply of a prepared call
abbrev pub reply_in : Pending → Reply
reply_in p = p.reply

-- whether a prepared call has a change to commit
abbrev pub has_change : Pending → Bool
has_change p = is_some p.change

-- a prepared call may be committed in the world `w`: its change meets what a store requires of it
abbrev pub CanCommit : DeskWorld → Pending → Type 0
CanCommit w p = IsFittingIf w.content p.change

-- the desk's world `w` after the commit of a prepared call
unfoldable pub world_committed : DeskWorld → Pending → DeskWorld
world_committed w p = record w { content = world_with w.content p.change }

-- a copy of a prepared call: its reply says the same, and its change asks for the same
pub record IsSamePending (p copy : Pending) : Type 0 where
  pub reply : said_in copy.reply ≡ said_in p.reply
  pub change : option_map parts_in copy.change ≡ option_map parts_in p.change

-- the prepared call `p` is what the ruling `a` on a call of `operator` says: it has that reply, it has a
-- change if the ruling replaces the operator's plans, and the change then does so
pub record IsPendingAs (w : World) (operator : List ℕ) (a : Ruling) (p : Pending) : Type 0 where
  pub reported : a.reported ≡ replied (said_in (reply_in p))
  pub change_is : has_change p ≡ is_some a.plans
  pub left : world_with w p.change ≡ world_with_plans w operator a.plans
  pub fits : IsFittingIf w p.change

-- the result of preparing a call of an enrolled operator is what the ruling `a` says: a prepared call, or
-- `NoSuchPlan`; of `OutOfMemory` and `Store` nothing is said here; no other fault comes
abbrev pub IsPreparedFor : World → List ℕ → Ruling → Result Pending DeskFault → Type 0
IsPreparedFor w operator a (Ok p) = IsPendingAs w operator a p
IsPreparedFor w operator a (Err NoSuchPlan) = a ≡ ruling_alone no_such_plan
IsPreparedFor w operator a (Err OutOfMemory) = ⊤
IsPreparedFor w operator a (Err Store) = ⊤
IsPreparedFor w operator a (Err UnknownOperator) = ⊥
IsPreparedFor w operator a (Err Ceiling) = ⊥

-- the change to the store that the effect of the request `asked` is
abbrev pub change_after : Effect → List ℕ → PutCall → Option Change
change_after effect.Nothing operator asked = None
change_after effect.Save operator asked = Some (change.Put operator (row_asked asked))
change_after effect.Shut operator asked = Some (change.Close operator asked.id)

-- the ids of the plans that share a point with an extent
abbrev pub ids_in : Block → List PlanRow → List (List ℕ)
ids_in extent rows = map (λ row. row.id) (filter (is_in extent) rows)

-- a prepared call that removes the plans of these ids and replies their number; without ids it has no change
pub record IsClearing (operator : List ℕ) (ids : List (List ℕ)) (p : Pending) : Type 0 where
  pub reported : length ids < 2 ^ 32 → reply_in p ≡ Cleared (length ids)
  pub asked : MatchOption p.change (ids ≡ []) (λ c. (0 < length ids) × (parts_in c ≡ clear operator ids))

-- the prepared call `p` has the reply and the change of the call at the moment in `w`, and may be committed
pub record IsPending (w : DeskWorld) (moment : ℤ) (asked : Asked) (p : Pending) : Type 0 where
  pub reported : reported_to w asked.operator moment asked.call ≡ replied (said_in (reply_in p))
  pub change_is : has_change p ≡ makes_change w asked.operator moment asked.call
  pub left : world_committed w p ≡ step w asked.operator moment asked.call
  pub fits : CanCommit w p

-- the result of preparing that call; the faults are as in `ReportsReply`
abbrev pub Prepares : DeskWorld → ℤ → Asked → Result Pending DeskFault → Type 0
Prepares w moment asked (Ok p) = IsPending w moment asked p
Prepares w moment asked (Err UnknownOperator) = HasNoReply w moment asked unknown_operator
Prepares w moment asked (Err NoSuchPlan) = HasNoReply w moment asked no_such_plan
Prepares w moment asked (Err OutOfMemory) = ⊤
Prepares w moment asked (Err Store) = ⊤
Prepares w moment asked (Err Ceiling) = ⊥

-- ==== What stops a call
-- a store's fault, as the desk hands it on
abbrev pub fault_of : StoreFault → DeskFault
fault_of store.OutOfMemory = OutOfMemory
fault_of store.Store = Store

-- memory ran out or the store failed: the faults that no rule of planning decides
abbrev pub IsBreakdown : DeskFault → Type 0
IsBreakdown fault = (fault ≡ OutOfMemory) ⊎ (fault ≡ Store)

-- a call that ended in `Store` has raised the store's own count of faults, which `faults_of` gives; `old` and
-- `new` are the store before and after the call
abbrev pub IsStoreFaultCounted : {S : Type 0} → (S → ℕ) → S → S → DeskFault → Type 0
IsStoreFaultCounted faults_of old new e = e ≡ Store → HasRisen (faults_of old) (faults_of new)

-- the fault as a sentence
abbrev pub desk_fault_text : DeskFault → List ℕ
desk_fault_text OutOfMemory = codes "out of memory"
desk_fault_text Store = codes "the store failed"
desk_fault_text UnknownOperator = codes "the operator is not enrolled"
desk_fault_text NoSuchPlan = codes "the operator has no plan with this id"
desk_fault_text Ceiling = codes "the ceiling is above 1,000"

-- ==== Calls answered one after the other
-- what each caller is answered, from the world `w` on; a call is a moment and what is asked
abbrev pub reported_in : DeskWorld → List (ℤ × Asked) → List Reported
reported_in w [] = []
reported_in w (call ∷ calls) =
    reported_to w call.1.operator call.0 call.1.call
    ∷ reported_in (step w call.1.operator call.0 call.1.call) calls

-- the world after all calls
abbrev pub world_after_calls : DeskWorld → List (ℤ × Asked) → DeskWorld
world_after_calls w [] = w
world_after_calls w (call ∷ calls) = world_after_calls (step w call.1.operator call.0 call.1.call) calls

-- an outcome as it is reported
abbrev pub as_reported : Outcome → Reported
as_reported (outcome.Reply reply) = replied (said_in reply)
as_reported outcome.UnknownOperator = unknown_operator
as_reported outcome.NoSuchPlan = no_such_plan

-- the outcome of a call by its result, or the fault that stops the run
abbrev pub call_outcome : Result Reply DeskFault → Result Outcome DeskFault
call_outcome (Ok reply) = Ok (outcome.Reply reply)
call_outcome (Err UnknownOperator) = Ok outcome.UnknownOperator
call_outcome (Err NoSuchPlan) = Ok outcome.NoSuchPlan
call_outcome (Err OutOfMemory) = Err OutOfMemory
call_outcome (Err Store) = Err Store
call_outcome (Err Ceiling) = Err Ceiling

-- a run that `fault` stopped: memory ran out or the store failed, and fewer calls were answered than asked
pub record IsRunStopped (fault : DeskFault) (answered asked : ℕ) : Type 0 where
  pub breakdown : IsBreakdown fault
  pub left_over : answered < asked

-- how far a run came, by why it stopped: all calls were answered, or it was stopped
abbrev pub EndsAt : Option DeskFault → ℕ → ℕ → Type 0
EndsAt None answered asked = answered ≡ asked
EndsAt (Some fault) answered asked = IsRunStopped fault answered asked

-- the result of a run of `calls` from the world `w` to the world `after`: the first calls were answered, and
-- all of them if nothing stopped the run; the outcomes and `after` are what these calls make by the rules
pub record IsRun (w : DeskWorld) (calls : List (ℤ × Asked)) (ran : Ran) (after : DeskWorld) : Type 0 where
  pub reported : map as_reported ran.outcomes.items ≡ reported_in w (take (length ran.outcomes.items) calls)
  pub left : after ≡ world_after_calls w (take (length ran.outcomes.items) calls)
  pub ends : EndsAt ran.stopped (length ran.outcomes.items) (length calls)

-- after a run with n outcomes, a start finds the content after the first n calls, or that after n + 1
abbrev pub IsFoundIn : DeskWorld → List (ℤ × Asked) → ℕ → Option World → Type 0
IsFoundIn w calls n found = (found ≡ Some (world_after_calls w (take n calls)).content)
    ⊎ (found ≡ Some (world_after_calls w (take (n + 1) calls)).content)

-- ==== What an operator sees of a world, and its part of what is said along a list of requests by many
-- the operator owns the same in two worlds, its ceiling and its plans, and the desks' terms are the same
abbrev pub OwnAlike : List ℕ → DeskWorld → DeskWorld → Type 0
OwnAlike o v w = side v o ≡ side w o

-- the greatest priority that other operators hold is the same at each leaf cell, altitude and second
abbrev pub HoldAlike : List ℕ → DeskWorld → DeskWorld → Type 0
HoldAlike o v w = (x : Point) → is_leaf x.leaf ≡ true → held_in v o x ≡ held_in w o x

-- whether a request is the operator's, by the name of its caller, or none
abbrev pub is_from : List ℕ → Option (List ℕ) → Bool
is_from o None = false
is_from o (Some name) = is_eq (text_cmp o name)

-- of the items `xs`, one for each request, those for the requests of the operator `o`; `caller` says whose a
-- request is
abbrev pub beside : {R A : Type 0} → (R → Option (List ℕ)) → List ℕ → List R → List A → List A
beside caller o [] xs = []
beside caller o (r ∷ rs) [] = []
beside caller o (r ∷ rs) (x ∷ xs) =
    cond (is_from o (caller r)) (x ∷ beside caller o rs xs) (beside caller o rs xs)

-- what `f` says of each request and the world just before it; `left` gives the world that a request leaves
abbrev pub along : {R A : Type 0} → (DeskWorld → R → DeskWorld) → (DeskWorld → R → A) → DeskWorld
    → List R → List A
along left f w [] = []
along left f w (r ∷ rs) = f w r ∷ along left f (left w r) rs

-- ==== One operator's part of a run, and what is the same for it in two runs
-- a call with its moment, which comes first
abbrev pub TimedCall : Type 0
TimedCall = ℤ × Asked

-- the name of its operator
abbrev pub caller : TimedCall → Option (List ℕ)
caller call = Some call.1.operator

-- the world that it leaves, from the world `w`
abbrev pub world_after_call : DeskWorld → TimedCall → DeskWorld
world_after_call w call = step w call.1.operator call.0 call.1.call

-- the operator's calls, in their order
abbrev pub calls_of : List ℕ → List TimedCall → List TimedCall
calls_of o calls = beside caller o calls calls

-- what the operator `o` is answered to its calls in the list, from the world `w` on
abbrev pub reported_for : List ℕ → DeskWorld → List TimedCall → List Reported
reported_for o w calls = beside caller o calls (reported_in w calls)

-- the worlds just before each of its calls
abbrev pub met_by_calls : List ℕ → DeskWorld → List TimedCall → List DeskWorld
met_by_calls o w calls = beside caller o calls (along world_after_call (λ u call. u) w calls)

-- what it owns just after each of its calls, and the desk's terms
abbrev pub owned_by_calls : List ℕ → DeskWorld → List TimedCall → List Side
owned_by_calls o w calls =
    beside caller o calls (along world_after_call (λ u call. side (world_after_call u call) o) w calls)

-- two runs are the same for the operator `o`, that of `calls` from `v` and that of `others` from `w`: it is
-- answered the same, and it owns the same after each of its calls and at the end
pub record AreCallsSameFor (o : List ℕ) (v : DeskWorld) (calls : List TimedCall) (w : DeskWorld)
    (others : List TimedCall) :
    Type 0 where
  pub reported : reported_for o v calls ≡ reported_for o w others
  pub owned : owned_by_calls o v calls ≡ owned_by_calls o w others
  pub at_end : OwnAlike o (world_after_calls v calls) (world_after_calls w others)
