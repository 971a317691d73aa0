-- Calls: what is prepared and committed is the verdict's.
use Rattle.std.proofs.Common.{◌≡◌, ◌≤◌, ℕ, ℤ, List, length, map, Option, Some, None, Result, Ok, Err, true, refl, sym, ap, subst, ◌∙◌}
use Rattle.std.specs.Prelude.{IsSome, is_some}
use Rattle.desk_rules.specs.declared.plan.PlanRow.{PlanRow}
use Rattle.desk_rules.specs.declared.plan.PutCall.{PutCall}
use Rattle.desk_rules.specs.declared.plan.States.{States}
use Rattle.desk_rules.specs.declared.decide.Standing.{Standing}
use Rattle.desk_rules.specs.declared.terms.Terms.{Terms}
use Rattle.desk_rules.specs.Outcome.{states_of, outcome_under, ReplyParts, said_in}
use Rattle.desk_rules.specs.declared.words.PlanResult.TheVariants as result
use Rattle.desk_rules.specs.declared.words.PlanStatus.TheVariants as status
use Rattle.desk_rules.specs.declared.decide.Verdict.{Verdict}
use Rattle.desk_rules.specs.declared.decide.Effect.{Effect}
use Rattle.desk_rules.specs.declared.decide.Effect.TheVariants as effect
use Rattle.volume4d.specs.Sweep.{Spot}
use Rattle.desk_rules.specs.Conflict.{conflict}
use Rattle.desk_rules.specs.Limits.{max_priority}
use Rattle.desk_store.specs.declared.change.Change.{Change}
use Rattle.desk_store.specs.declared.change.Change.TheVariants as change
use Rattle.desk_store.specs.Changes.{changed_by, IsFitting}
use Rattle.desk_store.specs.World.{World, own, held, held_at, ceiling_of, plans_of, stored_of}
use Rattle.volume4d.specs.Volume.{Block}
use Rattle.desk_rules.specs.declared.call.Call.{Call}
use Rattle.desk_rules.specs.declared.call.Call.TheVariants as call
use Rattle.desk_rules.specs.declared.call.Asked.{Asked}
use Rattle.desk_run.specs.declared.fault.DeskFault.{DeskFault}
use Rattle.desk_run.specs.declared.fault.DeskFault.TheVariants.{OutOfMemory, Store, UnknownOperator, NoSuchPlan, Ceiling}
use Rattle.desk_rules.specs.declared.reply.Reply.TheVariants as reply
use Rattle.desk_rules.specs.declared.reply.Reply.{Reply}
use Rattle.desk_rules.specs.declared.reply.Shown.{Shown}
use Rattle.desk_rules.specs.Outcome as said
use Rattle.desk_rules.specs.declared.reply.PutReply.{PutReply}
use Rattle.desk_run.specs.declared.pending.Pending.{Pending}
use Rattle.desk_run.specs.Verdicts.{DeskWorld, held_in, Reported, Ruling, replied, unknown_operator, no_such_plan, ruling_alone, excess_asked, put_outcome, put_ruling, plans_left, delete_ruling, shown_in, list_ruling, show_ruling, clear_ruling, enrolled_ruling, ruling_under, verdict, world_with_plans, ruling_in, makes_change, reported_to, step}
use Rattle.desk_run.specs.Calls.{HasNoReply, IsPendingAs, IsPreparedFor, IsPending, Prepares, change_after, world_with, world_committed}
use Rattle.desk_run.proofs.OutcomeLemmas.{outcome_counts}
use Rattle.desk_run.proofs.PutLemmas.{change_fits}

-- a verdict by the states of the stored plan, the number of plans and the conflict
pub verdict_is : (terms : Terms) (w : World) (o : List ℕ) (put : PutCall) (given moment : ℤ)
    (stored : Option States) (standing : Standing) (meeting : Option Spot) (v : Verdict) → v
    ≡ outcome_under put given stored standing meeting → given ≡ moment → stored
    ≡ states_of (stored_of put.id (plans_of o w))
    → (stored ≡ None → standing.own_rows ≡ length (plans_of o w))
    → standing.excess ≡ excess_asked terms (plans_of o w) put
    → meeting
    ≡ conflict terms.permitted put.area (held_at (plans_of o w) (held w o) put.id) put.priority → v
    ≡ put_outcome terms (own w o) (held w o) standing.ceiling moment put
unfolding put_outcome own
verdict_is terms w o put given moment stored standing meeting v e m s n over c = e
    ∙ outcome_counts put given stored standing (length (plans_of o w)) meeting n
    ∙ (λ i. outcome_under put (m i) (s i)
    (record { own_rows = length (plans_of o w); ceiling = standing.ceiling; excess = over i }) (c i))

-- a call to which an answer says no more than a word
unanswered_by : (w : DeskWorld) (moment : ℤ) (asked : Asked) (reason : Reported)
    → ruling_in w asked.operator moment asked.call ≡ ruling_alone reason
    → HasNoReply w moment asked reason
unfolding reported_to makes_change step
unanswered_by w moment asked reason e = record {
  reported = ap (λ a. a.reported) e;
  change_is = ap (λ a. is_some a.plans) e;
  left = ap (λ a. record w { content = world_with_plans w.content asked.operator a.plans }) e;
}

-- an operator that is not listed
pub unlisted_is : (w : DeskWorld) (moment : ℤ) (asked : Asked)
    → ceiling_of asked.operator w.content ≡ None → HasNoReply w moment asked unknown_operator
unfolding verdict own
unlisted_is w moment asked e = unanswered_by w moment asked unknown_operator
    (ap (λ c. ruling_under c w.terms (own w.content asked.operator) (held_in w asked.operator)
    moment asked.call) e)

-- the change of an effect leaves the plans that the effect leaves
change_made : (w : World) (o : List ℕ) (put : PutCall) (e : Effect)
    → world_with w (change_after e o put)
    ≡ world_with_plans w o (plans_left e put (plans_of o w))
unfolding changed_by
change_made w o put effect.Nothing = refl
change_made w o put effect.Save = refl
change_made w o put effect.Shut = refl

-- and there is a change where the effect leaves others
change_asked : (o : List ℕ) (put : PutCall) (rows : List PlanRow) (e : Effect)
    → is_some (change_after e o put) ≡ is_some (plans_left e put rows)
change_asked o put rows effect.Nothing = refl
change_asked o put rows effect.Save = refl
change_asked o put rows effect.Shut = refl

-- the reply to a request to plan, and its change, are ready
pub put_ready : (terms : Terms) (w : World) (o : List ℕ) (put : PutCall) (given moment : ℤ)
    (ceiling : ℕ) (v : Verdict)
    (r : PutReply) (c : Option Change) → ceiling_of o w ≡ Some ceiling → ceiling ≤ max_priority → v
    ≡ put_outcome terms (own w o) (held w o) ceiling given put → given ≡ moment → c
    ≡ change_after v.effect o put
    → r ≡ record { result = v.result; status = v.status; note = v.note; meeting = v.meeting }
    → IsPendingAs w o (put_ruling (put_outcome terms (own w o) (held w o) ceiling moment put) put
    (plans_of o w)) (record { reply = reply.Answered r; change = c })
unfolding put_outcome own
put_ready terms w o put given moment ceiling v r c listed low is m change reply_is =
    let u = put_outcome terms (own w o) (held w o) ceiling moment put in
    let v_is : v ≡ u = is ∙ ap (λ t. put_outcome terms (own w o) (held w o) ceiling t put) m in
    let c_is : c ≡ change_after u.effect o put = change ∙ ap (λ x. change_after x.effect o put) v_is in
    record {
      reported = ap (λ x. (put_ruling x put (plans_of o w)).reported) (sym v_is)
          ∙ ap (λ q. replied (said.answered q)) (sym reply_is);
      change_is = ap is_some c_is ∙ change_asked o put (plans_of o w) u.effect;
      left = ap (world_with w) c_is ∙ change_made w o put u.effect;
      fits = rw c_is (change_fits w o put moment terms ceiling
          (conflict terms.permitted put.area (held_at (plans_of o w) (held w o) put.id) put.priority) listed
          low);
    }

-- what is ready for an operator under a ceiling is pending
pending_from : (w : DeskWorld) (moment : ℤ) (asked : Asked) (ceiling : ℕ) (p : Pending)
    → ceiling_of asked.operator w.content ≡ Some ceiling → IsPendingAs w.content asked.operator
    (enrolled_ruling w.terms (own w.content asked.operator) (held_in w asked.operator) ceiling moment
    asked.call) p → IsPending w moment asked p
unfolding reported_to makes_change step verdict own world_committed
pending_from w moment asked ceiling p listed h =
    let o = asked.operator in
    let under : Option ℕ → Ruling =
    λ c. ruling_under c w.terms (own w.content o) (held_in w o) moment asked.call in
    record {
      reported = ap (λ c. (under c).reported) listed ∙ h.reported;
      change_is = h.change_is ∙ sym (ap (λ c. is_some (under c).plans) listed);
      left = ap (λ v. record w { content = v })
          (h.left ∙ sym (ap (λ c. world_with_plans w.content o (under c).plans) listed));
      fits = h.fits;
    }

pub prepares_from : (w : DeskWorld) (moment : ℤ) (asked : Asked) (ceiling : ℕ)
    (r : Result Pending DeskFault) → ceiling_of asked.operator w.content ≡ Some ceiling
    → IsPreparedFor w.content asked.operator (enrolled_ruling w.terms (own w.content asked.operator)
    (held_in w asked.operator) ceiling moment asked.call) r → Prepares w moment asked r
unfolding verdict own
prepares_from w moment asked ceiling (Ok p) listed h = pending_from w moment asked ceiling p listed h
prepares_from w moment asked ceiling (Err NoSuchPlan) listed h =
    unanswered_by w moment asked no_such_plan
    (ap (λ c. ruling_under c w.terms (own w.content asked.operator) (held_in w asked.operator)
    moment asked.call) listed ∙ h)
prepares_from w moment asked ceiling (Err OutOfMemory) listed h = tt
prepares_from w moment asked ceiling (Err Store) listed h = tt
prepares_from w moment asked ceiling (Err UnknownOperator) listed h = absurd h
prepares_from w moment asked ceiling (Err Ceiling) listed h = absurd h

-- a reply that goes with no change is ready
alone_ready : (w : World) (o : List ℕ) (reported : ReplyParts) (r : Reply) → said_in r ≡ reported
    → IsPendingAs w o (ruling_alone (replied reported)) (record { reply = r; change = None })
alone_ready w o reported r e = record { reported = ap replied (sym e); change_is = refl; left = refl; fits = tt }

-- the list of an operator's plans is ready
pub list_ready : (permitted : List ℕ) (w : World) (o : List ℕ) (shown : List Shown) (r : Reply)
    → shown ≡ map (shown_in permitted w o) (plans_of o w) → said_in r ≡ said.plans shown
    → IsPendingAs w o (list_ruling permitted (plans_of o w) (held w o)) (record { reply = r; change = None })
list_ready permitted w o shown r is says = alone_ready w o _ r (says ∙ ap said.plans is)

-- a plan is ready to be shown
pub show_ready : (permitted : List ℕ) (w now : World) (o id : List ℕ) (found : Option PlanRow)
    (row : PlanRow) (shown : Shown) → found ≡ stored_of id (plans_of o w) → found ≡ Some row → now ≡ w
    → shown ≡ shown_in permitted now o row
    → IsPendingAs w o (show_ruling permitted (plans_of o w) (held w o) (stored_of id (plans_of o w)))
    (record { reply = reply.Plan shown; change = None })
show_ready permitted w now o id found row shown stored is same shown_is =
    subst (λ r. IsPendingAs w o (show_ruling permitted (plans_of o w) (held w o) r)
    (record { reply = reply.Plan shown; change = None })) (sym is ∙ stored)
    (alone_ready w o _ (reply.Plan shown)
    (ap said.plan (shown_is ∙ ap (λ v. shown_in permitted v o row) same)))

-- that the desk is ready
pub status_ready : (w : DeskWorld) (moment : ℤ) (asked : Asked) (ceiling : ℕ)
    → ceiling_of asked.operator w.content ≡ Some ceiling → asked.call ≡ call.Status
    → IsPending w moment asked (record { reply = reply.Ready; change = None })
unfolding enrolled_ruling
status_ready w moment asked ceiling listed is =
    pending_from w moment asked ceiling (record { reply = reply.Ready; change = None }) listed
    (subst (λ c. IsPendingAs w.content asked.operator (enrolled_ruling w.terms
    (own w.content asked.operator) (held_in w asked.operator) ceiling moment c)
    (record { reply = reply.Ready; change = None })) (sym is)
    (record { reported = refl; change_is = refl; left = refl; fits = tt }))

-- the closing of a stored plan is ready
pub delete_ready : (w : World) (o id : List ℕ) (found : Option States) → found
    ≡ states_of (stored_of id (plans_of o w))
    → is_some found ≡ true → IsSome (ceiling_of o w)
    → IsPendingAs w o (delete_ruling (plans_of o w) id (stored_of id (plans_of o w)))
    (record {
      reply = reply.Answered (record {
        result = result.Completed;
        status = status.Closed;
        note = None;
        meeting = None;
      });
      change = Some (change.Close o id);
    })
unfolding changed_by IsFitting
delete_ready w o id found e s listed = by_stored (stored_of id (plans_of o w)) refl e where
  by_stored : (r : Option PlanRow) → stored_of id (plans_of o w) ≡ r → found ≡ states_of r
      → IsPendingAs w o (delete_ruling (plans_of o w) id r)
      (record {
        reply = reply.Answered (record {
          result = result.Completed;
          status = status.Closed;
          note = None;
          meeting = None;
        });
        change = Some (change.Close o id);
      })
  by_stored None f g = cc
  by_stored (Some row) f g =
      record { reported = refl; change_is = refl; left = refl; fits = (listed, ap is_some f) }

-- the answers to a request to plan, and to close, are those to the call
pub put_readies : (terms : Terms) (w before : World) (given moment : ℤ) (asked : Asked) (put : PutCall)
    (ceiling : ℕ)
    (r : Result Pending DeskFault) → w ≡ before → given ≡ moment → asked.call ≡ call.Put put
    → IsPreparedFor w asked.operator
    (put_ruling (put_outcome terms (own w asked.operator) (held w asked.operator) ceiling given put) put
    (plans_of asked.operator w)) r → IsPreparedFor before asked.operator
    (enrolled_ruling terms (own before asked.operator) (held before asked.operator) ceiling moment
    asked.call)
    r
unfolding enrolled_ruling own
put_readies terms w before given moment asked put ceiling r same m is h =
    subst (λ v. IsPreparedFor v asked.operator (enrolled_ruling terms (own v asked.operator)
    (held v asked.operator)
    ceiling moment asked.call) r) same
    (subst (λ t. IsPreparedFor w asked.operator (enrolled_ruling terms (own w asked.operator)
    (held w asked.operator)
    ceiling t asked.call) r) m
    (subst (λ c. IsPreparedFor w asked.operator (enrolled_ruling terms (own w asked.operator)
    (held w asked.operator)
    ceiling given c) r) (sym is) h))

-- what is ready for a call of a kind is ready for the call
readies_as : (terms : Terms) (w before : World) (moment : ℤ) (asked : Asked) (kind : Call) (ceiling : ℕ)
    (r : Result Pending DeskFault) → w ≡ before → asked.call ≡ kind
    → IsPreparedFor w asked.operator (enrolled_ruling terms (own w asked.operator) (held w asked.operator)
    ceiling
    moment
    kind) r → IsPreparedFor before asked.operator (enrolled_ruling terms (own before asked.operator)
    (held before asked.operator) ceiling moment asked.call) r
readies_as terms w before moment asked kind ceiling r same is h =
    subst (λ v. IsPreparedFor v asked.operator (enrolled_ruling terms (own v asked.operator)
    (held v asked.operator)
    ceiling moment asked.call) r) same
    (subst (λ c. IsPreparedFor w asked.operator (enrolled_ruling terms (own w asked.operator)
    (held w asked.operator)
    ceiling moment c) r) (sym is) h)

pub list_readies : (terms : Terms) (w before : World) (moment : ℤ) (asked : Asked) (ceiling : ℕ)
    (r : Result Pending DeskFault) → w ≡ before → asked.call ≡ call.List
    → IsPreparedFor w asked.operator (list_ruling terms.permitted (plans_of asked.operator w)
    (held w asked.operator)) r
    → IsPreparedFor before asked.operator (enrolled_ruling terms (own before asked.operator)
    (held before asked.operator)
    ceiling moment asked.call) r
unfolding enrolled_ruling own
list_readies terms w before moment asked ceiling r same is h =
    readies_as terms w before moment asked call.List ceiling r same is h

pub show_readies : (terms : Terms) (w before : World) (moment : ℤ) (asked : Asked) (id : List ℕ)
    (ceiling : ℕ)
    (r : Result Pending DeskFault) → w ≡ before → asked.call ≡ call.Show id
    → IsPreparedFor w asked.operator (show_ruling terms.permitted (plans_of asked.operator w)
    (held w asked.operator)
    (stored_of id (plans_of asked.operator w))) r → IsPreparedFor before asked.operator
    (enrolled_ruling terms (own before asked.operator) (held before asked.operator) ceiling moment
    asked.call)
    r
unfolding enrolled_ruling own
show_readies terms w before moment asked id ceiling r same is h =
    readies_as terms w before moment asked (call.Show id) ceiling r same is h

pub clear_readies : (terms : Terms) (w before : World) (moment : ℤ) (asked : Asked) (extent : Block)
    (ceiling : ℕ)
    (r : Result Pending DeskFault) → w ≡ before → asked.call ≡ call.Clear extent
    → IsPreparedFor w asked.operator (clear_ruling (plans_of asked.operator w) extent) r
    → IsPreparedFor before asked.operator (enrolled_ruling terms (own before asked.operator)
    (held before asked.operator)
    ceiling moment asked.call) r
unfolding enrolled_ruling own
clear_readies terms w before moment asked extent ceiling r same is h =
    readies_as terms w before moment asked (call.Clear extent) ceiling r same is h

pub delete_readies : (terms : Terms) (w before : World) (moment : ℤ) (asked : Asked) (id : List ℕ)
    (ceiling : ℕ)
    (r : Result Pending DeskFault) → w ≡ before → asked.call ≡ call.Delete id
    → IsPreparedFor w asked.operator (delete_ruling (plans_of asked.operator w) id
    (stored_of id (plans_of asked.operator w))) r → IsPreparedFor before asked.operator
    (enrolled_ruling terms (own before asked.operator) (held before asked.operator) ceiling moment
    asked.call)
    r
unfolding enrolled_ruling own
delete_readies terms w before moment asked id ceiling r same is h =
    readies_as terms w before moment asked (call.Delete id) ceiling r same is h
