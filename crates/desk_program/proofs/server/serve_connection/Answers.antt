use Rattle.std.proofs.Common.{◌≡◌, ◌≢◌, ◌∙◌, ◌∷◌, [], IfSome, None, Some, inl, inr, refl, sym, subst}
use Rattle.desk_store.specs.Changes.{IsHonest}
use Rattle.desk_store.proofs.lemmas.Fault.{was_honest}
use Rattle.desk_run.specs.Verdicts.{world_of}
use Rattle.desk_cli.specs.Exits.{enrolment_failure, failure_at}
use Rattle.desk_program.specs.Enrolling.{AreEnrolled, AreEnrolledSoFar, IsOpen}
use Rattle.desk_program.specs.Keeping.{FindsNewEnrolments}
use Rattle.desk_program.specs.Serving.{Grows, arrived, parted}
use Rattle.desk_program.proofs.CauseLemmas.{denied_counted, news_counted, served_counted}
use Rattle.desk_program.proofs.EndLemmas.{reported_breakdown}
use Rattle.desk_program.proofs.KeepingLemmas.{listed_found, news_kept, none_kept, one_kept, unlisted_found, untaken_found}
use Rattle.desk_program.proofs.ServedLemmas.{enrolled_then, not_ok, same_noted, stays, stays_noted, stops}
use Rattle.desk_program.proofs.server.serve_connection.Goals as goal

-- no news are brought
pub returns-in_err-enrolments-clause-kept : goal.returns-in_err-enrolments-clause-kept
returns-in_err-enrolments-clause-kept g c =
    none_kept g.S.PlanStore c.from_residual.result 1 (g.P.Port.traffic c.args.port.now)
    (g.P.Port.traffic c.newly_enrolled.new.self) c.args.desk.now c.in_err-enrolments.ensures.same
    (λ was. not_ok c.from_residual.result c.in_err-enrolments.field-0.0
    (IsOpen (g.P.Port.traffic c.newly_enrolled.new.self).recorded) c.from_residual.ensures.1)
    (stops c.from_residual.result c.in_err-enrolments.field-0.0 c.from_residual.ensures.1 1 [] _
    c.in_err-enrolments.ensures.fault)

pub returns-in_err-enrolments-clause-cause : goal.returns-in_err-enrolments-clause-cause
returns-in_err-enrolments-clause-cause g c =
    denied_counted c.from_residual.result c.in_err-enrolments.field-0.0 _ _ c.from_residual.ensures.1
    c.in_err-enrolments.ensures.fault

-- an operator of the news could not be listed
pub returns-in_err-enrol_new-clause-kept : goal.returns-in_err-enrol_new-clause-kept
returns-in_err-enrol_new-clause-kept g c =
    let honest = IsHonest (g.S.PlanStore.doubt c.enrol_new.new.desk.store) in
    let fault = c.in_err-enrol_new.field-0.0 in
    let newly_enrolled = c.in_ok-enrolments.enrolments.items in
    let w = world_of g.S.PlanStore.content c.args.desk.now in
    let after = world_of g.S.PlanStore.content c.enrol_new.new.desk in
    let before = g.S.PlanStore.may_leave c.args.desk.now.store in
    let now = g.S.PlanStore.may_leave c.enrol_new.new.desk.store in
    news_kept g.S.PlanStore c.from_residual-in_err-enrol_new.result (enrolment_failure fault) newly_enrolled
    (g.P.Port.traffic c.args.port.now) (g.P.Port.traffic c.newly_enrolled.new.self)
    (g.P.Port.traffic c.newly_enrolled.new.self) c.args.desk.now c.enrol_new.new.desk
    c.from_residual-in_err-enrol_new.ensures.1 c.in_ok-enrolments.ensures.brings
    (stays (g.P.Port.traffic c.newly_enrolled.new.self))
    (inl (
      reported_breakdown fault (enrolment_failure fault) refl c.in_err-enrol_new.ensures.fault,
      subst (λ es. AreEnrolledSoFar honest es w after) c.deref.ensures.value c.in_err-enrol_new.ensures.listed,
    ))
    (λ p found may. unlisted_found c.enrol_new.result newly_enrolled w after before now
    (subst (λ es. FindsNewEnrolments c.enrol_new.result es w after before now) c.deref.ensures.value
    (c.enrol_new.ensures.found p)) found fault c.in_err-enrol_new.was may)

pub returns-in_err-enrol_new-clause-cause : goal.returns-in_err-enrol_new-clause-cause
returns-in_err-enrol_new-clause-cause g c =
    news_counted c.from_residual-in_err-enrol_new.result c.in_err-enrol_new.field-0.0 _ _
    c.from_residual-in_err-enrol_new.ensures.1 c.in_err-enrol_new.ensures.cause

-- all are listed, and no connection can be taken
pub returns-in_err-client-clause-kept : goal.returns-in_err-client-clause-kept
returns-in_err-client-clause-kept g c =
    let honest = IsHonest (g.S.PlanStore.doubt c.enrol_new.new.desk.store) in
    let f = c.in_err-client.field-0.0 in
    let newly_enrolled = c.in_ok-enrolments.enrolments.items in
    let w = world_of g.S.PlanStore.content c.args.desk.now in
    let after = world_of g.S.PlanStore.content c.enrol_new.new.desk in
    let before = g.S.PlanStore.may_leave c.args.desk.now.store in
    let now = g.S.PlanStore.may_leave c.enrol_new.new.desk.store in
    news_kept g.S.PlanStore c.from_residual-in_err-client.result f newly_enrolled
    (g.P.Port.traffic c.args.port.now) (g.P.Port.traffic c.newly_enrolled.new.self)
    (g.P.Port.traffic c.take.new.self) c.args.desk.now c.enrol_new.new.desk
    c.from_residual-in_err-client.ensures.1 c.in_ok-enrolments.ensures.brings c.in_err-client.ensures.same
    (inr (
      c.in_err-client.ensures.fault,
      subst (λ es. AreEnrolled honest es w after) c.deref.ensures.value c.in_ok-enrol_new.ensures.listed,
    ))
    (λ p found may. untaken_found c.enrol_new.result newly_enrolled w after before now
    (subst (λ es. FindsNewEnrolments c.enrol_new.result es w after before now) c.deref.ensures.value
    (c.enrol_new.ensures.found p)) found c.in_ok-enrol_new.field-0 c.in_ok-enrol_new.was may)

pub returns-in_err-client-clause-cause : goal.returns-in_err-client-clause-cause
returns-in_err-client-clause-cause g c =
    denied_counted c.from_residual-in_err-client.result c.in_err-client.field-0.0 _ _
    c.from_residual-in_err-client.ensures.1 c.in_err-client.ensures.fault

-- the request of the connection is served
pub returns-clause-kept : goal.returns-clause-kept
returns-clause-kept g c =
    let honest = IsHonest (g.S.PlanStore.doubt c.serve_one-served.new.desk.store) in
    let was = was_honest c.serve_one-served.ensures.remembered.doubt in
    let client = c.in_ok-client.client in
    let newly_enrolled = c.in_ok-enrolments.enrolments.items in
    let bytes = g.P.Input.Read.remaining client.input in
    let unread = g.P.Input.Read.remaining c.serve_one-served.new.input in
    let out = g.P.Output.Write.contents client.output in
    let now = g.P.Output.Write.contents c.serve_one-served.new.output in
    let w = world_of g.S.PlanStore.content c.args.desk.now in
    let listed = world_of g.S.PlanStore.content c.enrol_new.new.desk in
    let before = g.S.PlanStore.may_leave c.args.desk.now.store in
    let mid = g.S.PlanStore.may_leave c.enrol_new.new.desk.store in
    let brings = c.in_ok-enrolments.ensures.brings in
    let taken = c.in_ok-client.ensures.taken in
    let asked = (g.P.Port.traffic c.take.new.self).recorded in
    let closed = (g.P.Port.traffic c.close-closed.new.self).recorded in
    let closes = c.close-closed.ensures.closed in
    one_kept g.S.PlanStore c.exchange_result.result (record {
      newly_enrolled = newly_enrolled;
      arrival = arrived client.moment.second bytes;
      out = out;
      served = c.serve_one-served.result;
      parting = parted unread now c.outcome_of.result;
    }) c.close-closed.result _ _ c.args.desk.now c.enrol_new.new.desk c.serve_one-served.new.desk
    (closes.2 ∙ taken.2 ∙ brings.3)
    (subst (λ v. Grows v (g.P.Port.traffic c.close-closed.new.self).taken
    (arrived client.moment.second bytes ∷ [])) brings.1
    (subst (λ v. Grows (g.P.Port.traffic c.newly_enrolled.new.self).taken v (arrived client.moment.second bytes ∷ []))
    (sym closes.1) taken.0))
    (subst (λ v. Grows v (g.P.Port.traffic c.close-closed.new.self).closed
    (parted unread now c.outcome_of.result ∷ [])) (taken.1 ∙ brings.2) closes.0)
    (subst (λ v. IfSome v (λ partings. out ≡ Some [])) brings.2 c.in_ok-client.ensures.unsent.0)
    c.outcome_of.ensures
    (subst (λ v. Grows (g.P.Port.traffic c.args.port.now).newly_enrolled v (newly_enrolled ∷ []))
    (sym (closes.3 ∙ taken.3)) brings.0) (
      (g.P.Port.traffic c.newly_enrolled.new.self).recorded,
      asked,
      closed,
      record {
        newly_enrolled = brings.4;
        unsent = c.in_ok-client.ensures.unsent.1;
        request = taken.4;
        answer = closes.4;
      },
      same_noted closed (failure_at c.serve_one-served.result ≢ None),
      stays_noted closed,
    )
    (enrolled_then _ honest was newly_enrolled w listed
    (subst (λ es. AreEnrolled (IsHonest (g.S.PlanStore.doubt c.enrol_new.new.desk.store)) es w listed)
    c.deref.ensures.value c.in_ok-enrol_new.ensures.listed))
    c.serve_one-served.ensures.served
    c.exchange_result.ensures c.close-closed.ensures.recorded c.close-closed.ensures.fault
    (λ p found may. listed_found c.enrol_new.result newly_enrolled w listed before mid
    (subst (λ es. FindsNewEnrolments c.enrol_new.result es w listed before mid) c.deref.ensures.value
    (c.enrol_new.ensures.found (was p))) found c.in_ok-enrol_new.field-0 c.in_ok-enrol_new.was may)
    c.serve_one-served.ensures.kept.found

pub returns-clause-cause : goal.returns-clause-cause
returns-clause-cause g c =
    served_counted c.exchange_result.result c.serve_one-served.result c.close-closed.result _ _
    c.close-closed.ensures.fault c.exchange_result.ensures
