use Rattle.std.proofs.Common.{◌∙◌, ap, inl}
use Rattle.desk_store.specs.Changes.{IsHonest}
use Rattle.desk_store.proofs.lemmas.Fault.{was_honest}
use Rattle.desk_run.specs.Verdicts.{world_of}
use Rattle.desk_program.specs.Enrolling.{on_terms, with_operators}
use Rattle.desk_program.proofs.KeepingLemmas.{port_kept, unserved_kept}
use Rattle.desk_program.proofs.ServedLemmas.{still_heard, unserved}
use Rattle.desk_program.proofs.BegunLemmas.{announced_none, announced_same, announced_whole}
use Rattle.desk_program.proofs.CauseLemmas.{counted_later}
use Rattle.desk_program.proofs.server.try_serve.Goals as goal

pub returns-in_err-set_up-clause-printed : goal.returns-in_err-set_up-clause-printed
returns-in_err-set_up-clause-printed g c = announced_none _ _ _ _ c.from_residual.ensures.1

pub returns-in_err-listen-clause-printed : goal.returns-in_err-listen-clause-printed
returns-in_err-listen-clause-printed g c =
    announced_same c.listen.result c.from_residual-in_err-listen.result _ _ _ _ c.in_err-listen.was
    c.from_residual-in_err-listen.ensures.1 c.listen.ensures.printed

pub returns-clause-printed : goal.returns-clause-printed
returns-clause-printed g c = announced_whole _ _ _ _ c.in_ok-listen.ensures.printed

pub returns-in_err-listen-clause-served : goal.returns-in_err-listen-clause-served
returns-in_err-listen-clause-served g c =
    unserved (IsHonest (g.S.PlanStore.doubt c.set_up.new.desk.store)) c.from_residual-in_err-listen.result
    c.in_err-listen.field-0.0 c.args.line.now _ _ (world_of g.S.PlanStore.content c.args.desk.now)
    (world_of g.S.PlanStore.content c.set_up.new.desk) c.from_residual-in_err-listen.ensures.1
    c.in_err-listen.ensures.fault c.in_err-listen.ensures.listens
    (λ h. c.in_ok-set_up.ensures.listed h
    ∙ ap (with_operators (on_terms (world_of g.S.PlanStore.content c.args.desk.now)
    c.args.line.now.desk.terms)) c.deref.ensures.value)

pub returns-clause-served : goal.returns-clause-served
returns-clause-served g c =
    let w = world_of g.S.PlanStore.content c.args.desk.now in
    let begun = world_of g.S.PlanStore.content c.set_up.new.desk in
    inl (record {
      begun = begun;
      listed = λ h. c.in_ok-set_up.ensures.listed (was_honest c.serve_connections.ensures.remembered.doubt h)
          ∙ ap (with_operators (on_terms w c.args.line.now.desk.terms)) c.deref.ensures.value;
      listening = _;
      listens = c.in_ok-listen.ensures.listens;
      taken = c.serve_connections.ensures.kept.taken;
    })

pub returns-in_err-listen-clause-kept : goal.returns-in_err-listen-clause-kept
returns-in_err-listen-clause-kept g c = λ p settled.
    unserved_kept g.S.PlanStore c.from_residual-in_err-listen.result c.args.line.now
    (world_of g.S.PlanStore.content c.args.desk.now) c.set_up.new.desk p
    (λ h. c.in_ok-set_up.ensures.listed h
    ∙ ap (with_operators (on_terms (world_of g.S.PlanStore.content c.args.desk.now)
    c.args.line.now.desk.terms)) c.deref.ensures.value) (c.in_ok-set_up.ensures.kept p settled)
    c.in_err-listen.field-0.0 _ _ c.from_residual-in_err-listen.ensures.1 c.in_err-listen.ensures.fault
    c.in_err-listen.ensures.listens

pub returns-clause-kept : goal.returns-clause-kept
returns-clause-kept g c = λ p settled.
    let listed = was_honest c.serve_connections.ensures.remembered.doubt p in
    port_kept g.S.PlanStore c.serve_connections.result c.args.line.now
    (world_of g.S.PlanStore.content c.args.desk.now) c.set_up.new.desk c.serve_connections.new.desk p
    (λ h. c.in_ok-set_up.ensures.listed (was_honest c.serve_connections.ensures.remembered.doubt h)
    ∙ ap (with_operators (on_terms (world_of g.S.PlanStore.content c.args.desk.now)
    c.args.line.now.desk.terms)) c.deref.ensures.value) (c.in_ok-set_up.ensures.kept listed settled)
    _ _ _ c.in_ok-listen.ensures.listens c.serve_connections.ensures.kept

-- why it ends with a store that failed
pub returns-clause-cause : goal.returns-clause-cause
returns-clause-cause g c =
    counted_later c.serve_connections.result _ _ _ c.set_up.ensures.remembered.counted
    c.serve_connections.ensures.cause

-- nothing is printed unless the port is listened at
pub returns-clause-heard : goal.returns-clause-heard
returns-clause-heard g c =
    still_heard (g.P.Port.traffic c.args.port.now) (g.P.Port.traffic c.listen.new.port)
    (g.P.Port.traffic c.serve_connections.new.port) _ _ c.serve_connections.ensures.kept.taken.listened
    c.in_ok-listen.ensures.heard
