use Rattle.std.proofs.Common.{◌∙◌, ap, inl}
use Rattle.desk_store.proofs.lemmas.Fault.{was_honest}
use Rattle.desk_run.specs.Verdicts.{world_of}
use Rattle.desk_program.specs.Enrolling.{on_terms, with_operators}
use Rattle.desk_program.proofs.CauseLemmas.{counted_later}
use Rattle.desk_program.proofs.KeepingLemmas.{found_served}
use Rattle.desk_program.proofs.server.play_port.Goals as goal

pub returns-clause-played : goal.returns-clause-played
returns-clause-played g c =
    let w = world_of g.S.PlanStore.content c.args.desk.now in
    inl (record {
      begun = world_of g.S.PlanStore.content c.set_up.new.desk;
      listed = λ h. c.in_ok-set_up.ensures.listed (was_honest c.serve_connections.ensures.remembered.doubt h)
          ∙ ap (with_operators (on_terms w c.args.play.now.desk.terms)) c.deref.ensures.value;
      taken = c.serve_connections.ensures.kept.taken;
    })

pub returns-clause-kept : goal.returns-clause-kept
returns-clause-kept g c = λ p settled found may.
    let w = world_of g.S.PlanStore.content c.args.desk.now in
    let begun = world_of g.S.PlanStore.content c.set_up.new.desk in
    let after = world_of g.S.PlanStore.content c.serve_connections.new.desk in
    let was = was_honest c.serve_connections.ensures.remembered.doubt p in
    let kept = c.serve_connections.ensures.kept in
    inl (
      record {
        begun = begun;
        listed = λ h.
            c.in_ok-set_up.ensures.listed (was_honest c.serve_connections.ensures.remembered.doubt h)
            ∙ ap (with_operators (on_terms w c.args.play.now.desk.terms)) c.deref.ensures.value;
        taken = kept.taken;
      },
      found_served kept.taken.exchanges kept.taken.last begun after
          (g.S.PlanStore.may_leave c.set_up.new.desk.store found) found
          (c.in_ok-set_up.ensures.kept was settled found) (kept.finds p found may),
    )

pub returns-clause-cause : goal.returns-clause-cause
returns-clause-cause g c =
    counted_later c.serve_connections.result _ _ _ c.set_up.ensures.remembered.counted
    c.serve_connections.ensures.cause
