use Rattle.std.proofs.Common.{ap, ◌∙◌, inl, inr, subst}
use Rattle.desk_store.specs.Changes.{IsHonest}
use Rattle.desk_store.proofs.lemmas.Fault.{was_honest}
use Rattle.desk_run.specs.Verdicts.{world_of}
use Rattle.desk_wire.specs.Streams.{passage}
use Rattle.desk_wire.specs.Playing.{HasPlayed}
use Rattle.desk_cli.specs.Exits.{EndsWith, ending}
use Rattle.desk_program.specs.Enrolling.{AreEnrolledSoFar, on_terms, with_operators}
use Rattle.desk_program.specs.Keeping.{AreKeptSoFar}
use Rattle.desk_program.proofs.EndLemmas.{not_played}
use Rattle.desk_program.proofs.KeepingLemmas.{run_kept}
use Rattle.desk_program.proofs.CauseLemmas.{ends_counted}
use Rattle.desk_program.proofs.program.play.Goals as goal

pub returns-in-Err-clause-played : goal.returns-in-Err-clause-played
returns-in-Err-clause-played g c =
    let w = world_of g.S.PlanStore.content c.args.desk.now in
    let after = world_of g.S.PlanStore.content c.set_up.new.desk in
    let honest = IsHonest (g.S.PlanStore.doubt c.set_up.new.desk.store) in
    let end = ending c.report_exit.result (g.E.Write.contents c.args.errors.now)
    (g.E.Write.contents c.report_exit.new.errors) in
    inr (not_played honest c.args.line.now end (g.R.Read.remaining c.args.input.now)
    (g.W.Write.contents c.args.output.now) w after c.in-Err.fault c.from.result c.from.ensures
    c.in-Err.ensures.fault (c.report_exit.ensures.status, c.report_exit.ensures.reported)
    (subst (λ es. AreEnrolledSoFar honest es (on_terms w c.args.line.now.desk.terms) after)
    c.deref.ensures.value c.in-Err.ensures.listed))

pub returns-in-Err-clause-kept : goal.returns-in-Err-clause-kept
returns-in-Err-clause-kept g c = λ p settled found may.
    let w = world_of g.S.PlanStore.content c.args.desk.now in
    let after = world_of g.S.PlanStore.content c.set_up.new.desk in
    let honest = IsHonest (g.S.PlanStore.doubt c.set_up.new.desk.store) in
    let end = ending c.report_exit.result (g.E.Write.contents c.args.errors.now)
    (g.E.Write.contents c.report_exit.new.errors) in
    inr (
      not_played honest c.args.line.now end (g.R.Read.remaining c.args.input.now)
          (g.W.Write.contents c.args.output.now) w after c.in-Err.fault c.from.result c.from.ensures
          c.in-Err.ensures.fault (c.report_exit.ensures.status, c.report_exit.ensures.reported)
          (subst (λ es. AreEnrolledSoFar honest es (on_terms w c.args.line.now.desk.terms) after)
          c.deref.ensures.value c.in-Err.ensures.listed),
      subst (λ es. AreKeptSoFar honest es (on_terms w c.args.line.now.desk.terms) after found)
          c.deref.ensures.value (c.in-Err.ensures.kept p settled found may),
    )

pub returns-clause-played : goal.returns-clause-played
returns-clause-played g c =
    let honest = IsHonest (g.S.PlanStore.doubt c.play_all-played.new.desk.store) in
    let played = c.play_all-played.result in
    let bytes = passage g.R.Read g.W.Write c.args.input.now c.play_all-played.new.input c.args.output.now
    c.play_all-played.new.output in
    let w = world_of g.S.PlanStore.content c.args.desk.now in
    let begun = on_terms w c.args.line.now.desk.terms in
    let after = world_of g.S.PlanStore.content c.play_all-played.new.desk in
    inl (record {
      ended = played.ended;
      answered = played.answered;
      ends = subst (λ d. EndsWith d (ending c.report_exit-2.result (g.E.Write.contents c.args.errors.now)
          (g.E.Write.contents c.report_exit-2.new.errors))) c.play_result.ensures
          (c.report_exit-2.ensures.status, c.report_exit-2.ensures.reported);
      played = λ h.
          let listed = c.in_default.ensures.listed (was_honest c.play_all-played.ensures.remembered.doubt h)
          ∙ ap (with_operators begun) c.deref.ensures.value in
          let second = c.args.line.now.moment.second in
          subst (λ v. HasPlayed honest played.ended played.answered bytes v second after)
          listed c.play_all-played.ensures.played;
    })

pub returns-clause-kept : goal.returns-clause-kept
returns-clause-kept g c = λ p settled found may.
    let before = was_honest c.play_all-played.ensures.remembered.doubt p in
    let played = c.play_all-played.result in
    let w = world_of g.S.PlanStore.content c.args.desk.now in
    let end = ending c.report_exit-2.result (g.E.Write.contents c.args.errors.now)
    (g.E.Write.contents c.report_exit-2.new.errors) in
    run_kept (IsHonest (g.S.PlanStore.doubt c.play_all-played.new.desk.store)) c.args.line.now end
    played.ended played.answered (passage g.R.Read g.W.Write c.args.input.now c.play_all-played.new.input
    c.args.output.now c.play_all-played.new.output) w (world_of g.S.PlanStore.content c.set_up.new.desk)
    (world_of g.S.PlanStore.content c.play_all-played.new.desk)
    (subst (λ d. EndsWith d end) c.play_result.ensures
    (c.report_exit-2.ensures.status, c.report_exit-2.ensures.reported))
    (λ h. c.in_default.ensures.listed (was_honest c.play_all-played.ensures.remembered.doubt h)
    ∙ ap (with_operators (on_terms w c.args.line.now.desk.terms)) c.deref.ensures.value)
    c.play_all-played.ensures.played p found
    (c.play_all-played.ensures.kept p (c.in_default.ensures.kept before settled) found may)

pub returns-in-Err-clause-cause : goal.returns-in-Err-clause-cause
returns-in-Err-clause-cause g c =
    ends_counted c.in-Err.fault c.from.result _ c.from.ensures c.in-Err.ensures.cause
    (c.report_exit.ensures.status, c.report_exit.ensures.reported)
