use Rattle.std.proofs.Common.{◌∙◌, Err, Some, ap, arith, inl, inr, refl, rules}
use Rattle.desk_run.specs.Verdicts.{world_of}
use Rattle.desk_cli.specs.Exits.{ending}
use Rattle.desk_program.proofs.EndLemmas.{broken_down, ends_unwritten, found_enrolled}
use Rattle.desk_program.proofs.CauseLemmas.{ends_counted, ends_memory, ends_well, ends_write}
use Rattle.desk_program.proofs.program.enrol.Goals as goal

-- its ceiling is in range, so memory ran out or the store failed
pub returns-in-Err-clause-enrolled : goal.returns-in-Err-clause-enrolled
returns-in-Err-clause-enrolled g c =
    let end = ending c.report_exit-in-Err.result (g.E.Write.contents c.args.errors.now)
    (g.E.Write.contents c.report_exit-in-Err.new.errors) in
    inr (inr (
      broken_down c.in-Err.fault c.from.result end c.from.ensures
          (c.in-Err.ensures.fault (λ is. omega (
            arith,
            c.enrol.ensures.ceiling.0 (c.in-Err.is ∙ ap Err is),
            c.requires,
          ))) (c.report_exit-in-Err.ensures.status, c.report_exit-in-Err.ensures.reported),
      refl,
      c.in-Err.ensures.leaves.same,
    ))

pub returns-in-Err-clause-kept : goal.returns-in-Err-clause-kept
returns-in-Err-clause-kept g c = λ p settled found may.
    let end = ending c.report_exit-in-Err.result (g.E.Write.contents c.args.errors.now)
    (g.E.Write.contents c.report_exit-in-Err.new.errors) in
    found_enrolled (g.S.PlanStore.may_leave c.args.desk.now.store found) c.args.enrolment.now end
    (g.W.Write.contents c.args.output.now) (world_of g.S.PlanStore.content c.args.desk.now) found
    (broken_down c.in-Err.fault c.from.result end c.from.ensures
    (c.in-Err.ensures.fault (λ is. omega (
      arith,
      c.enrol.ensures.ceiling.0 (c.in-Err.is ∙ ap Err is),
      c.requires,
    ))) (c.report_exit-in-Err.ensures.status, c.report_exit-in-Err.ensures.reported))
    (settled found) (c.enrol.ensures.leaves.crash p found may)

-- why the line ends so
pub returns-in_default-clause-cause : goal.returns-in_default-clause-cause
returns-in_default-clause-cause g c = search (rules, ends_memory)

pub returns-in-Err-clause-cause : goal.returns-in-Err-clause-cause
returns-in-Err-clause-cause g c =
    ends_counted c.in-Err.fault c.from.result _ c.from.ensures
    (λ is. c.in-Err.ensures.leaves.cause (ap Some is))
    (c.report_exit-in-Err.ensures.status, c.report_exit-in-Err.ensures.reported)

pub returns-in-Ok-write_whole-clause-cause : goal.returns-in-Ok-write_whole-clause-cause
returns-in-Ok-write_whole-clause-cause g c = search (rules, ends_well)

pub returns-clause-cause : goal.returns-clause-cause
returns-clause-cause g c = search (rules, ends_write)

pub returns-clause-enrolled : goal.returns-clause-enrolled
returns-clause-enrolled g c = inr (inl (
  ends_unwritten _ _ c.from-in-Err-write_whole.ensures
      (c.report_exit-in-Err-write_whole.ensures.status, c.report_exit-in-Err-write_whole.ensures.reported),
  search rules,
  search rules,
))
