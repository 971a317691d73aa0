use Rattle.desk_recording.proofs.RecoveringLemmas.{still_settled}
use Rattle.desk_recording.proofs.recovering.recover.Goals as goal

pub returns-clause-kept : goal.returns-clause-kept
returns-clause-kept g c =
    still_settled g.S.PlanStore c.args.desk.now c.set_up.new.desk c.redo_if_pending.new.desk c.redo_if_pending.result
    c.redo_if_pending.ensures.remembered.doubt c.in_default.ensures.kept c.redo_if_pending.ensures.kept
