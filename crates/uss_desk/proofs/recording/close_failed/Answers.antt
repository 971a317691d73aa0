use Rattle.std.proofs.Common.{◌∙◌, false, refl, sym, true}
use Rattle.uss_desk.proofs.FinishLemmas.{fails_closed}
use Rattle.uss_desk.proofs.recording.close_failed.Goals as goal

pub returns-then-is_closed : goal.returns-then-is_closed
returns-then-is_closed g c =
    fails_closed c.args.desk 1 _ c.close_after.result.1 c.args.failure c.args.failure true
    c.close_after.ensures (sym c.is_closed.ensures ∙ c.if-is_closed.true) refl

pub returns : goal.returns
returns g c =
    fails_closed c.args.desk 1 _ c.close_after.result.1 c.args.failure c.report_store_failure.result false
    c.close_after.ensures (sym c.is_closed.ensures ∙ c.if-is_closed.false) c.report_store_failure.ensures
