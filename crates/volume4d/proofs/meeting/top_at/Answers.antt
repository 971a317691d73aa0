use Rattle.volume4d.proofs.LevelLemmas.{top_held_none, top_step}
use Rattle.volume4d.proofs.meeting.top_at.Goals as goal

pub loop-held-init : goal.loop-held-init
loop-held-init c = top_held_none c.args.x.now

pub loop-held-preserved : goal.loop-held-preserved
loop-held-preserved c =
    top_step c.args.theirs.now c.loop-held.held-index c.held-item.result c.args.x.now c.loop-held.top
    c.raised-top.result c.loop-held-test.true c.held-item.is c.loop-held.invariant c.raised-top.ensures
