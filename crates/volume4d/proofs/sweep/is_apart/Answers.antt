use Rattle.std.proofs.Common.{◌∙◌, sym}
use Rattle.volume4d.proofs.LaneLemmas.{beside_in_height, beside_in_time, not_true}
use Rattle.volume4d.proofs.sweep.is_apart.Goals as goal

pub returns-then-not-meet_in_time : goal.returns-then-not-meet_in_time
returns-then-not-meet_in_time c = λ beside slabs x.
    beside_in_time c.args.window.now c.args.other.now (sym c.if-not-meet_in_time.ensures) slabs x

pub returns : goal.returns
returns c = λ beside slabs x.
    beside_in_height c.args.window.now c.args.other.now
    (sym c.meet_in_height.ensures ∙ not_true c.meet_in_height.result beside) slabs x
