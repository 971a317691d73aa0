use Rattle.live_index.proofs.live.LiveIndex.settle.Goals as goal

pub loop-alloc-preserved : goal.loop-alloc-preserved
loop-alloc-preserved c = λ w was. c.settle_one.ensures.kept w (c.loop-alloc.invariant w was)

pub returns-in_err-settle_one-clause-kept : goal.returns-in_err-settle_one-clause-kept
returns-in_err-settle_one-clause-kept c = λ w was.
    c.settle_one.ensures.kept w (c.loop-alloc.invariant w was)
