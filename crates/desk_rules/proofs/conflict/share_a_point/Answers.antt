use Rattle.desk_rules.proofs.SharingLemmas.{shared_by_slabs}
use Rattle.desk_rules.proofs.conflict.share_a_point.Goals as goal

pub returns : goal.returns
returns c = λ area other slabs others.
    shared_by_slabs area other c.args.mine.now c.args.theirs.now c.meet.result slabs others c.meet.ensures.0
    c.meet.ensures.1
