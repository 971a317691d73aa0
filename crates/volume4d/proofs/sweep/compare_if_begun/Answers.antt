use Rattle.volume4d.proofs.LaneLemmas.{behind_leaves}
use Rattle.volume4d.proofs.sweep.compare_if_begun.Goals as goal

pub returns-then-slab-other : goal.returns-then-slab-other
returns-then-slab-other c = behind_leaves c.args.slab.now c.args.other.now c.if-slab-other.true
