use Rattle.volume4d.proofs.LaneLemmas.{first_reached}
use Rattle.volume4d.proofs.sweep.first_of_head.Goals as goal

pub returns-in-Some : goal.returns-in-Some
returns-in-Some c =
    first_reached c.args.window.now c.args.other.now c.in-Some.slab.now c.args.left.now
    c.in-Some.field-0-1.now c.compare_if_begun.result c.in-Some.ensures.cases.0 c.requires.order
    c.requires.begins c.compare_if_begun.ensures
