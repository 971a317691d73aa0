use Rattle.desk_run.proofs.WindowLemmas.{widened_has, widened_keep}
use Rattle.desk_run.proofs.pending.windows.widen.Goals as goal

pub returns-clause-kept : goal.returns-clause-kept
returns-clause-kept c =
    widened_keep c.args.extents.now c.args.place c.index-extents-place.result c.args.slab.now c.join.result
    c.requires c.join.ensures

pub returns-clause-has : goal.returns-clause-has
returns-clause-has c = λ x has.
    widened_has c.args.extents.now c.args.place c.index-extents-place.result c.args.slab.now c.join.result x
    c.requires c.join.ensures has
