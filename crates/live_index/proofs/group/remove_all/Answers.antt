use Rattle.std.proofs.Common.{◌∙◌, arith}
use Rattle.live_index.specs.Live.{volumes_under}
use Rattle.live_index.proofs.LeftLemmas.{left_all}
use Rattle.live_index.proofs.group.remove_all.Goals as goal

pub returns-then-gone-places-clause-same : goal.returns-then-gone-places-clause-same
returns-then-gone-places-clause-same c = λ few.
    c.remove_from_all.ensures.same ∙ c.remove_at_places-gone.ensures.removed.others

pub returns-else-gone-places-clause-same : goal.returns-else-gone-places-clause-same
returns-else-gone-places-clause-same c = λ few.
    left_all c.args.plan.now.operator c.args.plan.now.id (volumes_under c.args.groups.now.items)
    (volumes_under c.remove_at_places-gone.new.groups.items) c.remove_at_places-gone.result
    c.remove_at_places-gone.ensures.removed (omega (arith, few, c.if-gone-places.false))
