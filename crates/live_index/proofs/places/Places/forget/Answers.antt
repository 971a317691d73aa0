use Rattle.std.proofs.Common.{None}
use Rattle.live_index.proofs.PlaceLemmas.{gone, others_stay}
use Rattle.live_index.proofs.places.Places.forget.Goals as goal

pub returns-in-Some-clause-others : goal.returns-in-Some-clause-others
returns-in-Some-clause-others c =
    others_stay c.args.key.now c.args.self.now.plans.entries c.remove.new.self.entries None
    c.remove.ensures.updates.0

pub returns-in-Some-clause-gone : goal.returns-in-Some-clause-gone
returns-in-Some-clause-gone c =
    gone c.args.key.now c.args.self.now.plans.entries c.remove.new.self.entries c.remove.ensures.updates.0
