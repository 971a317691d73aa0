use Rattle.std.proofs.Common.{sym, ◌∙◌}
use Rattle.std.proofs.lemmas.Result.{on_ok_weaker}
use Rattle.slab_regions.specs.Regions.{sought_has}
use Rattle.live_index.proofs.NearLemmas.{adds_far, adds_listed, adds_taken}
use Rattle.live_index.proofs.near.NearPlans.add_if_near.Goals as goal

pub returns-then-not-is_near_to : goal.returns-then-not-is_near_to
returns-then-not-is_near_to c =
    adds_far c.args.wanted.now c.args.sought.now c.args.live.now c.args.self.now
    (sym c.is_near_to.ensures ∙ c.if-not-is_near_to.true)

pub returns-then-has : goal.returns-then-has
returns-then-has c =
    adds_listed c.args.wanted.now (sought_has c.args.sought.now) c.args.live.now c.args.self.now
    (sym c.has.ensures ∙ c.if-has.true)

pub returns : goal.returns
returns c =
    on_ok_weaker c.take.result (adds_taken c.args.wanted.now (sought_has c.args.sought.now) c.args.sought.now
    c.args.live.now c.args.self.now c.take.new.self (sym c.is_near_to.ensures ∙ c.if-not-is_near_to.false))
    c.take.ensures
