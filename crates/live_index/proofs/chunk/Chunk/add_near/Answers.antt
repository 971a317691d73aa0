use Rattle.std.proofs.Common.{subst, sym, ◌∙◌}
use Rattle.std.proofs.lemmas.Result.{on_ok_weaker}
use Rattle.slab_regions.specs.Regions.{sought_has}
use Rattle.live_index.specs.Live.{AddsPlans}
use Rattle.live_index.proofs.NearLemmas.{adds_none_far, adds_looked}
use Rattle.live_index.proofs.chunk.Chunk.add_near.Goals as goal

pub returns-then-not-may_meet : goal.returns-then-not-may_meet
returns-then-not-may_meet c =
    adds_none_far c.args.wanted.now c.args.sought.now c.args.self.now.bbox c.args.self.now.volumes.items
    c.args.near.now (sym c.may_meet.ensures ∙ c.if-not-may_meet.true)

pub returns : goal.returns
returns c =
    on_ok_weaker c.add_each.result (λ added whole.
    adds_looked c.args.wanted.now (sought_has c.args.sought.now) c.args.self.now.volumes.items c.args.near.now
    c.count_search.new.self c.add_each.new.near c.count_search.ensures
    (subst (λ lives. AddsPlans c.args.wanted.now (sought_has c.args.sought.now) lives c.count_search.new.self
    c.add_each.new.near) c.deref.ensures.value added)) c.add_each.ensures
