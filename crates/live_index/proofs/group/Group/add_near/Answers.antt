use Rattle.std.proofs.Common.{sym, ◌∙◌}
use Rattle.live_index.specs.Live.{volumes_in}
use Rattle.live_index.proofs.NearLemmas.{adds_none_far}
use Rattle.live_index.proofs.group.Group.add_near.Goals as goal

pub returns-then-not-may_meet : goal.returns-then-not-may_meet
returns-then-not-may_meet c = λ group_bounded.
    adds_none_far c.args.wanted.now c.args.sought.now c.args.self.now.bbox
    (volumes_in c.args.self.now.chunks.items)
    c.args.near.now (sym c.may_meet.ensures ∙ c.if-not-may_meet.true) group_bounded.all
