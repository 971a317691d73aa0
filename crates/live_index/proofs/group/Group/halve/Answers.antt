use Rattle.std.proofs.Common.{◌/◌, ◌∙◌}
use Rattle.live_index.proofs.GroupBoxLemmas.{halved}
use Rattle.live_index.proofs.group.Group.halve.Goals as goal

pub returns-clause-same : goal.returns-clause-same
returns-clause-same c =
    halved (c.len.result / 2) c.args.self.now.chunks.items c.split_off.new.self.items c.of.result.chunks.items
    c.in_ok-later.ensures.items (c.of.ensures.same ∙ c.in_ok-later.ensures.tail)
