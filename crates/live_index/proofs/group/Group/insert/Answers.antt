use Rattle.live_index.proofs.GroupBoxLemmas.{group_bounded_with}
use Rattle.live_index.proofs.group.Group.insert.Goals as goal

pub returns-clause-group_bounded : goal.returns-clause-group_bounded
returns-clause-group_bounded c =
    group_bounded_with c.args.self.now _ c.args.live.now c.insert.ensures.bounded c.in_ok-insert.ensures.added
    c.widened-self.ensures.one c.widened-self.ensures.kept
