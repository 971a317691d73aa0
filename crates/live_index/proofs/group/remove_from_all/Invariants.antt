use Rattle.std.proofs.Common.{length, ◌-◌}
use Rattle.live_index.specs.Live.{IsBoundedGroup, is_of_other_plan, volumes_in}
use Rattle.live_index.proofs.GatherLemmas.{AreLeft}
use Rattle.live_index.proofs.group.remove_from_all.Given as goal

abbrev pub invariant-loop-at : goal.invariant-loop-at
invariant-loop-at l = AreLeft (λ g. volumes_in g.chunks.items) IsBoundedGroup (is_of_other_plan l.operator l.id)
    l.fn.groups.items l.at l.groups.items

abbrev pub decreases-loop-at : goal.decreases-loop-at
decreases-loop-at l = length l.fn.groups.items - l.at
