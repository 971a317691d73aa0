use Rattle.live_index.specs.Live.{AreBoundedGroups, RemovesPlanVolumes, volumes_under}
use Rattle.live_index.proofs.group.remove_at_places.Given as goal

abbrev pub invariant-loop-place : goal.invariant-loop-place
invariant-loop-place l =
    RemovesPlanVolumes l.plan.operator l.plan.id (volumes_under l.fn.groups.items) (volumes_under l.groups.items) l.gone
    × (AreBoundedGroups l.fn.groups.items → AreBoundedGroups l.groups.items)
