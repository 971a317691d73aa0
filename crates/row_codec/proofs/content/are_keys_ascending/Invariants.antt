use Rattle.std.proofs.Common.{length}
use Rattle.std.specs.Prelude.{◌↔◌}
use Rattle.std.specs.List.Sorted.{IsStrictlySortedBy}
use Rattle.desk_store.specs.World.{filed_cmp}
use Rattle.row_codec.proofs.content.are_keys_ascending.Given as goal

abbrev pub invariant-loop-first : goal.invariant-loop-first
invariant-loop-first l = IsStrictlySortedBy filed_cmp l.plans ↔ IsStrictlySortedBy filed_cmp l.left

abbrev pub decreases-loop-first : goal.decreases-loop-first
decreases-loop-first l = length l.left
