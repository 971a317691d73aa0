use Rattle.std.proofs.Common.{not, take}
use Rattle.live_index.specs.Live.{HasLeft, is_of_any}
use Rattle.live_index.proofs.live.LiveIndex.remove_plans.Given as goal

abbrev pub invariant-loop-id : goal.invariant-loop-id
invariant-loop-id l =
    HasLeft (λ live. not (is_of_any l.operator (take l.id-index l.ids) live)) l.fn.self l.self
