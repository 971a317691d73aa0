use Rattle.std.proofs.Common.{◌≡◌, ◌++◌}
use Rattle.live_index.proofs.near.NearPlans.if_complete.Given as goal

abbrev pub invariant-loop-key : goal.invariant-loop-key
invariant-loop-key l = l.keys.items ++ l.key-iterator ≡ l.fn.self.keys.keys
