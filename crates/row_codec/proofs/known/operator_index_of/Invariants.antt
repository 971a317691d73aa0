use Rattle.std.proofs.Common.{take}
use Rattle.operator_index.specs.Roll.{AreAccountsOf, accounts_of}
use Rattle.row_codec.proofs.known.operator_index_of.Given as goal

-- the operators, and the plans so far
abbrev pub invariant-loop-plan : goal.invariant-loop-plan
invariant-loop-plan l = AreAccountsOf l.operators (take l.plan-index l.plans) (accounts_of l.roll)
