use Rattle.std.proofs.Common.{[], take}
use Rattle.operator_index.specs.Roll.{AreAccountsOf, accounts_of}
use Rattle.row_codec.proofs.known.roll_without_plans.Given as goal

-- the operators so far
abbrev pub invariant-loop-listed : goal.invariant-loop-listed
invariant-loop-listed l = AreAccountsOf (take l.listed-index l.operators) [] (accounts_of l.roll)
