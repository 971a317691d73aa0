use Rattle.std.proofs.Common.{◌≡◌, ◌++◌}
use Rattle.operator_index.specs.Roll.{listed_in}
use Rattle.operator_index.proofs.roll.OperatorIndex.listed.Given as goal

-- the operators so far and those of the accounts that are left are all that have a ceiling
abbrev pub invariant-loop-operator : goal.invariant-loop-operator
invariant-loop-operator l =
    l.listed.items ++ listed_in l.operator-iterator ≡ listed_in l.self.accounts.entries
