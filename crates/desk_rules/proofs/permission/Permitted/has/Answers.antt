use Rattle.std.proofs.Common.{sym, ◌∙◌}
use Rattle.desk_rules.proofs.PermissionLemmas.{permitted_low}
use Rattle.desk_rules.proofs.permission.Permitted.has.Goals as goal

-- a priority of the list is in range
pub returns-clause-in_range : goal.returns-clause-in_range
returns-clause-in_range c = λ there.
    permitted_low _ c.args.priority c.self.invariant.2 (sym c.contains.ensures.value ∙ there)
