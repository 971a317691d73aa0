use Rattle.std.proofs.Common.{subst}
use Rattle.desk_cli.specs.Grammar.{ArePermittedBy, RefusesOnlyWithout}
use Rattle.desk_cli.proofs.line.read_permitted.Goals as goal

pub returns-clause-refused : goal.returns-clause-refused
returns-clause-refused c =
    subst (λ word. RefusesOnlyWithout (ArePermittedBy word) c.parse_permitted_option.result) c.argument.ensures
    c.parse_permitted_option.ensures.refused
