use Rattle.std.proofs.Common.{refl}
use Rattle.table_load.proofs.spans.take_spans.Goals as goal

pub returns-in-Ok-clause-plans : goal.returns-in-Ok-clause-plans
returns-in-Ok-clause-plans g c = c.in-Ok.ensures.kept c.args.check.now refl
