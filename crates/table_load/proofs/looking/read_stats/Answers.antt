use Rattle.std.proofs.Common.{◌≡◌}
use Rattle.table_load.specs.declared.fault.OpenFault.TheVariants.{NotADesk}
use Rattle.table_load.specs.Moving.{ShowsNone}
use Rattle.table_load.proofs.lemmas.Opening.{reported_as}
use Rattle.table_load.proofs.looking.read_stats.Goals as goal

pub returns-in_err-content-clause-refused : goal.returns-in_err-content-clause-refused
returns-in_err-content-clause-refused g c =
    reported_as (λ e. e ≡ NotADesk → ShowsNone g.S.Store c.args.connection.now c.read_content.new.connection)
    c.from_residual.result _ c.from_residual.ensures.1 c.in_err-content.ensures.refused
