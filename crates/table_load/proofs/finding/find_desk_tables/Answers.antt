use Rattle.table_load.specs.Opening.{BlamesDatabase}
use Rattle.table_load.proofs.lemmas.Opening.{blames_unread, reported_as}
use Rattle.table_load.proofs.finding.find_desk_tables.Goals as goal

pub returns-in_err-made-clause-cause : goal.returns-in_err-made-clause-cause
returns-in_err-made-clause-cause g c =
    reported_as (BlamesDatabase g.S.Store c.args.connection.now c.find_tables.new.connection)
    c.from_residual.result _ c.from_residual.ensures.1
    (blames_unread g.S.Store c.args.connection.now c.find_tables.new.connection
    c.in_err-made.field-0.0 c.in_err-made.ensures.cause)
