use Rattle.desk_tables.specs.Copying.{BlamesNew}
use Rattle.desk_tables.proofs.FillLemmas.{blames_disk}
use Rattle.table_load.proofs.lemmas.Opening.{blames_unread, reported_as}
use Rattle.desk_tables.proofs.opening.copying.require_blank.Goals as goal

pub returns-in_err-made-clause-cause : goal.returns-in_err-made-clause-cause
returns-in_err-made-clause-cause g c =
    let old = c.args.connection.now in
    let new = c.find_tables.new.connection in
    reported_as (BlamesNew g.S.Store old new) c.from_residual.result _ c.from_residual.ensures.1
    (blames_disk g.S.Store old new _ c.requires.rest.unlimited
    (blames_unread g.S.Store old new c.in_err-made.field-0.0 c.in_err-made.ensures.cause))
