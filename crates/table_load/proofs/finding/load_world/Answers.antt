use Rattle.table_load.proofs.lemmas.Cut.{becomes_since, spared_becomes}
use Rattle.table_load.specs.OpeningSteps.{IsCompletedAs}
use Rattle.table_load.proofs.lemmas.Opening.{opened_since, refused_as}
use Rattle.table_load.proofs.finding.load_world.Goals as goal

pub returns-in_err-made-clause-opened : goal.returns-in_err-made-clause-opened
returns-in_err-made-clause-opened g c =
    let refused = c.in_err-made.ensures in
    refused_as g.S.Store c.args.connection.now c.find_desk_tables.new.connection c.from_residual.result _
    c.from_residual.ensures.1 refused.refused refused.no_old_schema refused.cause refused.reads.kept
    refused.reads.limit refused.reads.doubt refused.reads.shield

pub returns-clause-opened : goal.returns-clause-opened
returns-clause-opened g c =
    opened_since g.S.Store c.args.connection.now c.find_desk_tables.new.connection c.load_or_create.new.connection
    (λ found. found.0.world) c.load_or_create.result c.in_ok-made.ensures.reads c.load_or_create.ensures.set_up

pub returns-clause-crash : goal.returns-clause-crash
returns-clause-crash g c =
    becomes_since g.S.Store IsCompletedAs c.args.connection.now c.find_desk_tables.new.connection
    c.load_or_create.new.connection c.find_desk_tables.ensures.reads c.load_or_create.ensures.set_up.doubt
    c.load_or_create.ensures.crash

pub returns-in_err-made-clause-crash : goal.returns-in_err-made-clause-crash
returns-in_err-made-clause-crash g c =
    spared_becomes g.S.Store IsCompletedAs c.args.connection.now c.find_desk_tables.new.connection
    c.find_desk_tables.ensures.reads.spared

pub returns-then-old-clause-crash : goal.returns-then-old-clause-crash
returns-then-old-clause-crash g c =
    spared_becomes g.S.Store IsCompletedAs c.args.connection.now c.find_desk_tables.new.connection
    c.find_desk_tables.ensures.reads.spared
