use Rattle.table_load.proofs.lemmas.Cut.{completed_leaves, spared_becomes}
use Rattle.table_load.specs.OpeningSteps.{IsCompletedAs}
use Rattle.std.proofs.Common.{rules}
use Rattle.table_load.proofs.lemmas.Opening.{unread_as}
use Rattle.table_load.proofs.lemmas.Small.{blames_completing}
use Rattle.table_load.proofs.finding.load_and_complete.Goals as goal

pub returns-in_err-found-clause-set_up : goal.returns-in_err-found-clause-set_up
returns-in_err-found-clause-set_up g c =
    unread_as g.S.Store c.args.connection.now c.load_tables.new.connection c.args.made
    c.from_residual.result _ c.from_residual.ensures.1 c.in_err-found.ensures.read (λ kept. kept)

pub returns-in_err-complete_tables-clause-set_up : goal.returns-in_err-complete_tables-clause-set_up
returns-in_err-complete_tables-clause-set_up g c =
    let read = c.in_ok-found.ensures.read in
    let blames = blames_completing g.S.Store c.args.made c.in_ok-found.found.0.world c.args.connection.now
    c.load_tables.new.connection c.complete_tables.new.connection c.in_err-complete_tables.field-0.0
    read.reads read.value c.complete_tables.ensures.over.doubt
    c.in_err-complete_tables.ensures.kept c.in_err-complete_tables.ensures.cause in
    search (rules, blames)

pub returns-clause-crash : goal.returns-clause-crash
returns-clause-crash g c =
    let read = c.in_ok-found.ensures.read in
    completed_leaves g.S.Store c.args.made c.in_ok-found.found.0.world c.args.connection.now
    c.load_tables.new.connection c.complete_tables.new.connection c.requires.part.part c.requires.new
    read.reads read.value c.complete_tables.ensures.over.doubt c.complete_tables.ensures.crash

pub returns-in_err-complete_tables-clause-crash : goal.returns-in_err-complete_tables-clause-crash
returns-in_err-complete_tables-clause-crash g c =
    let read = c.in_ok-found.ensures.read in
    completed_leaves g.S.Store c.args.made c.in_ok-found.found.0.world c.args.connection.now
    c.load_tables.new.connection c.complete_tables.new.connection c.requires.part.part c.requires.new
    read.reads read.value c.complete_tables.ensures.over.doubt c.complete_tables.ensures.crash

pub returns-in_err-found-clause-crash : goal.returns-in_err-found-clause-crash
returns-in_err-found-clause-crash g c =
    spared_becomes g.S.Store IsCompletedAs c.args.connection.now c.load_tables.new.connection
    c.load_tables.ensures.read.reads.spared
