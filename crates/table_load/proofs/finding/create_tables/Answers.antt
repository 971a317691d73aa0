use Rattle.table_load.proofs.lemmas.Cut.{created_leaves}
use Rattle.std.proofs.Common.{◌∙◌, arith, refl, rules, sym, subst}
use Rattle.table_load.specs.Opening.{Stands}
use Rattle.table_load.proofs.lemmas.Opening.{blames_reading}
use Rattle.table_load.proofs.lemmas.Small.{blank_spans}
use Rattle.table_load.proofs.lemmas.Store.{made_stands}
use Rattle.table_load.proofs.finding.create_tables.Goals as goal

pub returns-clause-set_up : goal.returns-clause-set_up
returns-clause-set_up g c =
    let stands : Stands g.S.Store c.complete_tables.new.connection c.new.result.world =
    subst (Stands g.S.Store c.complete_tables.new.connection) (sym c.new.ensures)
    (made_stands g.S.Store c.args.connection.now c.complete_tables.new.connection
    c.in_ok-complete_tables.ensures.over.mode
    (c.in_ok-complete_tables.ensures.over.limit ∙ c.requires.unlimited)
    c.in_ok-complete_tables.ensures.done) in
    search (rules, stands)

pub returns-in_err-complete_tables-clause-set_up : goal.returns-in_err-complete_tables-clause-set_up
returns-in_err-complete_tables-clause-set_up g c =
    let old = c.args.connection.now in
    let blames = blames_reading g.S.Store old old c.complete_tables.new.connection
    c.in_err-complete_tables.field-0.0 (omega arith) refl
    (c.in_err-complete_tables.ensures.cause blank_spans) in
    search (rules, blames)

pub returns-clause-crash : goal.returns-clause-crash
returns-clause-crash g c =
    created_leaves g.S.Store c.args.connection.now c.complete_tables.new.connection c.requires.blank.part
    c.complete_tables.ensures.over.doubt c.complete_tables.ensures.crash

pub returns-in_err-complete_tables-clause-crash : goal.returns-in_err-complete_tables-clause-crash
returns-in_err-complete_tables-clause-crash g c =
    created_leaves g.S.Store c.args.connection.now c.complete_tables.new.connection c.requires.blank.part
    c.complete_tables.ensures.over.doubt c.complete_tables.ensures.crash
