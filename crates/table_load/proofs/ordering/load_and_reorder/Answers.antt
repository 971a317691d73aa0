use Rattle.table_load.proofs.lemmas.Cut.{ordered_leaves, spared_becomes}
use Rattle.table_load.specs.OpeningSteps.{IsCompletedAs}
use Rattle.std.proofs.Common.{IfErr, ap, ◌∙◌, rules}
use Rattle.desk_store.specs.World.{World}
use Rattle.table_load.specs.Opening.{BlamesReading}
use Rattle.table_load.proofs.lemmas.Opening.{blames_since, reported_as}
use Rattle.table_load.proofs.OrderingLemmas.{still_to_order}
use Rattle.table_load.proofs.ordering.load_and_reorder.Goals as goal

pub returns-in_err-reorder_tables-clause-set_up : goal.returns-in_err-reorder_tables-clause-set_up
returns-in_err-reorder_tables-clause-set_up g c =
    let old = c.args.connection.now in
    let mid = c.load_content.new.connection in
    let new = c.reorder_tables.new.connection in
    let found = c.in_ok-content.ensures in
    let plans = c.deref.ensures.value ∙ ap (λ (w : World). w.plans) c.content.view_is in
    let blames : IfErr c.from_residual-in_err-reorder_tables.result (BlamesReading g.S.Store old new) =
    reported_as (BlamesReading g.S.Store old new) c.from_residual-in_err-reorder_tables.result _
    c.from_residual-in_err-reorder_tables.ensures.1
    (blames_since g.S.Store old mid new found.read.reads.faults found.read.reads.limit
    c.in_err-reorder_tables.field-0.0
    (c.in_err-reorder_tables.ensures.cause
    (still_to_order g.S.Store c.in_ok-content.content c.deref.result.now old mid plans found.read.reads
    found.read.value found.few))) in
    search (rules, blames)

pub returns-clause-crash : goal.returns-clause-crash
returns-clause-crash g c =
    let found = c.in_ok-content.ensures in
    let plans = c.deref.ensures.value ∙ ap (λ (w : World). w.plans) c.content.view_is in
    ordered_leaves g.S.Store c.in_ok-content.content c.deref.result.now c.args.connection.now
    c.load_content.new.connection c.reorder_tables.new.connection plans c.requires.part.part c.requires.new
    found.read.reads found.read.value c.reorder_tables.ensures.over.doubt c.reorder_tables.ensures.crash

pub returns-in_err-reorder_tables-clause-crash : goal.returns-in_err-reorder_tables-clause-crash
returns-in_err-reorder_tables-clause-crash g c =
    let found = c.in_ok-content.ensures in
    let plans = c.deref.ensures.value ∙ ap (λ (w : World). w.plans) c.content.view_is in
    ordered_leaves g.S.Store c.in_ok-content.content c.deref.result.now c.args.connection.now
    c.load_content.new.connection c.reorder_tables.new.connection plans c.requires.part.part c.requires.new
    found.read.reads found.read.value c.reorder_tables.ensures.over.doubt c.reorder_tables.ensures.crash

pub returns-in_err-content-clause-crash : goal.returns-in_err-content-clause-crash
returns-in_err-content-clause-crash g c =
    spared_becomes g.S.Store IsCompletedAs c.args.connection.now c.load_content.new.connection
    c.load_content.ensures.read.reads.spared
