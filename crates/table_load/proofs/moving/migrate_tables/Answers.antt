use Rattle.table_load.proofs.lemmas.Cut.{moved_leaves, spared_becomes, whole_leaves}
use Rattle.table_load.specs.OpeningSteps.{IsMovedAs}
use Rattle.std.proofs.Common.{IfErr, OnErr, inl, arith, ap, rules, ◌≤◌, ◌∙◌}
use Rattle.sqlite_trees.specs.View.{doubt}
use Rattle.sqlite.specs.Held.{state}
use Rattle.desk_store.specs.World.{World}
use Rattle.table_load.specs.Moving.{KeepsRows}
use Rattle.table_load.specs.Opening.{BlamesReading}
use Rattle.table_load.proofs.lemmas.Opening.{blames_since, kept_on_err, part_on, reported_as, unread_as}
use Rattle.table_load.proofs.lemmas.Moving.{keeps_since, keeps_whole}
use Rattle.table_load.proofs.OrderingLemmas.{old_to_index, whole_awaited}
use Rattle.table_load.proofs.moving.migrate_tables.Goals as goal

pub returns-in_err-content-clause-set_up : goal.returns-in_err-content-clause-set_up
returns-in_err-content-clause-set_up g c =
    unread_as g.S.Store c.args.connection.now c.load_old_tables.new.connection c.args.made
    c.from_residual.result _ c.from_residual.ensures.1 c.in_err-content.ensures.read
    (λ kept clean live. inl (kept clean live))

pub returns-in_err-complete_or_rebuild-clause-set_up : goal.returns-in_err-complete_or_rebuild-clause-set_up
returns-in_err-complete_or_rebuild-clause-set_up g c =
    let a = c.args.connection.now in
    let b = c.load_old_tables.new.connection in
    let new = c.complete_or_rebuild.new.connection in
    let found = c.in_ok-content.ensures.read in
    let blames : IfErr c.from_residual-in_err-complete_or_rebuild.result (BlamesReading g.S.Store a new) =
    reported_as (BlamesReading g.S.Store a new) c.from_residual-in_err-complete_or_rebuild.result _
    c.from_residual-in_err-complete_or_rebuild.ensures.1
    (blames_since g.S.Store a b new found.reads.faults found.reads.limit c.in_err-complete_or_rebuild.field-0.0
    (c.in_err-complete_or_rebuild.ensures.cause
    (old_to_index g.S.Store c.args.made c.in_ok-content.content a b found.reads found.value))) in
    search (rules, blames)

pub returns-in_err-migrate_rows-clause-set_up : goal.returns-in_err-migrate_rows-clause-set_up
returns-in_err-migrate_rows-clause-set_up g c =
    let a = c.args.connection.now in
    let b = c.load_old_tables.new.connection in
    let d = c.complete_or_rebuild.new.connection in
    let new = c.migrate_rows.new.connection in
    let found = c.in_ok-content.ensures.read in
    let whole = c.complete_or_rebuild.ensures in
    let plans = c.deref.ensures.value ∙ ap (λ (w : World). w.plans) c.content.view_is in
    let first = whole.over.doubt in
    let second = c.migrate_rows.ensures.over.doubt in
    let rises : doubt (state g.S.Store b).is_clean ≤ doubt (state g.S.Store new).is_clean =
    omega (arith, first, second) in
    let kept : OnErr c.from_residual-in_err-migrate_rows.result (KeepsRows g.S.Store a new) =
    kept_on_err c.from_residual-in_err-migrate_rows.result
    (keeps_since g.S.Store a b new found.reads.kept rises
    (keeps_whole g.S.Store c.args.made b d new
    (part_on g.S.Store c.args.made a b c.requires.part.part found.reads) first second
    c.in_ok-complete_or_rebuild.ensures.done c.in_err-migrate_rows.ensures.kept)) in
    let blames : IfErr c.from_residual-in_err-migrate_rows.result (BlamesReading g.S.Store a new) =
    reported_as (BlamesReading g.S.Store a new) c.from_residual-in_err-migrate_rows.result _
    c.from_residual-in_err-migrate_rows.ensures.1
    (blames_since g.S.Store a d new (omega (arith, found.reads.faults, whole.over.faults))
    (whole.over.limit ∙ found.reads.limit) c.in_err-migrate_rows.field-0.0
    (c.in_err-migrate_rows.ensures.cause
    (whole_awaited g.S.Store c.args.made c.in_ok-content.content a b found.reads found.value
    c.deref.result.now d plans whole.over.doubt c.in_ok-complete_or_rebuild.ensures.done
    c.in_ok-content.ensures.few))) in
    search (rules, kept, blames)

pub returns-clause-crash : goal.returns-clause-crash
returns-clause-crash g c =
    let a = c.args.connection.now in
    let b = c.load_old_tables.new.connection in
    let d = c.complete_or_rebuild.new.connection in
    let found = c.in_ok-content.ensures.read in
    let whole = c.complete_or_rebuild.ensures in
    let plans = c.deref.ensures.value ∙ ap (λ (w : World). w.plans) c.content.view_is in
    moved_leaves g.S.Store c.args.made c.in_ok-content.content a b c.requires.part.part c.requires.rows
    found.reads found.value c.deref.result.now d c.migrate_rows.new.connection plans whole.over.doubt
    c.migrate_rows.ensures.over.doubt whole.crash c.in_ok-complete_or_rebuild.ensures.done c.migrate_rows.ensures.crash

pub returns-in_err-migrate_rows-clause-crash : goal.returns-in_err-migrate_rows-clause-crash
returns-in_err-migrate_rows-clause-crash g c =
    let a = c.args.connection.now in
    let b = c.load_old_tables.new.connection in
    let d = c.complete_or_rebuild.new.connection in
    let found = c.in_ok-content.ensures.read in
    let whole = c.complete_or_rebuild.ensures in
    let plans = c.deref.ensures.value ∙ ap (λ (w : World). w.plans) c.content.view_is in
    moved_leaves g.S.Store c.args.made c.in_ok-content.content a b c.requires.part.part c.requires.rows
    found.reads found.value c.deref.result.now d c.migrate_rows.new.connection plans whole.over.doubt
    c.migrate_rows.ensures.over.doubt whole.crash c.in_ok-complete_or_rebuild.ensures.done c.migrate_rows.ensures.crash

pub returns-in_err-complete_or_rebuild-clause-crash : goal.returns-in_err-complete_or_rebuild-clause-crash
returns-in_err-complete_or_rebuild-clause-crash g c =
    let found = c.in_ok-content.ensures.read in
    whole_leaves g.S.Store c.args.made c.in_ok-content.content c.args.connection.now
    c.load_old_tables.new.connection c.requires.part.part c.requires.rows found.reads found.value
    c.complete_or_rebuild.new.connection c.complete_or_rebuild.ensures.over.doubt c.complete_or_rebuild.ensures.crash

pub returns-in_err-content-clause-crash : goal.returns-in_err-content-clause-crash
returns-in_err-content-clause-crash g c =
    spared_becomes g.S.Store IsMovedAs c.args.connection.now c.load_old_tables.new.connection
    c.load_old_tables.ensures.read.reads.spared
