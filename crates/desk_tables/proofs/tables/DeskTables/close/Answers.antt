use Rattle.std.proofs.Common.{◌≡◌, sym, ap, subst, ◌∙◌, arith}
use Rattle.desk_sql.specs.Rows.{ClosesPlan}
use Rattle.desk_store.specs.declared.change.Change.TheVariants.{Close}
use Rattle.desk_store.proofs.lemmas.Parse.{parsed_id}
use Rattle.sqlite.specs.Held.{state}
use Rattle.sqlite.specs.State.{HasCleanDisk}
use Rattle.desk_sql.specs.Changing.{AreLow, IsShort}
use Rattle.desk_sql.specs.Effects.{OnlyReads}
use Rattle.desk_tables.specs.Store.{BlamesStore, HeldWorld, own_of}
use Rattle.row_codec.specs.Tables.{plan_rows}
use Rattle.desk_tables.proofs.ListingLemmas.{none_first, none_stored, some_first}
use Rattle.desk_tables.proofs.ParseLemmas.{parsed_short}
use Rattle.row_codec.proofs.lemmas.Unread.{on_err}
use Rattle.table_load.proofs.lemmas.NewRow.{name_short}
use Rattle.desk_tables.proofs.CauseLemmas.{blamed_since, closed_stored, err_weaker, head_reads, on_refused}
use Rattle.desk_tables.proofs.AfterLemmas.{committed_as, followed, followed_blamed, made_after, made_closed, next_after}
use Rattle.desk_tables.proofs.tables.DeskTables.close.Goals as goal

pub invariant_of-self : goal.invariant_of-self
invariant_of-self g c =
    let old = c.args.self.now in
    let mid : HeldWorld _ = record { held = c.self.inside.connection; world = c.self.inside.kept.world } in
    let new = c.close_plan-committed.new.connection in
    let operator = c.args.operator.now in
    let id = c.args.id.now in
    let change = Close operator id in
    let priority = c.in_ok-priority.priority in
    let aircraft = c.in_ok-priority.aircraft in
    let rows = c.in_ok-head_rows.head_rows.items in
    let read = c.in_ok-head_rows.ensures in
    let reads : OnlyReads g.S.Store old.held mid.held =
    subst (λ t. OnlyReads g.S.Store old.held t.held) (sym c.self.view_is) read.reads in
    let same : mid.world ≡ old.world = ap (λ t. t.world) c.self.view_is ∙ read.same in
    let next = next_after g.S.Store old mid mid same reads c.args.next.world change c.requires in
    let first = some_first c.deref.result.now c.in-Some.head.now c.in-Some.ensures.value in
    (followed g.S.Store mid.held new mid.world c.advance_if_committed.new.kept.world c.args.next.world tt change
    c.close_plan-committed.result c.advance_if_committed.result
    (made_closed g.S.Store mid.held new mid.world c.self.invariant _ operator id priority aircraft rows
    first.0 c.in-Some.head.now (parsed_id c.encode-text.result.now id c.encode-text.ensures.parsed)
    c.in_ok-priority.ensures.priority c.in_ok-priority.ensures.aircraft
    (λ clean. subst (λ w. rows ≡ plan_rows (own_of operator id w)) (sym same)
    (read.value (subst (λ t. HasCleanDisk (state g.S.Store t.held)) c.self.view_is
    (omega (arith, c.close_plan-committed.ensures.committed.over.doubt, clean)))).1)
    (sym c.deref.ensures.value ∙ first.1)
    (committed_as (λ text. ClosesPlan operator text priority aircraft) c.encode-text.ensures.text
    (committed_as (λ name. ClosesPlan name c.encode-text.result.now priority aircraft)
    c.as_str.ensures.value c.close_plan-committed.ensures.committed)) next.fits)
    c.advance_if_committed.ensures next.world).0

pub returns-clause-made : goal.returns-clause-made
returns-clause-made g c =
    let old = c.args.self.now in
    let mid : HeldWorld _ = record { held = c.self.inside.connection; world = c.self.inside.kept.world } in
    let new = c.close_plan-committed.new.connection in
    let operator = c.args.operator.now in
    let id = c.args.id.now in
    let change = Close operator id in
    let priority = c.in_ok-priority.priority in
    let aircraft = c.in_ok-priority.aircraft in
    let rows = c.in_ok-head_rows.head_rows.items in
    let read = c.in_ok-head_rows.ensures in
    let reads : OnlyReads g.S.Store old.held mid.held =
    subst (λ t. OnlyReads g.S.Store old.held t.held) (sym c.self.view_is) read.reads in
    let same : mid.world ≡ old.world = ap (λ t. t.world) c.self.view_is ∙ read.same in
    let next = next_after g.S.Store old mid mid same reads c.args.next.world change c.requires in
    let first = some_first c.deref.result.now c.in-Some.head.now c.in-Some.ensures.value in
    made_after g.S.Store old mid (record { held = new; world = c.advance_if_committed.new.kept.world }) same reads
    c.advance_if_committed.result change
    (followed g.S.Store mid.held new mid.world c.advance_if_committed.new.kept.world c.args.next.world tt change
    c.close_plan-committed.result c.advance_if_committed.result
    (made_closed g.S.Store mid.held new mid.world c.self.invariant _ operator id priority aircraft rows
    first.0 c.in-Some.head.now (parsed_id c.encode-text.result.now id c.encode-text.ensures.parsed)
    c.in_ok-priority.ensures.priority c.in_ok-priority.ensures.aircraft
    (λ clean. subst (λ w. rows ≡ plan_rows (own_of operator id w)) (sym same)
    (read.value (subst (λ t. HasCleanDisk (state g.S.Store t.held)) c.self.view_is
    (omega (arith, c.close_plan-committed.ensures.committed.over.doubt, clean)))).1)
    (sym c.deref.ensures.value ∙ first.1)
    (committed_as (λ text. ClosesPlan operator text priority aircraft) c.encode-text.ensures.text
    (committed_as (λ name. ClosesPlan name c.encode-text.result.now priority aircraft)
    c.as_str.ensures.value c.close_plan-committed.ensures.committed)) next.fits)
    c.advance_if_committed.ensures next.world).1

-- why it is refused
pub returns-in_err-head_rows-clause-cause : goal.returns-in_err-head_rows-clause-cause
returns-in_err-head_rows-clause-cause g c low =
    on_err c.from_residual.result c.in_err-head_rows.field-0.0
    (BlamesStore g.S.Store c.args.self.now.held c.head_rows.new.self.held) c.from_residual.ensures.1
    c.in_err-head_rows.ensures.cause

pub returns-in_default-clause-cause : goal.returns-in_default-clause-cause
returns-in_default-clause-cause g c low clean live is =
    let read = c.in_ok-head_rows.ensures in
    let head_rows = read.value clean in
    absurd (closed_stored c.args.operator.now c.args.id.now c.args.self.now.world
    (c.requires.fits (omega (arith, read.reads.doubt, clean)))
    (none_stored c.args.operator.now c.args.id.now c.args.self.now.world
    c.in_ok-head_rows.head_rows.items head_rows.1
    (sym c.deref.ensures.value ∙ none_first c.deref.result.now c.in_default.ensures.value)))

pub returns-in_err-priority-clause-cause : goal.returns-in_err-priority-clause-cause
returns-in_err-priority-clause-cause g c low =
    on_err c.from_residual-in_err-priority.result c.in_err-priority.field-0.0
    (BlamesStore g.S.Store c.args.self.now.held c.head_rows.new.self.held)
    c.from_residual-in_err-priority.ensures.1 (λ clean live is.
    (let head_rows = c.in_ok-head_rows.ensures.value clean in
    let first = some_first c.deref.result.now c.in-Some.head.now c.in-Some.ensures.value in
    let it = head_reads c.args.operator.now c.args.id.now c.args.self.now.world
    c.in_ok-head_rows.head_rows.items
    first.0 c.in-Some.head.now head_rows.0 head_rows.1 (sym c.deref.ensures.value ∙ first.1) in
    absurd (c.in_err-priority.ensures.refused is it.0 it.1 it.2)))

pub returns-clause-cause : goal.returns-clause-cause
returns-clause-cause g c low =
    let old = c.args.self.now.held in
    let mid = c.self.inside.connection in
    let new = c.close_plan-committed.new.connection in
    let committed = c.close_plan-committed.ensures.committed in
    let reads : OnlyReads g.S.Store old mid =
    subst (λ t. OnlyReads g.S.Store old t.held) (sym c.self.view_is) c.in_ok-head_rows.ensures.reads in
    err_weaker c.advance_if_committed.result (BlamesStore g.S.Store old new)
    (followed_blamed g.S.Store mid new c.self.inside.kept.world c.advance_if_committed.new.kept.world c.args.next.world tt
    c.close_plan-committed.result c.advance_if_committed.result c.self.invariant.unlimited c.advance_if_committed.ensures
    (λ clean live. on_refused _ c.close_plan-committed.result committed.kept (λ kept.
    (let before = kept clean live in
    let here : AreLow ((state g.S.Store mid).now.trees 2) = subst (λ (db : _). AreLow (db.trees 2))
    (sym (reads.kept (omega (arith, committed.over.doubt, clean)) before.was_open).now) low in
    committed.cause (
      subst IsShort (sym c.as_str.ensures.value) (name_short _ c.as_str.ensures.valid),
      (let short = parsed_short c.encode-text.result.now c.args.id.now c.encode-text.ensures.parsed in
          omega (arith, short)),
      here,
    ) clean live))))
    (λ e. blamed_since g.S.Store old mid new e reads.faults)
