use Rattle.std.proofs.Common.{◌≡◌, ◌<◌, ◌^◌, ◌∙◌, ap, arith, length, rules, sym, subst}
use Rattle.desk_sql.specs.Effects.{Commits, Holds}
use Rattle.desk_store.specs.World.{World}
use Rattle.desk_tables.specs.Copying.{AddsWorldRows, BlamesNew}
use Rattle.table_load.specs.Opening.{Stands, CanBeFilled}
use Rattle.desk_tables.proofs.CopyLemmas.{written_stands}
use Rattle.desk_tables.proofs.FillLemmas.{blames_later, can_fill}
use Rattle.table_load.proofs.lemmas.Opening.{reported_as}
use Rattle.desk_tables.proofs.opening.copying.make_world.Goals as goal

pub returns-clause-made : goal.returns-clause-made
returns-clause-made g c =
    let a = c.create_tables.new.connection in
    let b = c.fill.new.connection in
    let tables = c.in_ok-create_tables.ensures.set_up in
    let one = c.deref.ensures.value ∙ ap (λ (w : World). w.operators) c.content.view_is in
    let two = c.deref-2.ensures.value ∙ ap (λ (w : World). w.plans) c.content.view_is in
    let is : (record { operators = c.deref.result.now; plans = c.deref-2.result.now }) ≡ c.args.content.now =
    λ i. record { operators = one i; plans = two i } in
    let stands : Stands g.S.Store b c.args.content.now =
    written_stands g.S.Store a b c.args.content.now
    (subst (Stands g.S.Store a) tables.begins tables.stands)
    c.in_ok-fill.ensures.over.mode c.in_ok-fill.ensures.over.limit c.in_ok-fill.ensures.over.doubt
    c.requires.content
    (λ clean. subst (λ w. Commits g.S.Store a b (AddsWorldRows w)) is (c.in_ok-fill.ensures.done clean)) in
    search (rules, stands)

pub returns-in_err-create_tables-clause-cause : goal.returns-in_err-create_tables-clause-cause
returns-in_err-create_tables-clause-cause g c =
    let old = c.args.connection.now in
    let mid = c.require_blank.new.connection in
    let new = c.create_tables.new.connection in
    let reads = c.require_blank.ensures.reads in
    reported_as (BlamesNew g.S.Store old new) c.from_residual-in_err-create_tables.result _
    c.from_residual-in_err-create_tables.ensures.1
    (blames_later g.S.Store old new mid reads.faults reads.limit _ c.requires.rest.unlimited
    c.in_err-create_tables.ensures.set_up.cause)

pub returns-in_err-fill-clause-cause : goal.returns-in_err-fill-clause-cause
returns-in_err-fill-clause-cause g c =
    let old = c.args.connection.now in
    let mid = c.create_tables.new.connection in
    let new = c.fill.new.connection in
    let reads = c.require_blank.ensures.reads in
    let tables = c.in_ok-create_tables.ensures.set_up in
    let content = c.args.content.now in
    let one = c.deref.ensures.value ∙ ap (λ (w : World). w.operators) c.content.view_is in
    let two = c.deref-2.ensures.value ∙ ap (λ (w : World). w.plans) c.content.view_is in
    let is : (record { operators = c.deref.result.now; plans = c.deref-2.result.now }) ≡ content =
    λ i. record { operators = one i; plans = two i } in
    let operators = c.content.inside.operators in
    let plans = c.content.inside.plans in
    let few : length operators.items < 2 ^ 63 =
    omega (arith, operators.ok.0, operators.ok.1, operators.small) in
    let thin : length plans.items < 2 ^ 63 = omega (arith, plans.ok.0, plans.ok.1, plans.small) in
    let can : Holds g.S.Store mid (CanBeFilled content) =
    can_fill g.S.Store mid content (subst (Stands g.S.Store mid) tables.begins tables.stands)
    c.requires.content (subst (λ (w : World). length w.operators < 2 ^ 63) c.content.view_is few)
    (subst (λ (w : World). length w.plans < 2 ^ 63) c.content.view_is thin) c.requires.few in
    reported_as (BlamesNew g.S.Store old new) c.from_residual-in_err-fill.result _
    c.from_residual-in_err-fill.ensures.1
    (blames_later g.S.Store old new mid (omega (arith, reads.faults, c.create_tables.ensures.faults))
    (tables.limit ∙ reads.limit) _ c.requires.rest.unlimited
    (c.in_err-fill.ensures.cause (subst (λ w. Holds g.S.Store mid (CanBeFilled w)) (sym is) can)))
