use Rattle.std.proofs.Common.{List, arith}
use Rattle.sqlite.specs.Held.{state}
use Rattle.sqlite_value.specs.Order.{Row}
use Rattle.desk_sql.specs.Rows.{tables_at}
use Rattle.table_load.specs.Moving.{AreOldParts}
use Rattle.table_load.specs.SpanChecks.{HasChecked}
use Rattle.table_load.proofs.lemmas.Frame.{reads_then}
use Rattle.table_load.proofs.HeadLemmas.{content_if, listed_since, none_of_old_heads, of_plans, old_content_held, refused_in_hand, refused_on}
use Rattle.table_load.proofs.moving.load_old_tables.Goals as goal

pub returns-in_err-heads-clause-read : goal.returns-in_err-heads-clause-read
returns-in_err-heads-clause-read g c =
    let heads = c.in_err-heads.ensures in
    refused_on g.S.Store c.args.made c.args.connection.now c.read_old_heads_alone.new.connection
    c.from_residual.result _ c.from_residual.ensures.1 heads.reads
    (λ reported clean w old are. heads.refused reported clean are.new) heads.no_old_schema heads.cause

pub returns-in_err-operators-clause-read : goal.returns-in_err-operators-clause-read
returns-in_err-operators-clause-read g c =
    let heads = c.in_ok-heads.ensures in
    refused_in_hand g.S.Store c.args.made c.args.connection.now c.read_old_heads_alone.new.connection
    c.from_residual-in_err-operators.result _ c.from_residual-in_err-operators.ensures.1 heads.reads
    (λ reported clean. none_of_old_heads (tables_at c.args.made (state g.S.Store c.args.connection.now).now.trees)
    c.in_ok-heads.heads (heads.value clean).1 (c.in_err-operators.ensures.refused reported))
    c.in_err-operators.ensures.fault

pub returns-clause-read : goal.returns-clause-read
returns-clause-read g c =
    let a = c.args.connection.now in
    let m = c.read_old_heads_alone.new.connection in
    let b = c.take_spans.new.connection in
    let heads = c.in_ok-heads.ensures in
    let taken = c.in_ok-take_spans.ensures in
    let check = c.take_spans.new.check in
    let ls = c.in_ok-operators.operators.items in
    let Checked : List Row → Type 0 = HasChecked check.plans.items check.cursor check.agree check.count
    check.span_bounds in
    let are = of_plans (AreOldParts c.in_ok-heads.heads ls) c.in_ok-operators.plans.items
    c.new-check.result.plans.items check.plans.items c.in_ok-operators.ensures.value c.new-check.ensures.plans
    taken.plans in
    old_content_held c.one_shape.ensures c.in_ok-heads.heads ls check.plans.items are g.S.Store c.args.made
    a b (λ found. found.0) Checked c.finish_content.result
    (λ clean. heads.value (omega (arith, taken.reads.doubt, clean)))
    (λ clean. heads.open (omega (arith, taken.reads.doubt, clean)))
    (reads_then g.S.Store a m b heads.reads taken.reads)
    (listed_since g.S.Store c.args.made (λ t. t.old_spans) a m b Checked heads.reads taken.reads heads.live
    taken.value)
    c.finish_content.ensures.value c.finish_content.ensures.agree c.finish_content.ensures.refused
    c.finish_content.ensures.fault

pub returns-clause-content : goal.returns-clause-content
returns-clause-content g c =
    let taken = c.in_ok-take_spans.ensures in
    let check = c.take_spans.new.check in
    let ls = c.in_ok-operators.operators.items in
    let are = of_plans (AreOldParts c.in_ok-heads.heads ls) c.in_ok-operators.plans.items
    c.new-check.result.plans.items check.plans.items c.in_ok-operators.ensures.value c.new-check.ensures.plans
    taken.plans in
    content_if c.one_shape.ensures c.in_ok-heads.heads ls check.plans.items are.parts (λ found. found.0)
    c.finish_content.result taken.taken.0 c.finish_content.ensures.value
    (c.finish_content.ensures.agree taken.taken.0 taken.taken.1)

pub returns-clause-known : goal.returns-clause-known
returns-clause-known g c =
    let ls = c.in_ok-operators.operators.items in
    let are = of_plans (AreOldParts c.in_ok-heads.heads ls) c.in_ok-operators.plans.items
    c.new-check.result.plans.items c.take_spans.new.check.plans.items c.in_ok-operators.ensures.value
    c.new-check.ensures.plans c.in_ok-take_spans.ensures.plans in
    c.finish_content.ensures.known are.parts.order
