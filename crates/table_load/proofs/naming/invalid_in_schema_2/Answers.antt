use Rattle.std.proofs.Common.{List}
use Rattle.sqlite_value.specs.Order.{Row}
use Rattle.table_load.specs.OpeningSteps.{AreGoodHeads}
use Rattle.table_load.specs.SpanChecks.{HasChecked}
use Rattle.table_load.proofs.HeadLemmas.{of_plans}
use Rattle.table_load.proofs.NamedLemmas.{spans_named}
use Rattle.table_load.proofs.naming.invalid_in_schema_2.Goals as goal

pub returns-in-Ok-take_spans-clause-shows : goal.returns-in-Ok-take_spans-clause-shows
returns-in-Ok-take_spans-clause-shows g c =
    let heads = c.in-Ok.ensures in
    let taken = c.in-Ok-take_spans.ensures in
    let check = c.take_spans.new.check in
    let Checked : List Row → Type 0 = HasChecked check.plans.items check.cursor check.agree check.count
    check.span_bounds in
    let good = of_plans (AreGoodHeads c.in-Ok.heads) c.in-Ok-plans_of.plans.items
    c.new-check.result.plans.items check.plans.items c.in-Ok-plans_of.ensures.ok c.new-check.ensures.plans
    taken.plans in
    spans_named g.S.Store c.args.connection.now c.read_heads.new.connection c.take_spans.new.connection c.fault_of_spans.result
    c.args.made heads.reads taken.reads c.in-Ok.heads c.in-Ok.covered check.plans.items Checked heads.value good
    taken.value c.fault_of_spans.ensures
