use Rattle.std.proofs.Common.{subst}
use Rattle.table_load.specs.SpanChecks.{AwaitsAlike, HasChecked, IsFound}
use Rattle.table_load.proofs.SpanCheckLemmas.{agrees_not, agrees_if}
use Rattle.table_load.proofs.spans.SpanCheck.agrees.Goals as goal

pub returns-then-not-self-clause-agree : goal.returns-then-not-self-clause-agree
returns-then-not-self-clause-agree c rows h =
    let own = c.args.self.now in
    agrees_not own.plans.items own.cursor own.count own.span_bounds rows
    (subst (λ b. HasChecked own.plans.items own.cursor b own.count own.span_bounds rows)
    c.if-not-self.true h)

pub returns-clause-agree : goal.returns-clause-agree
returns-clause-agree c rows h =
    let own = c.args.self.now in
    agrees_if own.plans.items own.cursor own.count own.span_bounds rows c.find_slab.new.self c.in_ok-find_slab.field-0
    (subst (λ ps. AwaitsAlike ps own.cursor c.find_slab.new.self) c.deref.ensures.value c.in_ok-find_slab.ensures.same)
    (subst (λ ps. IsFound ps c.find_slab.new.self c.in_ok-find_slab.field-0) c.deref.ensures.value
    c.in_ok-find_slab.ensures.found)
    (subst (λ b. HasChecked own.plans.items own.cursor b own.count own.span_bounds rows)
    c.if-not-self.false h)
