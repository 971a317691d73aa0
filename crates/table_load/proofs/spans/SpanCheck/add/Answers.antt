use Rattle.std.proofs.Common.{◌+◌, ◌<◌, ◌^◌, ◌++◌, ◌∷◌, [], arith, subst, sym}
use Rattle.table_load.specs.SpanChecks.{HasChecked, IsNextRow}
use Rattle.table_load.proofs.SpanCheckLemmas.{checked_on, checked_off}
use Rattle.table_load.proofs.spans.SpanCheck.add.Goals as goal

pub returns-in_ok-self-clause-taken : goal.returns-in_ok-self-clause-taken
returns-in_ok-self-clause-taken c rows h =
    let own = c.args.self.now in
    let below : own.count + 1 < 2 ^ 63 = omega (arith, c.if-self-ge-TOO_MANY.false) in
    checked_on own.plans.items own.cursor own.count own.span_bounds c.with_span_row-self.result rows
    c.args.row.now below c.with_span_row-self.ensures.kept c.with_span_row-self.ensures.known c.take_if_next.new.self
    c.in_ok-self.field-0
    (subst (λ b. HasChecked own.plans.items own.cursor b own.count own.span_bounds rows) c.if-self.true h)
    (subst (λ ps. IsNextRow ps own.cursor c.take_if_next.new.self c.args.row.now c.in_ok-self.field-0)
    c.deref.ensures.value c.in_ok-self.ensures)

pub returns-else-self-clause-taken : goal.returns-else-self-clause-taken
returns-else-self-clause-taken c rows h =
    let own = c.args.self.now in
    let below : own.count + 1 < 2 ^ 63 = omega (arith, c.if-self-ge-TOO_MANY.false) in
    subst (λ b. HasChecked own.plans.items own.cursor b (own.count + 1) c.with_span_row-self.result
    (rows ++ c.args.row.now ∷ []))
    (sym c.if-self.false)
    (checked_off own.plans.items own.cursor own.count own.span_bounds c.with_span_row-self.result rows
    c.args.row.now below c.with_span_row-self.ensures.kept c.with_span_row-self.ensures.known
    (subst (λ b. HasChecked own.plans.items own.cursor b own.count own.span_bounds rows) c.if-self.false h))
