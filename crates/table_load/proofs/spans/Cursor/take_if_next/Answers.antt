use Rattle.std.proofs.Common.{◌∙◌, sym, subst, true≢false}
use Rattle.table_load.specs.SpanChecks.{IsFound}
use Rattle.table_load.specs.contracts.spans.Cursor.{the_view}
use Rattle.table_load.proofs.SpanCheckLemmas.{takes, refuses}
use Rattle.table_load.proofs.spans.Cursor.take_if_next.Goals as goal

pub returns : goal.returns
returns c rest =
    let at = the_view c.self.inside in
    takes c.args.plans.now c.args.self.now c.find_slab.new.self at c.in-Some.plan.now c.in-Some-get.slab.now
    c.args.row.now c.self.view_is c.in_ok-find_slab.ensures.same
    (subst (IsFound c.args.plans.now c.find_slab.new.self) c.if-not-branch.false c.in_ok-find_slab.ensures.found)
    c.in-Some.ensures.lookup.3.0 c.in-Some.ensures.lookup.1 c.deref.result.now c.deref.ensures.value
    c.in-Some-get.ensures.lookup.3.0 c.in-Some-get.ensures.lookup.1
    (c.is_slab_row.ensures.0 c.if-not-is_slab_row.false) rest

pub returns-then-not-is_slab_row : goal.returns-then-not-is_slab_row
returns-then-not-is_slab_row c rest =
    let at = the_view c.self.inside in
    refuses c.args.plans.now c.args.self.now c.find_slab.new.self at c.in-Some.plan.now c.in-Some-get.slab.now
    c.args.row.now c.self.view_is c.in_ok-find_slab.ensures.same
    (subst (IsFound c.args.plans.now c.find_slab.new.self) c.if-not-branch.false c.in_ok-find_slab.ensures.found)
    c.in-Some.ensures.lookup.3.0 c.in-Some.ensures.lookup.1 c.deref.result.now c.deref.ensures.value
    c.in-Some-get.ensures.lookup.3.0 c.in-Some-get.ensures.lookup.1
    (λ is. true≢false (sym (c.is_slab_row.ensures.1 is) ∙ c.if-not-is_slab_row.true)) rest
