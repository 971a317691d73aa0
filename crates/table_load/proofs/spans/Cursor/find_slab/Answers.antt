use Rattle.std.proofs.Common.{ap, subst}
use Rattle.table_load.specs.SpanChecks.{IsEntered, Place}
use Rattle.table_load.proofs.SpanCheckLemmas.{alike, has_slab, under_way}
use Rattle.table_load.proofs.spans.Cursor.find_slab.Goals as goal

pub returns-then-branch-clause-same : goal.returns-then-branch-clause-same
returns-then-branch-clause-same c rows =
    alike (c.loop-plan.invariant rows) (c.in_ok-find_slab_or_skip.ensures.same c.args.plans.now
    (under_way c.args.plans.now c.self.inside.plan c.loop-plan.self c.in-Some.plan.now
    (ap (λ (x : Place). x.plan) c.self.view_is) c.in-Some.ensures.lookup.3.0 c.in-Some.ensures.lookup.1) rows)

pub returns-then-branch-clause-found : goal.returns-then-branch-clause-found
returns-then-branch-clause-found c =
    has_slab c.args.plans.now c.loop-plan.self c.find_slab_or_skip.new.self c.in-Some.plan.now
    (under_way c.args.plans.now c.self.inside.plan c.loop-plan.self c.in-Some.plan.now
    (ap (λ (x : Place). x.plan) c.self.view_is) c.in-Some.ensures.lookup.3.0 c.in-Some.ensures.lookup.1)
    (subst (IsEntered c.in-Some.plan.now c.loop-plan.self c.find_slab_or_skip.new.self) c.if-branch.true
    c.in_ok-find_slab_or_skip.ensures.found)

pub loop-plan-preserved : goal.loop-plan-preserved
loop-plan-preserved c rows =
    alike (c.loop-plan.invariant rows) (c.in_ok-find_slab_or_skip.ensures.same c.args.plans.now
    (under_way c.args.plans.now c.self.inside.plan c.loop-plan.self c.in-Some.plan.now
    (ap (λ (x : Place). x.plan) c.self.view_is) c.in-Some.ensures.lookup.3.0 c.in-Some.ensures.lookup.1) rows)
