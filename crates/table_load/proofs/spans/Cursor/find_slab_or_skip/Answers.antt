use Rattle.std.proofs.Common.{sym, ◌∙◌, subst}
use Rattle.table_load.specs.SpanChecks.{IsSlabFound}
use Rattle.table_load.proofs.SpanCheckLemmas.{leaves_closed, leaves_done, stays}
use Rattle.table_load.proofs.spans.Cursor.find_slab_or_skip.Goals as goal

pub returns-then-not-is_live-clause-same : goal.returns-then-not-is_live-clause-same
returns-then-not-is_live-clause-same c plans is =
    leaves_closed plans c.args.self.now c.args.plan.now is (sym c.is_live.ensures ∙ c.if-not-is_live.true)
    c.skip_plan.new.self c.skip_plan.ensures

pub returns-then-branch-clause-same : goal.returns-then-branch-clause-same
returns-then-branch-clause-same c plans is rows =
    stays plans c.args.self.now c.find_slab_in.new.self c.args.plan.now _ is c.in_ok-find_slab_in.ensures.plan rows
    (c.in_ok-find_slab_in.ensures.same _ rows)

pub returns-clause-same : goal.returns-clause-same
returns-clause-same c plans is =
    let found = subst (IsSlabFound c.args.plan.now c.find_slab_in.new.self) c.if-branch.false
    c.in_ok-find_slab_in.ensures.found in
    leaves_done plans c.args.self.now c.find_slab_in.new.self c.args.plan.now is c.in_ok-find_slab_in.ensures.plan
    c.in_ok-find_slab_in.ensures.same found.0 found.1
    c.skip_plan-2.new.self c.skip_plan-2.ensures
