use Rattle.std.proofs.Common.{drop}
use Rattle.std.proofs.lemmas.List.{drop_all}
use Rattle.volume4d.specs.Slab.{top_held}
use Rattle.desk_run.proofs.ListingLemmas.{own_added, own_end}
use Rattle.desk_run.proofs.pending.listing.push_own.Goals as goal

pub loop-plan-preserved : goal.loop-plan-preserved
loop-plan-preserved c = λ x has.
    own_added c.args.least c.args.mine.now.id c.args.plans.now c.loop-plan.plan-index c.plan-item.result x
    (top_held c.loop-plan.theirs.items x) (top_held c.push_blocking.new.theirs.items x) _
    c.loop-plan-test.true c.plan-item.is (c.in_ok-push_blocking.ensures x has) (c.loop-plan.invariant x has)

pub returns : goal.returns
returns c = λ x has.
    own_end c.args.least c.args.mine.now.id (drop c.loop-plan.plan-index c.args.plans.now) x _ _
    (drop_all c.loop-plan.plan-index c.args.plans.now c.loop-plan-test.false) (c.loop-plan.invariant x has)
