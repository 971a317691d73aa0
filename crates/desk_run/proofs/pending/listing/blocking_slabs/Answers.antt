use Rattle.std.proofs.Common.{◌∙◌, ap}
use Rattle.volume4d.specs.Slab.{top_held}
use Rattle.volume4d.proofs.lemmas.Level.{top_held-nil}
use Rattle.desk_run.proofs.ListingLemmas.{in_the_way_at}
use Rattle.desk_run.proofs.pending.listing.blocking_slabs.Goals as goal

pub returns : goal.returns
returns c = λ levels here x has.
    c.in_order.ensures.same x
    ∙ in_the_way_at c.args.least c.args.plans.now levels c.args.plan.now.id x
    (top_held c.new-theirs.result.items x) (top_held c.args.others.now x)
    (top_held c.push_others.new.theirs.items x) (top_held c.push_own.new.theirs.items x)
    (ap (λ hs. top_held hs x) c.new-theirs.ensures.items ∙ top_held-nil x) (here x has)
    (c.in_ok-push_others.ensures x has) (c.in_ok-push_own.ensures x has)
