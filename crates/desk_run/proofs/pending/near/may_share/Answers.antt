use Rattle.std.proofs.Common.{sym, ◌∙◌}
use Rattle.desk_run.proofs.ListingLemmas.{apart_all, apart_bounds}
use Rattle.desk_run.proofs.pending.near.may_share.Goals as goal

pub returns-then-not-overlaps : goal.returns-then-not-overlaps
returns-then-not-overlaps c = λ apart x here within has.
    apart_bounds c.args.slab.now c.args.bounds.now x (sym c.overlaps.ensures ∙ c.if-not-overlaps.true) here

pub returns : goal.returns
returns c = λ apart x here within has.
    apart_all c.args.slab.now c.args.parts.now x (sym c.overlaps_one.ensures ∙ apart) within
