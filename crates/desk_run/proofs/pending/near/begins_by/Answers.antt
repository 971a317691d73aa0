use Rattle.desk_run.proofs.ListingLemmas.{after_first}
use Rattle.desk_run.proofs.pending.near.begins_by.Goals as goal

pub returns-in-Some : goal.returns-in-Some
returns-in-Some c = λ late.
    after_first c.args.position c.args.slabs.now c.in-Some.slab.now c.in-Some.ensures.value c.requires late
