use Rattle.std.proofs.Common.{rules}
use Rattle.live_index.specs.Live.{IsBoundedGroup, volumes_in}
use Rattle.live_index.proofs.ChunkLemmas.{cut_goes_on}
use Rattle.live_index.proofs.group.grouped.Goals as goal

pub loop-rest-preserved : goal.loop-rest-preserved
loop-rest-preserved c =
    cut_goes_on (λ g. volumes_in g.chunks.items) IsBoundedGroup c.args.lives.now c.loop-rest.groups.items
    c.push.new.self.items c.loop-rest.rest.now c.split_at.result.0.now c.split_at.result.1.now
    c.in_ok-try_new.field-0 c.loop-rest.invariant (search rules) c.in_ok-try_new.ensures.same
    c.in_ok-try_new.ensures.group_bounded c.in_ok-push.ensures.items
