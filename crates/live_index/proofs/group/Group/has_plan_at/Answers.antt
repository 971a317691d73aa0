use Rattle.std.proofs.Common.{◌≡◌, ◌<◌, true, IfSome, length, rules, slice_get, subst}
use Rattle.live_index.specs.Live.{chunk_has_plan}
use Rattle.live_index.proofs.ChunkLemmas.{any_where}
use Rattle.live_index.proofs.group.Group.has_plan_at.Goals as goal

pub returns : goal.returns
returns c = λ is.
    let below : c.chunk_with.result < length c.args.self.now.chunks.items = search rules in
    let plan = c.args.rank.now.plan in
    any_where (chunk_has_plan plan.operator plan.id) c.args.self.now.chunks.items c.chunk_with.result below
    (subst (λ cs. IfSome (slice_get cs c.chunk_with.result)
    (λ k. chunk_has_plan plan.operator plan.id k ≡ true)) c.deref.ensures.value c.chunk_with.ensures.found)
