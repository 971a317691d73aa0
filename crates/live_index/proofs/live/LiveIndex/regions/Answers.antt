use Rattle.std.proofs.Common.{rules}
use Rattle.std.proofs.lemmas.Fn.{filter_same}
use Rattle.std.proofs.lemmas.Result.{IfOk-weaker}
use Rattle.live_index.specs.Live.{has_theirs}
use Rattle.live_index.proofs.RegionLemmas.{nothing_beside}
use Rattle.live_index.proofs.live.LiveIndex.regions.Goals as goal

pub returns : goal.returns
returns c =
    let test = has_theirs c.args.operator.now c.args.self.now in
    IfOk-weaker c.joined.result _ _ (λ regions each w kept.
    nothing_beside c.args.operator.now w c.args.self.now c.args.extents.now _ _ regions.items kept
    c.in_ok-near.ensures (filter_same _ test _ (λ x b f' k. search rules) _ _ c.retain.ensures.filtered) each)
    c.joined.ensures
