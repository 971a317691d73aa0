use Rattle.std.proofs.Common.{refl}
use Rattle.live_index.proofs.NearLemmas.{takes_one}
use Rattle.live_index.proofs.near.NearPlans.take.Goals as goal

pub returns : goal.returns
returns c =
    takes_one c.args.live.now c.args.self.now _ c.key.result c.key.ensures c.in_ok-insert.ensures.keys refl
