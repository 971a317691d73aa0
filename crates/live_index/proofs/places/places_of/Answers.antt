use Rattle.std.proofs.Common.{arith}
use Rattle.live_index.proofs.PlaceLemmas.{placed_more}
use Rattle.live_index.proofs.places.places_of.Goals as goal

pub loop-live-init : goal.loop-live-init
loop-live-init c = λ o id. omega arith

pub loop-live-preserved : goal.loop-live-preserved
loop-live-preserved c =
    placed_more c.loop-live.places c.add.new.self c.args.lives.now c.loop-live.live-index c.live-item.result
    c.loop-live-test.true c.live-item.is c.loop-live.invariant c.add.ensures.kept c.in_ok-add.ensures.added
