use Rattle.std.proofs.Common.{take}
use Rattle.live_index.specs.Live.{ArePlaced}
use Rattle.live_index.proofs.places.places_of.Given as goal

abbrev pub invariant-loop-live : goal.invariant-loop-live
invariant-loop-live l = ArePlaced l.places (take l.live-index l.lives)
