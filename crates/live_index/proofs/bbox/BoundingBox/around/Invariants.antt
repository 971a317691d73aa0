use Rattle.std.proofs.Common.{◌∷◌, take}
use Rattle.std.specs.List.{AllByRecursion}
use Rattle.live_index.specs.Live.{IsInBox}
use Rattle.live_index.proofs.bbox.BoundingBox.around.Given as goal

abbrev pub invariant-loop-live : goal.invariant-loop-live
invariant-loop-live l = AllByRecursion (IsInBox l.bbox) (l.first ∷ take l.live-index l.more)
