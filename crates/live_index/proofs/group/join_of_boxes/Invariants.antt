use Rattle.std.proofs.Common.{◌∷◌, take}
use Rattle.std.specs.List.{AllByRecursion}
use Rattle.live_index.specs.Live.{AreBoundedChunks, IsInBox, volumes_in}
use Rattle.live_index.proofs.group.join_of_boxes.Given as goal

abbrev pub invariant-loop-chunk : goal.invariant-loop-chunk
invariant-loop-chunk l = AreBoundedChunks (l.first ∷ l.others)
    → AllByRecursion (IsInBox l.bbox) (volumes_in (l.first ∷ take l.chunk-index l.others))
