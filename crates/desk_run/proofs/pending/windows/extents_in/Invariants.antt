use Rattle.std.proofs.Common.{take}
use Rattle.volume4d.specs.Slab.{slabs_have}
use Rattle.desk_run.specs.HeldAmong.{HavePart}
use Rattle.desk_run.proofs.pending.windows.extents_in.Given as goal

-- the extents have the points of the slabs so far
abbrev pub invariant-loop-slab : goal.invariant-loop-slab
invariant-loop-slab l = HavePart (slabs_have (take l.slab-index l.slabs)) l.piece l.extents.items
