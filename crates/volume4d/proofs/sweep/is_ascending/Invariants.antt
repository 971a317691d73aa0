use Rattle.std.proofs.Common.{take}
use Rattle.volume4d.proofs.Sweeping.{IsRisingTo}
use Rattle.volume4d.proofs.sweep.is_ascending.Given as goal

-- those so far ascend, and none begins after the last
abbrev pub invariant-loop-item : goal.invariant-loop-item
invariant-loop-item g l = IsRisingTo g.T.HasSlab.slab_of (take l.item-index l.list) l.first
