use Rattle.std.proofs.Common.{take}
use Rattle.volume4d.specs.Slab.{AreSlabsOn}
use Rattle.volume4d.proofs.volume.slabs_of.Given as goal

-- the slabs of the spans so far
abbrev pub invariant-loop-span : goal.invariant-loop-span
invariant-loop-span l = AreSlabsOn (take l.span-index l.spans) l.window l.slabs.items
