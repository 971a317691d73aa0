use Rattle.std.proofs.Common.{◌≤◌, length, take}
use Rattle.std.specs.Prelude.{All}
use Rattle.volume4d.specs.Sweep.{HaveAllLeft, IsCovered}
use Rattle.volume4d.proofs.sweep.fill_lanes.Given as goal

-- each slab so far has a lane
abbrev pub invariant-loop-slab : goal.invariant-loop-slab
invariant-loop-slab l = record {
  within : l.count ≤ length l.lanes;
  covered : All (IsCovered (take l.count l.lanes)) (take l.slab-index l.mine);
  of : HaveAllLeft l.mine l.lanes;
}
