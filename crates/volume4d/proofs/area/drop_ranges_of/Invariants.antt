use Rattle.std.proofs.Common.{◌≡◌}
use Rattle.volume4d.proofs.area.drop_ranges_of.Given as goal

-- the volumes are what they were
abbrev pub invariant-loop-volume : goal.invariant-loop-volume
invariant-loop-volume l = l.volumes ≡ l.fn.volumes
