use Rattle.std.proofs.Common.{◌≡◌, ◌*◌, ◌≤◌, take}
use Rattle.std.specs.List.{sum_by}
use Rattle.volume4d.specs.VolumeLimits.{max_cover}
use Rattle.volume4d.specs.Volume.{volume_spans}
use Rattle.volume4d.proofs.area.Area.span_count.Given as goal

-- the slabs of the volumes so far, of which each has at most as many as the cover of a rectangle
abbrev pub invariant-loop-volume : goal.invariant-loop-volume
invariant-loop-volume l =
    record {
      sum : l.spans ≡ sum_by volume_spans (take l.volume-index l.volumes);
      few : l.spans ≤ l.volume-index * max_cover;
    }
