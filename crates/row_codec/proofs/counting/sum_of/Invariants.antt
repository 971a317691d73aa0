use Rattle.std.proofs.Common.{◌≡◌, ◌*◌, ◌≤◌, take}
use Rattle.std.specs.List.{sum_by}
use Rattle.volume4d.specs.VolumeLimits.{max_cover, max_volumes}
use Rattle.row_codec.specs.SpanBounds.{count_of}
use Rattle.row_codec.proofs.counting.sum_of.Given as goal

-- what is counted of the plans so far, of which each has at most as much as an area may have
abbrev pub invariant-loop-plan : goal.invariant-loop-plan
invariant-loop-plan l =
    record {
      sum : l.sum ≡ sum_by (λ p. count_of l.counted p.row) (take l.plan-index l.plans);
      few : l.sum ≤ l.plan-index * (max_volumes * max_cover);
    }
