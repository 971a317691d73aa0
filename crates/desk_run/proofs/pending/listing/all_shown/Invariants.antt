use Rattle.std.proofs.Common.{◌≡◌, ℕ, Option, map, take}
use Rattle.volume4d.specs.Volume.{Point}
use Rattle.desk_run.specs.HeldAmong.{HaveLevelAt, some_hold}
use Rattle.desk_run.specs.Verdicts.{shown_plan}
use Rattle.desk_run.proofs.pending.listing.all_shown.Given as goal

-- the plans so far are shown
abbrev pub invariant-loop-plan : goal.invariant-loop-plan
invariant-loop-plan l =
    (levels : Point → Option ℕ) → HaveLevelAt (some_hold l.plans) l.others levels
    → l.all.items ≡ map (shown_plan l.permitted l.plans levels) (take l.plan-index l.plans)
