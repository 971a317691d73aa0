use Rattle.std.proofs.Common.{◌≡◌, take}
use Rattle.volume4d.specs.Slab.{top_held}
use Rattle.volume4d.proofs.meeting.top_at.Given as goal

-- the greatest priority so far
abbrev pub invariant-loop-held : goal.invariant-loop-held
invariant-loop-held l = l.top ≡ top_held (take l.held-index l.theirs) l.x
