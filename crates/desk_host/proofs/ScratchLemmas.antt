-- What the steps of a scratch copy come to.
use Rattle.std.proofs.Common.{◌≡◌, ℕ, Bool, List, Option, subst}
use Rattle.desk_wire.specs.Streams.{course}
use Rattle.host_files.specs.Naming.{Removed, Step, Steps, Takes, log_of}
use Rattle.desk_host.specs.FoundLogs.{AreRemoved, IsAsked}

asked : (steps : Steps) (done : Bool) (path name : List ℕ) → path ≡ name
    → Takes steps done (Removed path) → IsAsked (Removed name) steps
asked steps done path name same made =
    record { is_done = done; made = subst (λ it. Takes steps done (Removed it)) same made }

-- a scratch copy and its log are removed
pub both_removed : (scratch : List ℕ) (old mid new : Option (List Step)) (one other : Bool) (path log : List ℕ)
    → path ≡ scratch → log ≡ log_of scratch → Takes (course old mid) one (Removed path)
    → Takes (course mid new) other (Removed log) → AreRemoved scratch (course old new)
both_removed scratch old mid new one other path log is is_log first next = record {
  between = mid;
  file = asked (course old mid) one path scratch is first;
  log = asked (course mid new) other log (log_of scratch) is_log next;
}
