-- What is said of the damage of a log.
use Rattle.std.proofs.Common.{◌≡◌, refl, Bool, true, false, if◌then◌else◌, Result, Ok, Err, ℕ, List, Option, None, Some, inl, inr, subst, sym}
use Rattle.io_ends.specs.declared.writing.WriteError.{WriteError}
use Rattle.desk_wire.specs.Streams.{Course}
use Rattle.desk_cli.specs.declared.failure.ErrorCode.{ErrorCode}
use Rattle.desk_cli.specs.declared.failure.ErrorCode.TheVariants as failure
use Rattle.desk_host.specs.FoundLogs.{IsCheckReported, IsLogCheckReported, ReportsLoss, admission_of, damage_line}
use Rattle.host_files.specs.Naming.{IsWrittenUpTo}
use Rattle.desk_host.specs.declared.damage.LogCheck.{LogCheck}
use Rattle.desk_host.specs.declared.damage.LogCheckError.{LogCheckError}
use Rattle.desk_host.specs.declared.damage.LogCheckError.TheVariants.{OutOfMemory, Unread}

-- the line that reports damage is written, whole or in part
pub loss_reported : {E : Type 0} (path : List ℕ) (frame commits : ℕ) (cut : Option (WriteError E))
    (writes : Course (Option (List ℕ))) → IsWrittenUpTo (damage_line path frame commits) cut writes
    → ReportsLoss path writes
loss_reported path frame commits None writes whole =
    record { frame = frame; commits = commits; reported = inl whole }
loss_reported path frame commits (Some cut) writes off =
    record { frame = frame; commits = commits; reported = inr (cut.fault, off) }

admits_loss : (copied : Bool) (path : List ℕ) (writes : Course (Option (List ℕ))) → ReportsLoss path writes
    → IsCheckReported copied path (if copied then Ok true else Err failure.DamagedLog) writes
admits_loss true path writes reported = (refl, reported)
admits_loss false path writes reported = (refl, reported)

-- what is reported by what came of a look at a log
admits : {E : Type 0} (copied : Bool) (path : List ℕ) (look : Result (LogCheck E) LogCheckError)
    (writes : Course (Option (List ℕ))) → IsLogCheckReported copied path look writes
    → IsCheckReported copied path (admission_of look) writes
admits copied path (Ok look) writes (inl it) = rw (it.0, it.1) it.2
admits copied path (Ok look) writes (inr it) = rw (it.0, it.1) (admits_loss copied path writes it.2)
admits copied path (Err OutOfMemory) writes same = same
admits copied path (Err (Unread fault)) writes same = inl same

pub begins : {E : Type 0} (copied : Bool) (path : List ℕ) (look : Result (LogCheck E) LogCheckError)
    (result : Result Bool ErrorCode) (writes : Course (Option (List ℕ))) → IsLogCheckReported copied path look writes
    → result ≡ admission_of look → IsCheckReported copied path result writes
begins copied path look result writes reported is =
    subst (λ r. IsCheckReported copied path r writes) (sym is) (admits copied path look writes reported)
