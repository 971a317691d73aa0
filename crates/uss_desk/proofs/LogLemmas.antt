-- With which failures a file is refused for its log.
use Rattle.std.proofs.Common.{◌≡◌, ℕ, Bool, true, false, List, Option, None, Some, Result, Ok, Err, IfErr, IfNone, IfSome, inl, inr, refl, sym, subst}
use Rattle.desk_wire.specs.Streams.{Course}
use Rattle.desk_cli.specs.declared.failure.ErrorCode.{ErrorCode}
use Rattle.desk_cli.specs.declared.failure.ErrorCode.TheVariants as failure
use Rattle.desk_host.specs.FoundLogs.{IsCheckReported}
use Rattle.uss_desk.specs.Finishing.{IsLogRefused}

-- a log is damaged, which refuses no file that is copied; or it can't be read, or memory ran out
begun_fails : (copied : Bool) (path : List ℕ) (begun : Result Bool ErrorCode)
    (writes : Course (Option (List ℕ))) → IsCheckReported copied path begun writes → IfErr begun (IsLogRefused copied)
begun_fails copied path (Ok damaged) writes is = tt
begun_fails copied path (Err failure.DamagedLog) writes is = inl (is.0, refl)
begun_fails copied path (Err failure.Memory) writes is = inr (inl refl)
begun_fails copied path (Err failure.Store) writes is = inr (inr refl)
begun_fails copied path (Err failure.Value) writes is = absurd is
begun_fails copied path (Err failure.Unframed) writes is = absurd is
begun_fails copied path (Err failure.CutShort) writes is = absurd is
begun_fails copied path (Err failure.Read) writes is = absurd is
begun_fails copied path (Err failure.Limit) writes is = absurd is
begun_fails copied path (Err (failure.Token fault)) writes is = absurd is
begun_fails copied path (Err (failure.Rect fault)) writes is = absurd is
begun_fails copied path (Err failure.TooManyCells) writes is = absurd is
begun_fails copied path (Err failure.Broken) writes is = absurd is
begun_fails copied path (Err failure.Write) writes is = absurd is
begun_fails copied path (Err failure.Network) writes is = absurd is
begun_fails copied path (Err failure.Clock) writes is = absurd is
begun_fails copied path (Err failure.NotADesk) writes is = absurd is
begun_fails copied path (Err failure.OldSchema) writes is = absurd is
begun_fails copied path (Err failure.NoRecord) writes is = absurd is
begun_fails copied path (Err failure.Differs) writes is = absurd is

-- of a database in memory no log is looked at
pub log_refuses : (copied : Bool) (file : Option (List ℕ)) (begun : Result Bool ErrorCode)
    (writes : Course (Option (List ℕ))) → IfSome file (λ path. IsCheckReported copied path begun writes)
    → IfNone file ((begun ≡ Ok false) × (writes.after ≡ writes.before)) → IfErr begun (IsLogRefused copied)
log_refuses copied (Some path) begun writes is none = begun_fails copied path begun writes is
log_refuses copied None begun writes is none = subst (λ r. IfErr r (IsLogRefused copied)) (sym none.0) tt
