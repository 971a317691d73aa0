-- What is written of a line.
use Rattle.std.proofs.Common.{◌≡◌, ℕ, List, Option, Result, Ok, Err, IfErr, OnOk, inl, inr, refl, subst, sym}
use Rattle.std.specs.Io.KnownBytes.{Appends}
use Rattle.std.specs.Result.{IsErrAnd}
use Rattle.desk_cli.specs.declared.failure.ErrorCode.{ErrorCode}
use Rattle.desk_cli.specs.Exits.{IsAnnounced, IsPartlyWritten}
use Rattle.desk_cli.specs.declared.failure.ErrorCode.TheVariants as failure

-- the printing of a line, by what came of it
pub announced_by : {A : Type 0} (done : Result A ErrorCode) (line : List ℕ) (out now : Option (List ℕ))
    → OnOk done (Appends out now line) → IfErr done (λ f. (f ≡ failure.Write) × IsPartlyWritten line out now)
    → IsAnnounced done line out now
announced_by (Ok d) line out now ok err = ok
announced_by (Err f) line out now ok err = inr (inr err)

-- a failure before anything is printed
pub announced_none : {A : Type 0} (done : Result A ErrorCode) (P : ErrorCode → Type 0) (line : List ℕ)
    (out : Option (List ℕ)) → IsErrAnd done P → IsAnnounced done line out out
announced_none (Ok d) P line out is = absurd is
announced_none (Err e) P line out is = inr (inl refl)

-- a failure that is handed on
pub announced_same : {A B : Type 0} (one : Result A ErrorCode) (whole : Result B ErrorCode) (f : ErrorCode)
    (line : List ℕ) (out now : Option (List ℕ)) → one ≡ Err f → IsErrAnd whole (λ e. e ≡ f)
    → IsAnnounced one line out now → IsAnnounced whole line out now
announced_same one (Ok d) f line out now was is h = absurd is
announced_same {A} {B} one (Err e) f line out now was is h =
    subst (λ v. IsAnnounced {A = B} (Err v) line out now) (sym is)
    (subst (λ r. IsAnnounced r line out now) was h)

-- the line is printed, whatever follows
pub announced_whole : {A : Type 0} (done : Result A ErrorCode) (line : List ℕ) (out now : Option (List ℕ))
    → Appends out now line → IsAnnounced done line out now
announced_whole (Ok d) line out now h = h
announced_whole (Err f) line out now h = inl h
