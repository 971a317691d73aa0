-- Why a desk failed, from an answer that says so to all that was answered.
use Rattle.std.proofs.Common.{◌≡◌, ◌≢◌, ◌≤◌, ℕ, List, [], ◌∷◌, ◌++◌, true, Bool, Option, Some, None, IfSome, is_some, map, refl, subst}
use Rattle.std.proofs.lemmas.List.{map-append}
use Rattle.std.proofs.KnownBytes.{Appends-nil, Appends-trans}
use Rattle.std.specs.Io.KnownBytes.{Appends}
use Rattle.desk_store.specs.Changes.{HasRisen}
use Rattle.desk_run.specs.Verdicts.{DeskWorld}
use Rattle.desk_run.proofs.lemmas.Crash.{risen_since}
use Rattle.io_ends.specs.declared.serving.Served.{Served}
use Rattle.io_ends.specs.declared.serving.Served.TheVariants.{Answered}
use Rattle.desk_wire.specs.declared.response.ServerError.{ServerError}
use Rattle.desk_wire.specs.declared.response.ServerError.TheVariants.{OutOfMemory, Store}
use Rattle.desk_wire.specs.Bytes.{IsServerError, AppendsLast, HasFailed, HasStoreCause, HasStatus500, IsLastAnswer, server_error_text}

cause_of : (why : ServerError) (old new : ℕ) → (Some why ≡ Some Store → HasRisen old new)
    → HasStoreCause why old new
cause_of OutOfMemory old new risen = tt
cause_of Store old new risen = risen refl

-- an answer that says why the desk failed, wherever it stands
pub failed_there : (IsSaid : List ℕ → Type 0) (e : Option ServerError) (w after : DeskWorld)
    (answer : List ℕ) (old new : ℕ) → e ≢ None → IfSome e (λ why. IsServerError why w answer after)
    → (e ≡ Some Store → HasRisen old new) → IsSaid answer → HasFailed IsSaid old new
failed_there IsSaid None w after answer old new some says risen said = absurd (some refl)
failed_there IsSaid (Some why) w after answer old new some says risen said = record {
  why = why;
  said = subst IsSaid says.reported said;
  cause = cause_of why old new risen;
}

pub not_none : {A : Type 0} (e : Option A) → is_some e ≡ true → e ≢ None
not_none (Some a) some is = cc
not_none None some is = cc

pub cause_since : (why : ServerError) (first old new : ℕ) → first ≤ old → HasStoreCause why old new
    → HasStoreCause why first new
cause_since OutOfMemory first old new below cause = tt
cause_since Store first old new below cause = risen_since first old new below cause

-- the last of the answers to a list
pub last_said : {V : Type 0} (items : V → List ℕ) (answers : List V) (answer : V)
    → IsLastAnswer (map items (answers ++ answer ∷ [])) (items answer)
last_said items answers answer = (map items answers, map-append items answers (answer ∷ []))

-- what was served
pub failed_served : (IsSaid : List ℕ → Type 0) (s : Served) (status : ℕ) (framed : Bool) (old new : ℕ)
    → s ≡ Answered status framed → (status ≡ 500 → HasFailed IsSaid old new)
    → HasStatus500 s → HasFailed IsSaid old new
failed_served IsSaid s status framed old new is failed given =
    failed (subst HasStatus500 is given)

-- some bytes were written
abbrev pub Grows : Option (List ℕ) → Option (List ℕ) → Type 0
Grows out now = (bytes : List ℕ) × Appends out now bytes

pub grows_none : (out : Option (List ℕ)) → Grows out out
grows_none out = ([], Appends-nil out)

pub grows_more : (out then_out now : Option (List ℕ)) (more : List ℕ) → Grows out then_out
    → Appends then_out now more → Grows out now
grows_more out then_out now more h next = (h.0 ++ more, Appends-trans out then_out now h.0 more h.1 next)

-- the last that was served on a stream
pub failed_last : (out then_out now : Option (List ℕ)) (first old new : ℕ) → Grows out then_out
    → first ≤ old → HasFailed (Appends then_out now) old new
    → HasFailed (AppendsLast out now) first new
failed_last out then_out now first old new h below failed = record {
  why = failed.why;
  said = (h.0, Appends-trans out then_out now h.0 (server_error_text failed.why) h.1 failed.said);
  cause = cause_since failed.why first old new below failed.cause;
}
