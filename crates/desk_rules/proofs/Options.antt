-- Options and results.
use Rattle.std.proofs.Common.{◌≡◌, Option, Some, None, Result, Ok, Err, refl}
use Rattle.std.specs.Prelude.{MatchResult, IsOk}

-- an option of which no value is shown is none
pub none_by : {A : Type 0} (o : Option A) → ((x : A) → o ≡ Some x → ⊥) → None ≡ o
none_by None h = refl
none_by (Some x) h = absurd (h x refl)

-- a result whose error can't be is Ok
pub no_error : {T E : Type 0} (r : Result T E) (P : T → Type 0) (Q : E → Type 0) → MatchResult r P Q
    → ((e : E) → Q e → ⊥) → IsOk r
no_error (Ok x) P Q is never = refl
no_error (Err e) P Q is never = absurd (never e is)
