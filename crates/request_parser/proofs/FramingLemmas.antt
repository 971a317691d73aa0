-- A search upwards for the least number that passes a test.
use Rattle.std.proofs.Common.{◌≡◌, ℕ, zero, suc, ◌<◌, Bool, true, Some, None, arith, sym, inl, inr}
use Rattle.std.proofs.lemmas.Bool.{cases_eq}
use Rattle.request_parser.specs.Heads.{least}

-- no number below n passes, and n does
pub least_found : (test : ℕ → Bool) (n bound : ℕ) → least test n ≡ None → test n ≡ true → n < bound
    → least test bound ≡ Some n
least_found test n zero none passes below = absurd (omega arith)
least_found test n (suc bound) none passes below =
    elim (cases_eq n bound) [
      | inl same ↦ rw (sym same, none, passes)
      | inr other ↦ rw (least_found test n bound none passes (omega arith))
    ]
