-- Extents and their faults.
use Rattle.std.proofs.Common.{◌≡◌, Bool, true, false, cond, Ok, Err, refl, ap, ◌∙◌}
use Rattle.volume4d.specs.VolumeLimits.{within_altitudes, within_times, within_length}
use Rattle.volume4d.specs.Volume.{WindowParts, window_or_fault}

all_pass : {A E : Type 0} (x y z : Bool) (e : A) (a b c : E) → true ≡ x → true ≡ y → true ≡ z → Ok e
    ≡ cond x (cond y (cond z (Ok e) (Err c)) (Err b)) (Err a)
all_pass true true true e a b c p q r = refl
all_pass true true false e a b c p q r = cc
all_pass true false z e a b c p q r = cc
all_pass false y z e a b c p q r = cc

pub checked_ok : (e f : WindowParts) → f.lower ≡ e.lower → f.upper ≡ e.upper → f.start ≡ e.start → f.end
    ≡ e.end → true ≡ within_altitudes f.lower f.upper → true ≡ within_times f.start f.end → true
    ≡ within_length f.start f.end → Ok f ≡ window_or_fault e
checked_ok e f l u s t a b c =
    let same : f ≡ e = λ i. record { lower = l i; upper = u i; start = s i; end = t i } in
    all_pass _ _ _ f _ _ _ a b c ∙ ap window_or_fault same
