-- What holds of the value of a result.
use Rattle.std.proofs.Common.{Result, Ok, Err, IfOk}

pub weaker : {V E : Type 0} {P Q : V → Type 0} (r : Result V E) → ((v : V) → P v → Q v) → IfOk r P
    → IfOk r Q
weaker (Ok v) f h = f v h
weaker (Err e) f h = tt
