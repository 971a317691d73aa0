-- What is written of some bytes.
use Rattle.std.proofs.Common.{◌≡◌, ℕ, ◌+◌, ◌-◌, ◌≤◌, List, ◌++◌, Option, length, take, drop, sym, ap, subst, ◌∙◌, arith, length-drop, Result, Ok, Err, IfOk, OnErr}
use Rattle.std.specs.Io.{WritesAtMost}
use Rattle.std.proofs.lemmas.List.{take_all, take-take, drop-take, take-append-drop}
use Rattle.std.proofs.KnownBytes.{Appends-kept, Appends-trans}
use Rattle.std.specs.Io.KnownBytes.{Appends, WriteAppends}

pub written_all : (out now : Option (List ℕ)) (bytes : List ℕ) (n : ℕ) → Appends out now (take n bytes)
    → n
    ≡ length bytes → Appends out now bytes
written_all out now bytes n h all = subst (Appends out now) (take_all n bytes (omega (arith, all))) h

take_more_rest : (n m : ℕ) (xs : List ℕ) → n ≤ length xs → take n xs ++ take m (drop n xs)
    ≡ take (n + m) xs
take_more_rest n m xs within =
    ap (λ ys. ys ++ take m (drop n xs)) (sym (take-take n (n + m) xs (omega arith)))
    ∙ ap (λ ys. take n (take (n + m) xs) ++ ys) (sym (drop-take n m xs))
    ∙ take-append-drop n (take (n + m) xs)

pub rest_is : (n : ℕ) (xs : List ℕ) → take (length xs - n) (drop n xs) ≡ drop n xs
rest_is n xs = take_all (length xs - n) (drop n xs) (omega (arith, length-drop n xs))

pub written_more : (out now after : Option (List ℕ)) (bytes rest : List ℕ) (n m : ℕ)
    → Appends out now (take n bytes) → Appends now after (take m rest) → rest ≡ drop n bytes
    → n ≤ length bytes → Appends out after (take (n + m) bytes)
written_more out now after bytes rest n m h more is within =
    subst (Appends out after) (ap (λ r. take n bytes ++ take m r) is ∙ take_more_rest n m bytes within)
    (Appends-trans out now after (take n bytes) (take m rest) h more)

-- what one write took more
pub taken_more : {E : Type 0} (written : Result ℕ E) (out now after : Option (List ℕ)) (bytes rest : List ℕ)
    (n taken : ℕ) → Appends out now (take n bytes) → rest ≡ drop n bytes → n ≤ length bytes
    → IfOk written (λ count. taken ≡ count) → OnErr written (taken ≡ 0) → WritesAtMost written rest
    → WriteAppends now after written rest
    → (n + taken ≤ length bytes) × Appends out after (take (n + taken) bytes)
taken_more (Ok count) out now after bytes rest n taken h is within ok err bound more = (
  omega (arith, ok, bound, ap length is, length-drop n bytes, within),
  written_more out now after bytes rest n taken h (subst (λ k. Appends now after (take k rest)) (sym ok) more)
      is within,
)
taken_more (Err e) out now after bytes rest n taken h is within ok err bound more = (
  omega (arith, err, within),
  subst (λ k. Appends out after (take k bytes)) (omega (arith, err)) (Appends-kept out now after _ h more),
)
