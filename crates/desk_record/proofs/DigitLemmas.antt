-- Digits: a number is read from the digits that it is written as.
use Rattle.std.proofs.Common.{◌≡◌, ◌<◌, ◌^◌, ℕ, zero, suc, ◌+◌, ◌-◌, ◌*◌, ◌/◌, ◌%◌, List, [], ◌∷◌, ◌++◌, length, Option, Some, None, Bool, true, false, refl, ap, ◌∙◌, arith, length-append, add-one, append_assoc}
use Rattle.std.specs.Prelude.{option_and_then, nat_lt, ◌&&◌, if◌then◌else◌}
use Rattle.std.specs.Char.{is_ascii_digit}
use Rattle.std.proofs.Math.Nat.{pow-suc}
use Rattle.std.proofs.lemmas.Bool.Decides.{nat_tests}
use Rattle.desk_record.specs.Record.{digits, number, next_digit, number_from}

pub length_digits : (width n : ℕ) → length (digits width n) ≡ width
unfolding digits
length_digits zero n = refl
length_digits (suc width) n =
    length-append (digits width (n / 10)) ((48 + n % 10) ∷ [])
    ∙ ap (λ k. k + 1) (length_digits width (n / 10)) ∙ add-one width

-- the last digit is written behind the others
pub one_digit : (width n : ℕ) (old mid new : List ℕ) → (width ≡ 0 → ⊥)
    → mid ≡ old ++ digits (width - 1) (n / 10)
    → new ≡ mid ++ ((48 + n % 10) ∷ []) → new ≡ old ++ digits width n
unfolding digits
one_digit zero n old mid new some before last = absurd (some refl)
one_digit (suc width) n old mid new some before last =
    let less : suc width - 1 ≡ width = omega arith in
    last ∙ ap (λ m. m ++ ((48 + n % 10) ∷ [])) (before ∙ ap (λ w. old ++ digits w (n / 10)) less)
    ∙ append_assoc old (digits width (n / 10)) ((48 + n % 10) ∷ [])

-- one number after the other
more_digits : (n : ℕ) (xs ys : List ℕ)
    → number_from n (xs ++ ys) ≡ option_and_then (λ m. number_from m ys) (number_from n xs)
more_digits n [] ys = refl
more_digits n (x ∷ xs) ys = by_next (λ m. more_digits m xs ys) (next_digit n x) where
  by_next : ((m : ℕ) → number_from m (xs ++ ys) ≡ option_and_then (λ k. number_from k ys) (number_from m xs))
      → (next : Option ℕ) → option_and_then (λ m. number_from m (xs ++ ys)) next
      ≡ option_and_then (λ m. number_from m ys) (option_and_then (λ m. number_from m xs) next)
  by_next more None = refl
  by_next more (Some m) = more m

next_is : (n d : ℕ) → d < 10 → n * 10 + d < 2 ^ 64 → next_digit n (48 + d) ≡ Some (n * 10 + d)
next_is n d low fits =
    let same : n * 10 + ((48 + d) - 48) ≡ n * 10 + d = omega arith in
    let digit : is_ascii_digit (48 + d) ≡ true = grind (arith, nat_tests) in
    let small : nat_lt (n * 10 + d) (2 ^ 64) ≡ true = grind (arith, nat_tests) in
    rw (same, digit, small) refl

-- the digits of a number give it
read_digits : (width n : ℕ) → n < 10 ^ width → n < 2 ^ 64 → number_from 0 (digits width n) ≡ Some n
unfolding digits
read_digits zero n low fits = ap Some (omega arith)
read_digits (suc width) n low fits =
    let less : n < 10 ^ width * 10 = rw (pow-suc 10 width) at low in
    let before = read_digits width (n / 10) (omega (arith, less)) (omega arith) in
    let whole : n / 10 * 10 + n % 10 ≡ n = omega arith in
    let next = next_is (n / 10) (n % 10) (omega arith) (omega arith) in
    more_digits 0 (digits width (n / 10)) ((48 + n % 10) ∷ [])
    ∙ ap (option_and_then (λ m. number_from m ((48 + n % 10) ∷ []))) before
    ∙ ap (option_and_then (λ m. Some m)) next ∙ ap Some whole

pub read_number : (n : ℕ) → n < 2 ^ 64 → number_from 0 (number n) ≡ Some n
unfolding number
read_number n fits = read_digits 20 n (omega arith) fits

-- a number that was read is of 64 bits
pub read_fits : (n : ℕ) (text : List ℕ) (m : ℕ) → n < 2 ^ 64 → number_from n text ≡ Some m → m < 2 ^ 64
read_fits n [] m low e = let same : n ≡ m = cc in omega (arith, same)
read_fits n (d ∷ ds) m low e =
    by_next (n * 10 + (d - 48)) (read_fits (n * 10 + (d - 48)) ds m) (is_ascii_digit d)
    (nat_lt (n * 10 + (d - 48)) (2 ^ 64)) refl e where
      by_next : (k : ℕ) → (k < 2 ^ 64 → number_from k ds ≡ Some m → m < 2 ^ 64) → (digit small : Bool)
          → nat_lt k (2 ^ 64) ≡ small
          → option_and_then (λ k. number_from k ds) (if digit && small then Some k else None) ≡ Some m
          → m < 2 ^ 64
      by_next k rest false small is f = cc
      by_next k rest true false is f = cc
      by_next k rest true true is f = rest (below k is) f where
        below : (k : ℕ) → nat_lt k (2 ^ 64) ≡ true → k < 2 ^ 64
        below k is = grind (arith, nat_tests)

pub length_number : (n : ℕ) → length (number n) ≡ 20
unfolding number
length_number n = length_digits 20 n
