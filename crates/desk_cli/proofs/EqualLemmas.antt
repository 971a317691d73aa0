-- What the digits of a priority write.
use Rattle.std.proofs.Common.{◌≡◌, ◌<◌, ◌≤◌, ◌^◌, ℕ, Bool, true, Bor, List, [], ◌∷◌, length, map, Some, None, Err, refl, arith, ap, ◌∙◌, ◌&&◌, nat_lt, nat_le}
use Rattle.std.specs.Char.{is_ascii_digit}
use Rattle.std.specs.Int.{IsInRange}
use Rattle.std.specs.List.{list_all}
use Rattle.std.specs.Str.Parse.{AllDigits, IsNumeral, ParsesUnsigned, digits_value, without_leading_plus}
use Rattle.std.proofs.lemmas.Bool.{and_parts}
use Rattle.std.proofs.lemmas.Bool.Decides.{nat_tests}
use Rattle.std.proofs.lemmas.Str.{digit_value_digit}
use Rattle.std.proofs.lemmas.Str.Parse.{without_leading_plus_none}
use Rattle.desk_rules.specs.Limits.{max_priority}
use Rattle.desk_cli.specs.Grammar.{is_short_number, priority_in, max_priority_digits}

digit_range : (c : ℕ) → is_ascii_digit c ≡ true → IsInRange 48 57 c
digit_range c h = grind (arith, nat_tests)

all_digits : (ds : List ℕ) → list_all is_ascii_digit ds ≡ true → AllDigits 10 ds
all_digits [] h = tt
all_digits (c ∷ cs) h =
    let parts = and_parts (is_ascii_digit c) (list_all is_ascii_digit cs) h in
    let range = digit_range c parts.0 in
    (omega (arith, range, digit_value_digit c range), all_digits cs parts.1)

no_plus : (ds : List ℕ) → list_all is_ascii_digit ds ≡ true → without_leading_plus ds ≡ ds
no_plus [] h = refl
no_plus (c ∷ cs) h =
    let range = digit_range c (and_parts (is_ascii_digit c) (list_all is_ascii_digit cs) h).0 in
    without_leading_plus_none (c ∷ cs) (λ plus. omega (arith, range, plus))

abbrev is_short : List ℕ → Bool
is_short text = nat_le (length text) max_priority_digits

digits_in : (text : List ℕ) → is_short_number text ≡ true → list_all is_ascii_digit text ≡ true
unfolding is_short_number
digits_in text h =
    (and_parts (is_short text) (list_all is_ascii_digit text)
    (and_parts (nat_lt 0 (length text)) (is_short text && list_all is_ascii_digit text) h).1).1

numeral : (text : List ℕ) → is_short_number text ≡ true → IsNumeral 10 text
unfolding is_short_number
numeral text h =
    let some : nat_lt 0 (length text) ≡ true =
    (and_parts (nat_lt 0 (length text)) (is_short text && list_all is_ascii_digit text) h).0 in
    (grind (arith, nat_tests), all_digits text (digits_in text h))

plain : (text : List ℕ) → is_short_number text ≡ true → without_leading_plus text ≡ text
plain text h = no_plus text (digits_in text h)

pub priority_taken : (text : List ℕ) (n : ℕ) → is_short_number text ≡ true
    → n ≡ digits_value 10 (without_leading_plus text) → n ≤ max_priority → Some n ≡ priority_in text
unfolding priority_in
priority_taken text n digits parsed small =
    let is : n ≡ digits_value 10 text = parsed ∙ ap (digits_value 10) (plain text digits) in
    rw (digits, ← is) (grind (arith, nat_tests))

pub priority_too_great : (text : List ℕ) (n : ℕ) → is_short_number text ≡ true
    → n ≡ digits_value 10 (without_leading_plus text) → max_priority < n → None ≡ priority_in text
unfolding priority_in
priority_too_great text n digits parsed great =
    let is : n ≡ digits_value 10 text = parsed ∙ ap (digits_value 10) (plain text digits) in
    rw (digits, ← is) (grind (arith, nat_tests))

pub priority_unread : (E : Type 0) (text : List ℕ) (e : E) → is_short_number text ≡ true
    → ParsesUnsigned {E = E} 32 10 text (Err e) → None ≡ priority_in text
unfolding priority_in
priority_unread E text e digits unread =
    let great : digits_value 10 text < 2 ^ 32 → ⊥ =
    λ less. unread (rw (plain text digits) (numeral text digits, less)) in
    rw digits (grind (arith, nat_tests))

-- the priorities of parts are those of their texts
pub by_texts : (parts : List (Bor (List ℕ)))
    → map (λ part. priority_in part.now) parts ≡ map priority_in (map (λ part. part.now) parts)
by_texts [] = refl
by_texts (part ∷ parts) = ap (λ rest. priority_in part.now ∷ rest) (by_texts parts)
