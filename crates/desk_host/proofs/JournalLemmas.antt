-- What the digits in the name of a journal write.
use Rattle.std.proofs.Common.{◌≡◌, ◌<◌, ◌^◌, ℕ, Bool, true, List, [], ◌∷◌, length, Some, None, refl, arith, ap, ◌∙◌, nat_lt}
use Rattle.std.specs.Char.{is_ascii_digit}
use Rattle.std.specs.Int.{IsInRange}
use Rattle.std.specs.List.{list_all}
use Rattle.std.specs.Str.Parse.{AllDigits, IsNumeral, digits_value, without_leading_plus}
use Rattle.std.proofs.lemmas.Bool.{and_parts}
use Rattle.std.proofs.lemmas.Bool.Decides.{nat_tests}
use Rattle.std.proofs.lemmas.Str.{digit_value_digit}
use Rattle.std.proofs.lemmas.Str.Parse.{without_leading_plus_none}
use Rattle.desk_host.specs.Operators.{are_digits, number_of}

digit_range : (c : ℕ) → is_ascii_digit c ≡ true → IsInRange 48 57 c
digit_range c h = grind (arith, nat_tests)

all_digits : (ds : List ℕ) → list_all is_ascii_digit ds ≡ true → AllDigits 10 ds
all_digits [] h = tt
all_digits (c ∷ cs) h =
    let parts = and_parts (is_ascii_digit c) (list_all is_ascii_digit cs) h in
    let range = digit_range c parts.0 in
    (omega (arith, range, digit_value_digit c range), all_digits cs parts.1)

no_plus : (ds : List ℕ) → list_all is_ascii_digit ds ≡ true → without_leading_plus ds ≡ ds
no_plus [] h = refl
no_plus (c ∷ cs) h =
    let range = digit_range c (and_parts (is_ascii_digit c) (list_all is_ascii_digit cs) h).0 in
    without_leading_plus_none (c ∷ cs) (λ plus. omega (arith, range, plus))

module _ (text : List ℕ) (digits : are_digits text ≡ true) where
  parts : (nat_lt 0 (length text) ≡ true) × (list_all is_ascii_digit text ≡ true)
  unfolding are_digits
  parts = and_parts (nat_lt 0 (length text)) (list_all is_ascii_digit text) digits

  numeral : IsNumeral 10 text
  numeral = let some = parts.0 in (grind (arith, nat_tests), all_digits text parts.1)

  -- digits that are read as a number write it
  pub number_read : (n : ℕ) → digits_value 10 (without_leading_plus text) < 2 ^ 64
      → n ≡ digits_value 10 (without_leading_plus text) → Some n ≡ number_of text
  number_read n fits read =
      let plain = no_plus text parts.1 in
      let is : n ≡ digits_value 10 text = read ∙ ap (digits_value 10) plain in
      let less : n < 2 ^ 64 = rw read fits in
      rw (← is) (grind (arith, nat_tests, less))

  -- those that are not read write none that fits
  pub number_unread :
      ¬ (IsNumeral 10 (without_leading_plus text) × (digits_value 10 (without_leading_plus text) < 2 ^ 64))
      → None ≡ number_of text
  number_unread unread =
      let great : digits_value 10 text < 2 ^ 64 → ⊥ =
      λ less. unread (rw (no_plus text parts.1) (numeral, less)) in
      grind (arith, nat_tests, great)
