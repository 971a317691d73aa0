-- Spellings of ids: digits, their values, and the zeros at their end.
use Rattle.std.proofs.Common.{◌≡◌, ◌≢◌, ℕ, zero, suc, ◌+◌, ◌-◌, ◌*◌, ◌/◌, ◌%◌, ◌^◌, ◌<◌, ◌≤◌, List, [], ◌∷◌, ◌++◌, length, take, drop, replicate, get_or, refl, sym, ◌∙◌, ap, arith, inl, inr}
use Rattle.std.specs.Prelude.{Bool, true, false, not, IsTrue, reverse}
use Rattle.std.specs.Char.{is_digit, digit_char, digit_value, is_ascii_uppercase}
use Rattle.std.specs.List.{list_all, suffix_len}
use Rattle.std.specs.Str.Parse.{digits_value, digits_value_after, AllDigits}
use Rattle.std.proofs.lemmas.Bool.{and_parts, cases_lt}
use Rattle.std.proofs.lemmas.Bool.Decides.{nat_tests}
use Rattle.std.proofs.lemmas.List.{take-append-drop, length-append, length-drop, length-replicate, length-reverse, get_or-take, get_or-drop, get_or-replicate, get_or-reverse, get_or-append_right, get_or_append_left, ext_get_or}
use Rattle.std.proofs.lemmas.List.Folds.{list_all-append}
use Rattle.std.proofs.lemmas.List.Sums.{prefix_len_passes, prefix_len_stops, suffix_len_is, suffix_len-le-length}
use Rattle.std.specs.Str.{IsAscii, IsUtf8}
use Rattle.std.proofs.lemmas.Str.{IsUtf8-from_ascii}
use Rattle.std.proofs.lemmas.Int.Digits.{digits_value-lt}
use Rattle.std.proofs.lemmas.Nat.{pow-add, shl-shr, shl_whole, mod-mul-add, div-mul-add, mul-add-lt, div-add-mod', mod_below}
use Rattle.std.proofs.lemmas.Str.{digit_value-digit_char}
use Rattle.std.proofs.Math.Nat.{mul_assoc, pow-succ', pow-le-pow_right, mul-le-mul_right}
use Rattle.std.proofs.Math.Seq.{take-append_seam}
use Rattle.s2_cellid.specs.Cell.{lowest_place, lowest_bit, IsCellId, is_hex, zero_padded, HoldsToken, refilled, zero_padded_value, IsSpelling, IsInPrintedForm, hex_digits, is_zero, without_end_zeros, token_text}
use Rattle.s2_cellid.proofs.lemmas.Block.{id_between, block_of, number_of}

pub length-hex_digits : (count n : ℕ) → length (hex_digits count n) ≡ count
unfolding hex_digits
length-hex_digits zero n = refl
length-hex_digits (suc count) n = ap suc (length-hex_digits count n)

pub get_or-hex_digits : (count n k : ℕ) → k < count
    → get_or (hex_digits count n) k 0 ≡ digit_char (n / 16 ^ (count - 1 - k) % 16)
unfolding hex_digits
get_or-hex_digits zero n k below = absurd (omega arith)
get_or-hex_digits (suc count) n zero below =
    let same : suc count - 1 - 0 ≡ count = omega arith in rw same refl
get_or-hex_digits (suc count) n (suc k) below =
    let same : suc count - 1 - suc k ≡ count - 1 - k =
    omega arith in rw same (get_or-hex_digits count n k (omega arith))

-- one place of base 16, split off at the top
place_split : (n unit : ℕ) → 0 < unit → n % (16 * unit) ≡ (n / unit % 16) * unit + n % unit
place_split n unit positive =
    let low : n / unit * unit + n % unit ≡ n = div-add-mod' n unit in
    let below : n % unit < unit = mod_below n unit positive in
    let quotient : n / unit ≡ n / unit / 16 * 16 + n / unit % 16 = omega arith in
    let product : n / unit * unit ≡ (n / unit / 16 * 16 + n / unit % 16) * unit =
    ap (λ q. q * unit) quotient in
    let whole : n ≡ n / unit / 16 * (16 * unit) + ((n / unit % 16) * unit + n % unit) =
    omega (arith, low, product) in
    let small : (n / unit % 16) * unit + n % unit < 16 * unit =
    omega (arith, mul-add-lt (n / unit % 16) unit (n % unit) 16 (omega arith) below) in
    ap (λ m. m % (16 * unit)) whole
    ∙ mod-mul-add (n / unit / 16) (16 * unit) ((n / unit % 16) * unit + n % unit) small

positive_16 : (count : ℕ) → 0 < 16 ^ count
positive_16 zero = omega arith
positive_16 (suc count) = omega (arith, positive_16 count, pow-succ' 16 count)

regroup : (before digit unit rest : ℕ)
    → (before * 16 + digit) * unit + rest ≡ before * (16 * unit) + (digit * unit + rest)
regroup before digit unit rest = omega arith

-- the digits write the number that they are digits of
value_of-hex_digits : (count n before : ℕ)
    → digits_value_after 16 before (hex_digits count n) ≡ before * 16 ^ count + n % 16 ^ count
unfolding hex_digits
value_of-hex_digits zero n before = omega arith
value_of-hex_digits (suc count) n before =
    let place = n / 16 ^ count % 16 in
    let rest = value_of-hex_digits count n (before * 16 + digit_value (digit_char place)) in
    let digit : digit_value (digit_char place) ≡ place = digit_value-digit_char place (omega arith) in
    let with_place = ap (λ d. (before * 16 + d) * 16 ^ count + n % 16 ^ count) digit in
    rw (pow-succ' 16 count, place_split n (16 ^ count) (positive_16 count))
    (rest ∙ with_place ∙ regroup before place (16 ^ count) (n % 16 ^ count))

between_step : (before digit unit value : ℕ) → digit < 16 → (before * 16 + digit) * unit ≤ value
    → value < (before * 16 + digit + 1) * unit
    → (before * (16 * unit) ≤ value) × (value < (before + 1) * (16 * unit))
between_step before digit unit value below low high =
    let top : (digit + 1) * unit ≤ 16 * unit = mul-le-mul_right unit (omega arith) in
    (omega (arith, low), omega (arith, high, top))

-- the value of digits behind a number
value_between : (text : List ℕ) (before : ℕ) → AllDigits 16 text
    → (before * 16 ^ length text ≤ digits_value_after 16 before text) ×
    (digits_value_after 16 before text < (before + 1) * 16 ^ length text)
value_between [] before digits = (omega arith, omega arith)
value_between (c ∷ cs) before digits =
    let rest = value_between cs (before * 16 + digit_value c) digits.1 in
    let value = digits_value_after 16 (before * 16 + digit_value c) cs in
    rw (pow-succ' 16 (length cs))
    (between_step before (digit_value c) (16 ^ length cs) value digits.0 rest.0 rest.1)

quotient_of : (number unit quotient : ℕ) → quotient * unit ≤ number
    → number < (quotient + 1) * unit → number / unit ≡ quotient
quotient_of number unit quotient low high =
    let whole : number ≡ quotient * unit + (number - quotient * unit) = omega arith in
    ap (λ n. n / unit) whole ∙ div-mul-add quotient unit (number - quotient * unit) (omega arith)

lower_digit : (c : ℕ) → digit_value c < 16 → not (is_ascii_uppercase c) ≡ true
    → digit_char (digit_value c) ≡ c
lower_digit c digit lower = grind (arith, nat_tests)

-- digits of lower case are the digits of the number that they write
digits_of-value : (text : List ℕ) (before : ℕ) → AllDigits 16 text
    → IsTrue (list_all (λ c. not (is_ascii_uppercase c)) text)
    → hex_digits (length text) (digits_value_after 16 before text) ≡ text
unfolding hex_digits
digits_of-value [] before digits lower = refl
digits_of-value (c ∷ cs) before digits lower =
    let is_lower : ℕ → Bool = λ d. not (is_ascii_uppercase d) in
    let parts = and_parts (is_lower c) (list_all is_lower cs) lower in
    let number = before * 16 + digit_value c in
    let range = value_between cs number digits.1 in
    let value = digits_value_after 16 number cs in
    let top : value / 16 ^ length cs ≡ number =
    quotient_of value (16 ^ length cs) number range.0 range.1 in
    let place : value / 16 ^ length cs % 16 ≡ digit_value c = omega (arith, top, digits.0) in
    let head : digit_char (value / 16 ^ length cs % 16) ≡ c =
    ap digit_char place ∙ lower_digit c digits.0 parts.0 in
    let tail = digits_of-value cs number digits.1 parts.1 in
    cc

pub all_digits : (text : List ℕ) → IsTrue (is_hex text) → AllDigits 16 text
all_digits [] hex = tt
all_digits (c ∷ cs) hex =
    let parts = and_parts (is_digit c 16) (is_hex cs) hex in
    let digit : digit_value c < 16 = grind (arith, nat_tests, parts.0) in
    (digit, all_digits cs parts.1)

pub is_hex-from_digits : (text : List ℕ) → AllDigits 16 text → IsTrue (is_hex text)
is_hex-from_digits [] digits = refl
is_hex-from_digits (c ∷ cs) digits =
    let head : is_digit c 16 ≡ true = grind (arith, nat_tests, digits.0) in
    rw (head, is_hex-from_digits cs digits.1) refl

pub digits-hex_digits : (count n : ℕ) → AllDigits 16 (hex_digits count n)
unfolding hex_digits
digits-hex_digits zero n = tt
digits-hex_digits (suc count) n =
    let place = n / 16 ^ count % 16 in
    let digit : digit_value (digit_char place) ≡ place = digit_value-digit_char place (omega arith) in
    (omega (arith, digit), digits-hex_digits count n)

lower_char : (d : ℕ) → d < 16 → not (is_ascii_uppercase (digit_char d)) ≡ true
lower_char d below = grind (arith, nat_tests)

lower-hex_digits : (count n : ℕ)
    → list_all (λ c. not (is_ascii_uppercase c)) (hex_digits count n) ≡ true
unfolding hex_digits
lower-hex_digits zero n = refl
lower-hex_digits (suc count) n =
    rw (lower_char (n / 16 ^ count % 16) (omega arith), lower-hex_digits count n) refl

-- a test that all elements pass is passed by the first of them
pub list_all-take : (p : ℕ → Bool) (n : ℕ) (xs : List ℕ) → list_all p xs ≡ true
    → list_all p (take n xs) ≡ true
list_all-take p n xs all =
    let both = sym (list_all-append p (take n xs) (drop n xs))
    ∙ ap (list_all p) (take-append-drop n xs) ∙ all in
    (and_parts (list_all p (take n xs)) (list_all p (drop n xs)) both).0

-- how many digits come before the zeros at the end
abbrev pub kept : List ℕ → ℕ
kept xs = length xs - suffix_len is_zero xs

zero_char : (c : ℕ) → is_zero c ≡ true → c ≡ 48
zero_char c same = grind (arith, nat_tests)

other_char : (c : ℕ) → c ≢ 48 → is_zero c ≡ false
other_char c other = grind (arith, nat_tests)

zero_at : (xs : List ℕ) (k : ℕ) → kept xs ≤ k → k < length xs → get_or xs k 0 ≡ 48
zero_at xs k from below =
    let within = suffix_len-le-length is_zero xs in
    let passes = prefix_len_passes is_zero (reverse xs) (length xs - 1 - k) 0 (omega arith) in
    let place : length xs - 1 - (length xs - 1 - k) ≡ k = omega arith in
    let at : get_or (reverse xs) (length xs - 1 - k) 0 ≡ get_or xs k 0 =
    get_or-reverse xs (length xs - 1 - k) 0 (omega arith) ∙ ap (λ i. get_or xs i 0) place in
    sym at ∙ zero_char (get_or (reverse xs) (length xs - 1 - k) 0) passes

-- what is left out are zeros
pub drop-kept : (xs : List ℕ) → drop (kept xs) xs ≡ replicate (length xs - kept xs) 48
drop-kept xs = ext_get_or 0 (drop (kept xs) xs) (replicate (length xs - kept xs) 48)
    (length-drop (kept xs) xs ∙ sym (length-replicate (length xs - kept xs) 48))
    (λ i below.
    let inside : i < length xs - kept xs = rw (length-drop (kept xs) xs) at below in
    get_or-drop (kept xs) xs i 0 ∙ zero_at xs (kept xs + i) (omega arith) (omega arith)
    ∙ sym (get_or-replicate (length xs - kept xs) i 48 0 inside))

-- and what is left does not end in one
last-kept : (xs : List ℕ) → 0 < kept xs → get_or xs (kept xs - 1) 0 ≢ 48
last-kept xs some same =
    let within = suffix_len-le-length is_zero xs in
    let reversed = length-reverse xs in
    let stops = prefix_len_stops is_zero (reverse xs) 0 (omega (arith, reversed)) in
    let place : length xs - 1 - suffix_len is_zero xs ≡ kept xs - 1 = omega arith in
    let at : get_or (reverse xs) (suffix_len is_zero xs) 0 ≡ 48 =
    get_or-reverse xs (suffix_len is_zero xs) 0 (omega arith) ∙ ap (λ i. get_or xs i 0) place
    ∙ same in
    let clash : true ≡ false = sym (ap is_zero at) ∙ stops in cc

-- a text that does not end in a zero, filled up and stripped again, is the same
stripped-zero_padded : (text : List ℕ) → 0 < length text → get_or text (length text - 1) 0 ≢ 48
    → without_end_zeros (zero_padded text) ≡ text
stripped-zero_padded text some ended =
    let missing = 16 - length text in
    let whole : length (zero_padded text) ≡ length text + missing =
    length-append text (replicate missing 48)
    ∙ ap (λ n. length text + n) (length-replicate missing 48) in
    let zeros = suffix_len_is is_zero (zero_padded text) (length text) 0 (omega (arith, whole))
    (λ k from below.
    ap is_zero (get_or-append_right text (replicate missing 48) (length text) k 0 refl from
    ∙ get_or-replicate missing (k - length text) 48 0 (omega (arith, whole))))
    (λ _.
    let last = length text - 1 in
    ap is_zero (get_or_append_left text (replicate missing 48) 0 last (omega arith))
    ∙ other_char (get_or text last 0) ended) in
    let same : kept (zero_padded text) ≡ length text = omega (arith, whole, zeros) in
    ap (λ n. take n (zero_padded text)) same ∙ take-append_seam text (replicate missing 48)

all-replicate : (p : ℕ → Bool) (n : ℕ) → p 48 ≡ true → list_all p (replicate n 48) ≡ true
all-replicate p zero passes = refl
all-replicate p (suc n) passes = rw (passes, all-replicate p n passes) refl

all-zero_padded : (p : ℕ → Bool) (text : List ℕ) → p 48 ≡ true → list_all p text ≡ true
    → list_all p (zero_padded text) ≡ true
all-zero_padded p text passes all =
    list_all-append p text (replicate (16 - length text) 48)
    ∙ rw (all, all-replicate p (16 - length text) passes) refl

length-zero_padded : (text : List ℕ) → length text ≤ 16 → length (zero_padded text) ≡ 16
length-zero_padded text within =
    length-append text (replicate (16 - length text) 48)
    ∙ ap (λ n. length text + n) (length-replicate (16 - length text) 48) ∙ omega arith

-- the digits of an id hold its token
pub holds_token : (id : ℕ) → HoldsToken (hex_digits 16 id) (kept (hex_digits 16 id))
holds_token id = record {
  all = length-hex_digits 16 id;
  within = omega (arith, length-hex_digits 16 id);
  hex = is_hex-from_digits (hex_digits 16 id) (digits-hex_digits 16 id);
  zeros =
      drop-kept (hex_digits 16 id)
      ∙ ap (λ n. replicate (n - kept (hex_digits 16 id)) 48) (length-hex_digits 16 id);
}

-- a token is read back
value_of-token : (id : ℕ) → id < 2 ^ 64 → zero_padded_value (token_text id) ≡ id
unfolding zero_padded_value
value_of-token id fits =
    let digits = hex_digits 16 id in
    ap (digits_value 16) ((refilled digits (kept digits) (holds_token id)).0)
    ∙ value_of-hex_digits 16 id 0 ∙ omega arith

empty_value : (text : List ℕ) → length text ≡ 0 → zero_padded_value text ≡ 0
unfolding zero_padded_value
empty_value [] none = refl
empty_value (c ∷ cs) none = absurd (omega (arith, none))

-- the token of a valid id spells it
pub spelling_of-token : (id : ℕ) → IsCellId id → IsSpelling (token_text id) id
spelling_of-token id valid =
    let range = id_between id valid in
    let held = holds_token id in
    let length_is = (refilled (hex_digits 16 id) (kept (hex_digits 16 id)) held).1 in
    let value = value_of-token id range.1 in
    record {
      some = elim (cases_lt 0 (length (token_text id))) [
        | inl some ↦ some
        | inr none ↦ let zero_id =
            sym value
            ∙ empty_value (token_text id) (omega arith) in absurd (omega (arith, zero_id, range.0))
      ];
      at_most = omega (arith, length_is, held.within);
      hex =
          list_all-take (λ c. is_digit c 16) (kept (hex_digits 16 id)) (hex_digits 16 id) held.hex;
      value = value;
    }

pub printed_token : (id : ℕ) → IsCellId id → IsInPrintedForm (token_text id)
printed_token id valid =
    let spelling = spelling_of-token id valid in
    let length_is : length (token_text id) ≡ kept (hex_digits 16 id) =
    (refilled (hex_digits 16 id) (kept (hex_digits 16 id)) (holds_token id)).1 in
    let some : 0 < kept (hex_digits 16 id) = omega (arith, length_is, spelling.some) in
    record {
      lower =
          list_all-take (λ c. not (is_ascii_uppercase c)) (kept (hex_digits 16 id))
          (hex_digits 16 id) (lower-hex_digits 16 id);
      ended = λ same.
          let digits = hex_digits 16 id in
          let there = get_or-take (kept digits) digits (kept digits - 1) 0 (omega arith) in
          last-kept digits some
          (sym there ∙ ap (λ n. get_or (token_text id) (n - 1) 0) (sym length_is) ∙ same);
    }

-- and no other spelling is printed
pub only_token : (text : List ℕ) (id : ℕ) → IsSpelling text id → IsInPrintedForm text
    → text ≡ token_text id
unfolding zero_padded_value
only_token text id spelling printed =
    let digits =
    all_digits (zero_padded text) (all-zero_padded (λ c. is_digit c 16) text refl spelling.hex) in
    let lower = all-zero_padded (λ c. not (is_ascii_uppercase c)) text refl printed.lower in
    let same : hex_digits (length (zero_padded text)) (digits_value 16 (zero_padded text)) ≡ zero_padded text =
    digits_of-value (zero_padded text) 0 digits lower in
    let of_id : hex_digits 16 id ≡ zero_padded text =
    ap (λ n. hex_digits n id) (sym (length-zero_padded text spelling.at_most))
    ∙ ap (hex_digits (length (zero_padded text))) (sym spelling.value) ∙ same in
    sym (stripped-zero_padded text spelling.some printed.ended) ∙ ap without_end_zeros (sym of_id)

hex_below : (c : ℕ) → digit_value c < 16 → c < 128
hex_below c digit = grind (arith, nat_tests)

ascii_digits : (text : List ℕ) → AllDigits 16 text → IsAscii text
ascii_digits [] digits i = omega arith
ascii_digits (c ∷ cs) digits zero = hex_below c digits.0
ascii_digits (c ∷ cs) digits (suc i) = ascii_digits cs digits.1 i

-- hex digits are text
pub hex_is_text : (text : List ℕ) → IsTrue (is_hex text) → IsUtf8 text
hex_is_text text hex = IsUtf8-from_ascii text (ascii_digits text (all_digits text hex))

-- a digit in base 16 takes four bits
pow_of_16 : (k : ℕ) → 2 ^ (4 * k) ≡ 16 ^ k
pow_of_16 zero = refl
pow_of_16 (suc k) =
    let four : 4 * suc k ≡ 4 * k + 4 = omega arith in
    ap (λ n. 2 ^ n) four ∙ pow-add 2 (4 * k) 4 ∙ ap (λ n. n * 16) (pow_of_16 k)
    ∙ omega (arith, pow-succ' 16 k)

pub digit_at : (id place : ℕ) → place < 16
    → digit_char (id / 2 ^ (60 - 4 * place) % 16) ≡ get_or (hex_digits 16 id) place 0
digit_at id place below =
    let bits : 60 - 4 * place ≡ 4 * (16 - 1 - place) = omega arith in
    ap (λ n. digit_char (id / n % 16)) (ap (λ n. 2 ^ n) bits ∙ pow_of_16 (16 - 1 - place))
    ∙ sym (get_or-hex_digits 16 id place below)

-- there is room for one more digit
pub one_more_fits : (text : List ℕ) (value digit : ℕ) → AllDigits 16 text
    → value ≡ digits_value 16 text → length text ≤ 15 → digit < 16
    → value * 16 + digit < 2 ^ 64
one_more_fits text value digit digits is within below =
    let low = digits_value-lt 16 text digits in
    let most : 16 ^ length text ≤ 16 ^ 15 = pow-le-pow_right (omega arith) within in
    omega (arith, low, most, is)

zeros_value : (count before : ℕ)
    → digits_value_after 16 before (replicate count 48) ≡ before * 16 ^ count
zeros_value zero before = omega arith
zeros_value (suc count) before =
    let rest = zeros_value count (before * 16 + 0) in rw (pow-succ' 16 count) (rest ∙ omega arith)

value_of-append : (xs ys : List ℕ) (before : ℕ)
    → digits_value_after 16 before (xs ++ ys) ≡ digits_value_after 16
    (digits_value_after 16 before xs) ys
value_of-append [] ys before = refl
value_of-append (x ∷ xs) ys before = value_of-append xs ys (before * 16 + digit_value x)

-- to fill up with zeros is to shift by four bits for each
pub shifted : (text : List ℕ) → 0 < length text → length text ≤ 16 → AllDigits 16 text
    → digits_value 16 text * 2 ^ (64 - 4 * length text) % 2 ^ 64 ≡ zero_padded_value text
unfolding zero_padded_value
shifted text some within digits =
    let low : digits_value 16 text < 2 ^ (4 * length text) =
    rw (pow_of_16 (length text)) (digits_value-lt 16 text digits) in
    let whole =
    shl_whole (digits_value 16 text) (4 * length text) (64 - 4 * length text) 64 low
    (omega arith) in
    let bits : 64 - 4 * length text ≡ 4 * (16 - length text) = omega arith in
    let missing = 16 - length text in
    let zeros = value_of-append text (replicate missing 48) 0
    ∙ zeros_value missing (digits_value 16 text) in
    whole ∙ ap (λ n. digits_value 16 text * n) (ap (λ n. 2 ^ n) bits ∙ pow_of_16 missing) ∙ sym zeros

-- where the zeros at the end begin, as a count from the end finds it
pub kept_is : (xs : List ℕ) (n : ℕ) → n ≤ length xs
    → ((k : ℕ) → n ≤ k → k < length xs → get_or xs k 0 ≡ 48)
    → (0 < n → get_or xs (n - 1) 0 ≢ 48) → n ≡ kept xs
kept_is xs n within zeros ended =
    let count =
    suffix_len_is is_zero xs n 0 within (λ k from below. ap is_zero (zeros k from below))
    (λ some. other_char (get_or xs (n - 1) 0) (ended some)) in
    omega (arith, count)

-- an id without its e lowest digits, which are zeros
without_zeros : (id e : ℕ) → IsCellId id → 4 * e ≤ lowest_place id
    → id / 16 ^ e ≡ (2 * number_of id + 1) * 2 ^ (lowest_place id - 4 * e)
without_zeros id e valid zeros =
    let left = lowest_place id - 4 * e in
    let sum : lowest_place id ≡ left + 4 * e = omega arith in
    let power : lowest_bit id ≡ 2 ^ left * 2 ^ (4 * e) = ap (λ n. 2 ^ n) sum ∙ pow-add 2 left (4 * e) in
    let product : id ≡ ((2 * number_of id + 1) * 2 ^ left) * 2 ^ (4 * e) =
    (block_of id valid).id_is ∙ ap (λ n. 2 * (number_of id * n) + n) power
    ∙ odd_product (number_of id) (2 ^ left) (2 ^ (4 * e)) in
    rw (← pow_of_16 e)
    (ap (λ n. n / 2 ^ (4 * e)) product ∙ shl-shr ((2 * number_of id + 1) * 2 ^ left) (4 * e))
  where
    odd_product : (m a b : ℕ) → 2 * (m * (a * b)) + a * b ≡ ((2 * m + 1) * a) * b
    odd_product m a b = omega arith

-- a multiple of 16 ends in the digit 0
whole_digit : (n left : ℕ) → 4 ≤ left → n * 2 ^ left % 16 ≡ 0
whole_digit n left many =
    let sum : left ≡ (left - 4) + 4 = omega arith in
    let power : 2 ^ left ≡ 2 ^ (left - 4) * 16 = ap (λ k. 2 ^ k) sum ∙ pow-add 2 (left - 4) 4 in
    let product : n * 2 ^ left ≡ (n * 2 ^ (left - 4)) * 16 =
    ap (λ k. n * k) power ∙ sym (mul_assoc n (2 ^ (left - 4)) 16) in
    omega (arith, product)

-- an odd multiple of a lesser power of two doesn't
other_digit : (n left : ℕ) → left < 4 → (2 * n + 1) * 2 ^ left % 16 ≡ 0 → ⊥
other_digit n zero below none = omega arith
other_digit n (suc zero) below none = omega arith
other_digit n (suc (suc zero)) below none = omega arith
other_digit n (suc (suc (suc zero))) below none = omega arith
other_digit n (suc (suc (suc (suc left)))) below none = omega arith

char_of_zero : (d : ℕ) → d < 16 → digit_char d ≡ 48 → d ≡ 0
char_of_zero d below is = grind (arith, nat_tests)

-- the zeros at the end of an id's digits, by those at the end of its bits
pub kept_of-id : (id : ℕ) → IsCellId id → 16 - lowest_place id / 4 ≡ kept (hex_digits 16 id)
kept_of-id id valid =
    let place = lowest_place id in
    let at_most : place ≤ 60 = grind (arith, nat_tests, valid) in
    kept_is (hex_digits 16 id) (16 - place / 4) (omega (arith, length-hex_digits 16 id))
    (λ k from below.
    let inside : k < 16 = omega (arith, below, length-hex_digits 16 id) in
    let e = 16 - 1 - k in
    let digit : id / 16 ^ e % 16 ≡ 0 =
    ap (λ n. n % 16) (without_zeros id e valid (omega arith))
    ∙ whole_digit (2 * number_of id + 1) (place - 4 * e) (omega arith) in
    get_or-hex_digits 16 id k inside ∙ ap digit_char digit)
    (λ some same.
    let k = 16 - place / 4 - 1 in
    let inside : k < 16 = omega arith in
    let e = 16 - 1 - k in
    let e_is : e ≡ place / 4 = omega arith in
    let none : id / 16 ^ e % 16 ≡ 0 =
    char_of_zero (id / 16 ^ e % 16) (omega arith) (sym (get_or-hex_digits 16 id k inside) ∙ same) in
    other_digit (number_of id) (place - 4 * e) (omega arith)
    (sym (ap (λ n. n % 16) (without_zeros id e valid (omega arith))) ∙ none))
