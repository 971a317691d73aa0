-- Lines: what a line says stands at its places.
use Rattle.std.proofs.Common.{◌≡◌, ◌<◌, ◌^◌, ℕ, ◌+◌, ◌*◌, List, [], ◌∷◌, ◌++◌, length, take, drop, Some, None, true, refl, sym, ap, ◌∙◌, arith, append_assoc, length-append}
use Rattle.std.specs.Prelude.{option_and_then, if◌then◌else◌}
use Rattle.std.specs.Str.{bytes_eq}
use Rattle.std.proofs.lemmas.Slice.Eq.{bytes_eq-Decides}
use Rattle.std.proofs.lemmas.List.{take_at, drop_at, drop-drop, length-take-le}
use Rattle.sha2.specs.Sha256.{sha256, digest_bytes, final_hash, initial_hash_256}
use Rattle.hex.specs.Hex.{lower_digits}
use Rattle.hex.proofs.HexLemmas.{length-encode_with}
use Rattle.desk_record.specs.declared.kind.Kind.{Kind}
use Rattle.desk_record.specs.declared.kind.Kind.TheVariants as kind
use Rattle.desk_record.specs.Record.{word, number, sum, line_fields, line, IsEntryLine, LineParts, kind_of, parsed_line, parsed_line_fields, line_of_parts, number_from}
use Rattle.desk_record.proofs.DigitLemmas.{length_number, read_number}

pub length_word : (k : Kind) → length (word k) ≡ 9
length_word kind.Record = refl
length_word kind.Permitted = refl
length_word kind.Spans = refl
length_word kind.Cells = refl
length_word kind.Operator = refl
length_word kind.Request = refl
length_word kind.Answer = refl

read_word : (k : Kind) → kind_of (word k) ≡ Some k
read_word kind.Record = refl
read_word kind.Permitted = refl
read_word kind.Spans = refl
read_word kind.Cells = refl
read_word kind.Operator = refl
read_word kind.Request = refl
read_word kind.Answer = refl

length_digest : (h : List ℕ) → length (digest_bytes h 8) ≡ 32
unfolding digest_bytes
length_digest h = refl

length_sha256 : (bytes : List ℕ) → length (sha256 bytes) ≡ 32
unfolding sha256
length_sha256 bytes = length_digest (final_hash initial_hash_256 bytes)

pub length_sum : (bytes : List ℕ) → length (sum bytes) ≡ 16
unfolding sum
length_sum bytes =
    let long = length_sha256 bytes in
    length-encode_with lower_digits (take 8 (sha256 bytes))
    ∙ ap (λ n. 2 * n) (length-take-le 8 (sha256 bytes) (omega (arith, long)))

-- a part, and what is behind it and a space
skipped : (a rest : List ℕ) (n : ℕ) → length a ≡ n → drop (n + 1) (a ++ (32 ∷ rest)) ≡ rest
skipped a rest n is = sym (drop-drop 1 n (a ++ (32 ∷ rest))) ∙ ap (drop 1) (drop_at a (32 ∷ rest) n is)

module _ (l : LineParts) where
  last_part : List ℕ
  last_part = sum (line_fields l.kind l.number l.size l.sum) ++ (10 ∷ [])

  from_sum : List ℕ
  from_sum = l.sum ++ (32 ∷ last_part)

  from_size : List ℕ
  from_size = number l.size ++ (32 ∷ from_sum)

  from_number : List ℕ
  from_number = number l.number ++ (32 ∷ from_size)

  -- the parts of a line, one after the other
  flat : line_of_parts l ≡ word l.kind ++ (32 ∷ from_number)
  unfolding line line_fields last_part from_sum from_size from_number
  flat = simp append_assoc

  behind_word : drop 10 (line_of_parts l) ≡ from_number
  behind_word = ap (drop 10) flat ∙ skipped (word l.kind) from_number 9 (length_word l.kind)

  behind_number : drop 31 (line_of_parts l) ≡ from_size
  unfolding from_number
  behind_number = sym (drop-drop 21 10 (line_of_parts l)) ∙ ap (drop 21) behind_word
      ∙ skipped (number l.number) from_size 20 (length_number l.number)

  behind_size : drop 52 (line_of_parts l) ≡ from_sum
  unfolding from_size
  behind_size = sym (drop-drop 21 31 (line_of_parts l)) ∙ ap (drop 21) behind_number
      ∙ skipped (number l.size) from_sum 20 (length_number l.size)

  the_word : kind_of (take 9 (line_of_parts l)) ≡ Some l.kind
  the_word = ap kind_of (ap (take 9) flat ∙ take_at (word l.kind) (32 ∷ from_number) 9 (length_word l.kind))
      ∙ read_word l.kind

  the_number : l.number < 2 ^ 64 → number_from 0 (take 20 (drop 10 (line_of_parts l))) ≡ Some l.number
  unfolding from_number
  the_number fits =
      ap (λ x. number_from 0 (take 20 x)) behind_word
      ∙ ap (number_from 0) (take_at (number l.number) (32 ∷ from_size) 20 (length_number l.number))
      ∙ read_number l.number fits

  the_size : l.size < 2 ^ 64 → number_from 0 (take 20 (drop 31 (line_of_parts l))) ≡ Some l.size
  unfolding from_size
  the_size fits =
      ap (λ x. number_from 0 (take 20 x)) behind_number
      ∙ ap (number_from 0) (take_at (number l.size) (32 ∷ from_sum) 20 (length_number l.size))
      ∙ read_number l.size fits

  the_sum : length l.sum ≡ 16 → take 16 (drop 52 (line_of_parts l)) ≡ l.sum
  unfolding from_sum
  the_sum is = ap (take 16) behind_size ∙ take_at l.sum (32 ∷ last_part) 16 is

  pub length_line : length l.sum ≡ 16 → length (line_of_parts l) ≡ 86
  unfolding last_part from_sum from_size from_number
  length_line is =
      let w = length_word l.kind in
      let n = length_number l.number in
      let s = length_number l.size in
      let check = length_sum (line_fields l.kind l.number l.size l.sum) in
      ap length flat ∙ simp length-append (omega (arith, w, n, s, check, is))

-- what stands at the places of a line is what it says
said_of : (l : LineParts) → l.number < 2 ^ 64 → l.size < 2 ^ 64 → length l.sum ≡ 16
    → parsed_line_fields (line_of_parts l) ≡ Some l
unfolding parsed_line_fields
said_of l number size sum =
    rw (the_word l, the_number l number, the_size l size, the_sum l sum) refl

-- a line says what is read of it
pub line_read : (bytes : List ℕ) (l : LineParts) → IsEntryLine bytes l → parsed_line bytes ≡ Some l
unfolding parsed_line
line_read bytes l is =
    let same : bytes_eq (line_of_parts l) bytes ≡ true = (bytes_eq-Decides (line_of_parts l) bytes).1 (sym is.text) in
    ap (option_and_then (λ k. if bytes_eq (line_of_parts k) bytes then Some k else None))
    (ap parsed_line_fields is.text ∙ said_of l is.number is.size is.sum)
    ∙ ap (λ b. if b then Some l else None) same

-- what is written before a line's own sum, part by part
pub front_written : (k : Kind) (n size : ℕ) (check w old a b d f g h i new : List ℕ) → w ≡ word k
    → a ≡ old ++ w → b ≡ a ++ (32 ∷ []) → d ≡ b ++ number n → f ≡ d ++ (32 ∷ []) → g ≡ f ++ number size
    → h ≡ g ++ (32 ∷ []) → i ≡ h ++ check → new ≡ i ++ (32 ∷ []) → new ≡ old ++ line_fields k n size check
unfolding line_fields
front_written k n size check w old a b d f g h i new is e1 e2 e3 e4 e5 e6 e7 e8 =
    rw (e8, e7, e6, e5, e4, e3, e2, e1, is) (simp append_assoc)
