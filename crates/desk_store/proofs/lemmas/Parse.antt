-- What a text parses to is an id, with its proof.
use Rattle.std.proofs.Common.{◌≡◌, ℕ, ◌+◌, ◌*◌, ◌<◌, Bool, true, false, ◌&&◌, cond, List, [], ◌∷◌, All, length, get_or, Option, Some, None, refl, sym, subst, arith}
use Rattle.std.specs.Prelude.{slice_index, take, drop, nat_eq}
use Rattle.std.specs.List.{AllByRecursion, list_all}
use Rattle.std.proofs.lemmas.Bool.{and_parts}
use Rattle.std.proofs.lemmas.Bool.Decides.{nat_tests}
use Rattle.std.proofs.lemmas.List.Elements.{All-from_recursion, All-get_or, All-from_get_or}
use Rattle.uuid.specs.Text.{by_index, is_hex_digit, value_of, byte_of_digits, parsed, parsed_simple, parsed_hyphenated, parsed_braced, parsed_urn, digits_of, has_hyphens, has_urn_prefix}
use Rattle.uuid.proofs.TextLemmas.{by_index_length, by_index_at}
use Rattle.desk_store.specs.World.{IsId}

all_from_test : (p : ℕ → Bool) (xs : List ℕ) → list_all p xs ≡ true → AllByRecursion (λ x. p x ≡ true) xs
all_from_test p [] h = tt
all_from_test p (x ∷ xs) h = let tests = and_parts _ _ h in (tests.0, all_from_test p xs tests.1)

when : {X : Type 0} (b : Bool) (x : X) (o : Option X) → Some x ≡ cond b o None → (b ≡ true)
    × (Some x ≡ o)
when true x o e = (refl, e)
when false x o e = cc

value_small : (c : ℕ) → is_hex_digit c ≡ true → value_of c < 16
value_small c h = grind (arith, nat_tests, h)

simple_id : (hex id : List ℕ) → Some id ≡ parsed_simple hex → IsId id
simple_id hex id e =
    let found = when ((nat_eq (length hex) 32) && list_all is_hex_digit hex) id
    (Some (by_index 16 (byte_of_digits hex))) e in
    let tests = and_parts (nat_eq (length hex) 32) (list_all is_hex_digit hex) found.0 in
    let long : length hex ≡ 32 = grind (arith, nat_tests, tests.0) in
    let digits = All-from_recursion (λ c. is_hex_digit c ≡ true) hex
    (all_from_test is_hex_digit hex tests.1)
    in
    let same : id ≡ by_index 16 (byte_of_digits hex) = cc in
    subst IsId (sym same) (record {
      sixteen = by_index_length 16 (byte_of_digits hex);
      are_bytes = All-from_get_or (λ b. b < 256) (by_index 16 (byte_of_digits hex)) 0
          (λ i within. small long digits i (subst (λ n. i < n) (by_index_length 16 (byte_of_digits hex))
          within));
    }) where
      small : length hex ≡ 32 → All (λ c. is_hex_digit c ≡ true) hex → (i : ℕ) → i < 16
          → get_or (by_index 16 (byte_of_digits hex)) i 0 < 256
      small long digits i within =
          let high = value_small (get_or hex (2 * i) 0)
          (All-get_or (λ c. is_hex_digit c ≡ true) hex (2 * i) 0 (omega (arith, long, within)) digits)
          in
          let low = value_small (get_or hex (2 * i + 1) 0)
          (All-get_or (λ c. is_hex_digit c ≡ true) hex (2 * i + 1) 0 (omega (arith, long, within))
          digits)
          in
          let is = by_index_at 16 (byte_of_digits hex) i 0 within in
          omega (arith, high, low, is)

hyphenated_id : (text id : List ℕ) → Some id ≡ parsed_hyphenated text → IsId id
hyphenated_id text id e = simple_id (digits_of text) id
    (when ((nat_eq (length text) 36) && has_hyphens text) id (parsed_simple (digits_of text)) e).1

braced_id : (text id : List ℕ) → Some id ≡ parsed_braced text → IsId id
braced_id text id e =
    hyphenated_id (take 36 (drop 1 text)) id (when
    ((nat_eq (length text) 38) && (nat_eq (slice_index text 0) 123)
    && (nat_eq (slice_index text 37) 125))
    id (parsed_hyphenated (take 36 (drop 1 text))) e).1

urn_id : (text id : List ℕ) → Some id ≡ parsed_urn text → IsId id
urn_id text id e = hyphenated_id (drop 9 text) id
    (when ((nat_eq (length text) 45) && has_urn_prefix text) id
    (parsed_hyphenated (drop 9 text)) e).1

pub parsed_id : (text id : List ℕ) → Some id ≡ parsed text → IsId id
parsed_id text id e = by_length (nat_eq (length text) 32) (nat_eq (length text) 36)
    (nat_eq (length text) 38)
    (nat_eq (length text) 45) e where
      by_length : (a b c d : Bool) → Some id ≡ cond a (parsed_simple text)
          (cond b (parsed_hyphenated text) (cond c (parsed_braced text)
          (cond d (parsed_urn text) None)))
          → IsId id
      by_length true b c d k = simple_id text id k
      by_length false true c d k = hyphenated_id text id k
      by_length false false true d k = braced_id text id k
      by_length false false false true k = urn_id text id k
      by_length false false false false k = cc
