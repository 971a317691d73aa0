-- The texts of ids are short.
use Rattle.std.proofs.Common.{◌≡◌, ℕ, ◌≤◌, Bool, true, false, cond, List, length, Option, Some, None, refl, arith}
use Rattle.std.specs.Prelude.{nat_eq}
use Rattle.std.proofs.lemmas.Bool.{eqb-true}
use Rattle.uuid.specs.Text.{parsed, parsed_simple, parsed_hyphenated, parsed_braced, parsed_urn}

-- a text that parses to an id is short
pub parsed_short : (text id : List ℕ) → Some id ≡ parsed text → length text ≤ 45
parsed_short text id e = by_length (nat_eq (length text) 32) (nat_eq (length text) 36)
    (nat_eq (length text) 38) (nat_eq (length text) 45) refl refl refl refl e where
      by_length : (a b c d : Bool) → nat_eq (length text) 32 ≡ a → nat_eq (length text) 36 ≡ b
          → nat_eq (length text) 38 ≡ c → nat_eq (length text) 45 ≡ d
          → Some id ≡ cond a (parsed_simple text)
          (cond b (parsed_hyphenated text) (cond c (parsed_braced text)
          (cond d (parsed_urn text) None)))
          → length text ≤ 45
      by_length true b c d h i j k e = omega (arith, eqb-true (length text) 32 h)
      by_length false true c d h i j k e = omega (arith, eqb-true (length text) 36 i)
      by_length false false true d h i j k e = omega (arith, eqb-true (length text) 38 j)
      by_length false false false true h i j k e = omega (arith, eqb-true (length text) 45 k)
      by_length false false false false h i j k e = cc
