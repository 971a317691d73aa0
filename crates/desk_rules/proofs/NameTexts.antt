-- Names are ASCII, and so text.
use Rattle.std.proofs.Common.{◌≡◌, ℕ, ◌<◌, List, [], ◌∷◌, arith}
use Rattle.std.specs.Prelude.{true, IsTrue}
use Rattle.std.specs.List.{list_all}
use Rattle.std.specs.Str.{IsAscii, IsUtf8}
use Rattle.std.proofs.lemmas.Bool.{and_parts}
use Rattle.std.proofs.lemmas.Bool.Decides.{nat_tests}
use Rattle.std.proofs.lemmas.Str.{IsUtf8-from_ascii}
use Rattle.std.proofs.lemmas.Str.Ascii.{IsAscii-nil, IsAscii-cons}
use Rattle.desk_rules.specs.Limits.{is_name_byte, is_operator_name}

below_128 : (b : ℕ) → is_name_byte b ≡ true → b < 128
below_128 b is = grind (arith, nat_tests)

ascii_names : (name : List ℕ) → list_all is_name_byte name ≡ true → IsAscii name
ascii_names [] all = IsAscii-nil
ascii_names (b ∷ bs) all = let parts = and_parts _ _ all
    in IsAscii-cons b bs (below_128 b parts.0) (ascii_names bs parts.1)

-- an operator's name is text
pub name_is_text : (name : List ℕ) → IsTrue (is_operator_name name) → IsUtf8 name
name_is_text name is = IsUtf8-from_ascii name (ascii_names name (and_parts _ _ is).1)
