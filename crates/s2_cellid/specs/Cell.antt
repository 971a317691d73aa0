-- The cells of the S2 geometry library (class S2CellId), the leaves under them, and their tokens.
use Rattle.std.specs.Prelude.{ℕ, ◌+◌, ◌-◌, ◌*◌, ◌/◌, ◌%◌, ◌^◌, Bool, ◌&&◌, ◌==◌, nat_lt, nat_le, IsTrue, ◌≡◌, ◌≤◌, List, ◌++◌, length, take, drop, replicate, ◌≢◌, zero, suc, ◌<◌, not, if◌then◌else◌, Option, Some, None, Result, Ok, Err, [], ◌∷◌, slice_index, codes}
use Rattle.std.specs.{Int.w64, Int.trailing_zeros, Int.is_in_range, Char.is_digit, Char.digit_char, Char.is_ascii_uppercase, List.list_all, List.suffix_len, Str.Parse.digits_value}
use Rattle.std.proofs.{Common.ap, Common.arith, Common.◌∙◌, lemmas.List.take-append-drop, lemmas.List.length-take}
use Rattle.s2_hilbert.specs.{Grid.face_count, Grid.leaf_level, Grid.GridLeaf, Grid.GridSquare, Curve.position_of, Curve.first_position, Curve.leaf_count}
use Rattle.s2_cellid.specs.declared.tokens.{TokenFault.TokenFault, TokenFault.TheVariants.Empty, TokenFault.TheVariants.TooLong, TokenFault.TheVariants.NotHex, TokenFault.TheVariants.NotACell}

-- ==== The cells of the S2 geometry library (class S2CellId) and the leaves that each of them has
-- An id is 64 bits: from the top three bits of face, then two bits of place along the face's curve for each
-- level down, then one set bit, and zeros below it.

-- the place of the lowest set bit, counted from 0; 64 if no bit is set
abbrev pub lowest_place : ℕ → ℕ
lowest_place id = trailing_zeros w64 id

-- the lowest set bit alone (S2CellId::lsb)
abbrev pub lowest_bit : ℕ → ℕ
lowest_bit id = 2 ^ lowest_place id

-- the top three bits (S2CellId::face)
abbrev pub face_of : ℕ → ℕ
face_of id = id / 2 ^ (2 * leaf_level + 1)

-- 0 for a whole face to 30 for a leaf, two bits for each level (S2CellId::level)
abbrev pub level_of : ℕ → ℕ
level_of id = leaf_level - lowest_place id / 2

-- one of six faces, and the lowest set bit at an even place up to 60 (S2CellId::is_valid)
abbrev pub is_cell_id : ℕ → Bool
is_cell_id id =
    nat_lt (face_of id) face_count && (lowest_place id % 2 == 0 && nat_le (lowest_place id) (2 * leaf_level))

abbrev pub IsCellId : ℕ → Type 0
IsCellId id = IsTrue (is_cell_id id)

-- the least and the greatest id of a leaf of the cell (S2CellId::range_min and range_max)
abbrev pub first_leaf_id : ℕ → ℕ
first_leaf_id id = id - (lowest_bit id - 1)

abbrev pub last_leaf_id : ℕ → ℕ
last_leaf_id id = id + (lowest_bit id - 1)

-- the leaves in the order of their ids: the id of the leaf at a position, counted from 0
abbrev pub leaf_id_at : ℕ → ℕ
leaf_id_at position = 2 * position + 1

-- the positions of the cell's first and last leaf
abbrev pub first_leaf : ℕ → ℕ
first_leaf id = first_leaf_id id / 2

abbrev pub last_leaf : ℕ → ℕ
last_leaf id = last_leaf_id id / 2

-- whether the leaf at the position belongs to the cell: its id lies in the cell's closed range
abbrev pub cell_has : ℕ → ℕ → Bool
cell_has id position = is_in_range (first_leaf_id id) (last_leaf_id id) (leaf_id_at position)

-- ==== The leaves of cells on the grids of the six faces, and the cells above and below a cell
-- the id of a leaf
abbrev pub leaf_id : GridLeaf → ℕ
leaf_id leaf = leaf_id_at (position_of leaf)

-- whether the leaf belongs to the cell: its id lies in the cell's closed range
abbrev pub cell_has_leaf : ℕ → GridLeaf → Bool
cell_has_leaf id leaf = cell_has id (position_of leaf)

-- the id of the cell with the leaves of a square: it is the middle of their ids
abbrev pub square_id : GridSquare → ℕ
square_id square = 2 * first_position square + leaf_count square.level

-- the id of the cell's ancestor at a level (S2CellId::parent): bits above that level's lowest set bit stay
abbrev pub parent_id : ℕ → ℕ → ℕ
parent_id level id = id / (2 * leaf_count level) * (2 * leaf_count level) + leaf_count level

-- the id of the k-th quarter of the cell, in curve order (S2CellId::child)
abbrev pub child_id : ℕ → ℕ → ℕ
child_id k id = id - lowest_bit id + (2 * k + 1) * (lowest_bit id / 4)

-- ==== Hex digits, and texts of them that are padded with zeros on the right to all digits of an id
-- how many digits an id has
abbrev pub id_digits : ℕ
id_digits = 16

-- whether each byte is a hex digit, of either case
abbrev pub is_hex : List ℕ → Bool
is_hex text = list_all (λ c. is_digit c 16) text

-- the text, padded with the digit 0 on the right to all digits of an id
abbrev pub zero_padded : List ℕ → List ℕ
zero_padded text = text ++ replicate (id_digits - length text) 48

-- all hex digits of an id, with zeros from the place `printed` on
pub record HoldsToken (digits : List ℕ) (printed : ℕ) : Type 0 where
  pub all : length digits ≡ id_digits
  pub within : printed ≤ id_digits
  pub hex : IsTrue (is_hex digits)
  pub zeros : drop printed digits ≡ replicate (id_digits - printed) 48

-- what is kept follows from what is printed
pub refilled : (digits : List ℕ) (printed : ℕ) → HoldsToken digits printed
    → (zero_padded (take printed digits) ≡ digits) × (length (take printed digits) ≡ printed)
refilled digits printed holds =
    let length_is : length (take printed digits) ≡ printed =
    omega (arith, length-take printed digits, holds) in
    let zeros : replicate (id_digits - length (take printed digits)) 48 ≡ drop printed digits =
    rw (length_is, holds.zeros) in
    (ap (λ rest. take printed digits ++ rest) zeros ∙ take-append-drop printed digits, length_is)

-- ==== The tokens of cell ids, as the S2 geometry library reads and prints them (S2CellId::FromToken and
-- S2CellId::ToToken): an id in base 16, without the zeros at its end

-- the number that the text writes in base 16, padded with zeros on the right to all digits of an id
unfoldable pub zero_padded_value : List ℕ → ℕ
zero_padded_value text = digits_value 16 (zero_padded text)

-- the text is 1 to 16 hex digits of either case; padded with zeros on the right, they write the id in base 16
pub record IsSpelling (text : List ℕ) (id : ℕ) : Type 0 where
  pub some : 0 < length text
  pub at_most : length text ≤ id_digits
  pub hex : IsTrue (is_hex text)
  pub value : zero_padded_value text ≡ id

-- the text has no upper-case letter, and no digit 0 (48 in ASCII) at its end
pub record IsInPrintedForm (text : List ℕ) : Type 0 where
  pub lower : IsTrue (list_all (λ c. not (is_ascii_uppercase c)) text)
  pub ended : slice_index text (length text - 1) ≢ 48

-- the last `count` digits of a number in base 16, of lower case, the highest first
unfoldable pub hex_digits : ℕ → ℕ → List ℕ
hex_digits zero n = []
hex_digits (suc count) n = digit_char (n / 16 ^ count % 16) ∷ hex_digits count n

-- whether a byte is the digit 0
abbrev pub is_zero : ℕ → Bool
is_zero c = c == 48

-- the digits without the zeros at their end
abbrev pub without_end_zeros : List ℕ → List ℕ
without_end_zeros digits = take (length digits - suffix_len is_zero digits) digits

-- the token of an id: its hex digits without the zeros at their end
abbrev pub token_text : ℕ → List ℕ
token_text id = without_end_zeros (hex_digits id_digits id)

-- what can be wrong with a text, in the order in which it is looked for
abbrev pub faults : List ℕ → List (Bool × TokenFault)
faults text =
    (length text == 0, Empty) ∷ (nat_lt id_digits (length text), TooLong) ∷ (not (is_hex text), NotHex)
    ∷ (not (is_cell_id (zero_padded_value text)), NotACell) ∷ []

-- the first fault whose condition holds
abbrev pub first_fault : List (Bool × TokenFault) → Option TokenFault
first_fault [] = None
first_fault (condition ∷ rest) = if condition.0 then Some condition.1 else first_fault rest

-- the fault if there is one, else the id
abbrev pub unless : Option TokenFault → ℕ → Result ℕ TokenFault
unless None id = Ok id
unless (Some fault) id = Err fault

-- what a text reads as: the first fault that applies, or the id
unfoldable pub read_token : List ℕ → Result ℕ TokenFault
read_token text = unless (first_fault (faults text)) (zero_padded_value text)

-- what a fault prints
abbrev pub token_fault_text : TokenFault → List ℕ
token_fault_text Empty = codes "the token is empty"
token_fault_text TooLong = codes "the token has more than 16 digits"
token_fault_text NotHex = codes "the token has a byte that is no hex digit"
token_fault_text NotACell = codes "the token is not that of a valid cell"
