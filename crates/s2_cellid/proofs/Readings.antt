-- What a text reads as, by the first of its faults.
use Rattle.std.proofs.Common.{◌≡◌, ℕ, ◌<◌, ◌≤◌, List, [], ◌∷◌, length, refl, sym, ◌∙◌, ap, arith}
use Rattle.std.specs.Prelude.{Bool, true, false, not, ◌==◌, nat_lt, IsTrue, Option, Some, None, Ok, Err}
use Rattle.std.specs.Option.{SomeIff, ok_or}
use Rattle.std.proofs.lemmas.Bool.Decides.{nat_tests}
use Rattle.s2_cellid.specs.Cell.{is_cell_id, IsCellId, is_hex, zero_padded_value, IsSpelling, first_fault, unless, read_token}
use Rattle.s2_cellid.specs.declared.tokens.TokenFault.TheVariants.{Empty, TooLong, NotHex, NotACell}

-- whether a text is empty, too long, hex, a cell
some_text : (text : List ℕ) → 0 < length text → (length text == 0) ≡ false
some_text text some = grind (arith, nat_tests)

short_text : (text : List ℕ) → length text ≤ 16 → nat_lt 16 (length text) ≡ false
short_text text within = grind (arith, nat_tests)

pub reads_empty : (text : List ℕ) → (length text == 0) ≡ true → read_token text ≡ Err Empty
unfolding read_token
reads_empty text empty = rw empty refl

pub reads_too_long : (text : List ℕ) → 16 < length text → read_token text ≡ Err TooLong
unfolding read_token
reads_too_long text long =
    let not_empty : (length text == 0) ≡ false = some_text text (omega arith) in
    let too_long : nat_lt 16 (length text) ≡ true = grind (arith, nat_tests) in
    rw (not_empty, too_long) refl

pub some_of : (text : List ℕ) → (length text == 0) ≡ false → 0 < length text
some_of text test = grind (arith, nat_tests)

not_true : (b : Bool) → (IsTrue b → ⊥) → b ≡ false
not_true false never = refl
not_true true never = absurd (never refl)

pub reads_not_hex : (text : List ℕ) → 0 < length text → length text ≤ 16
    → (IsTrue (is_hex text) → ⊥) → read_token text ≡ Err NotHex
unfolding read_token
reads_not_hex text some within other =
    let no_hex =
    not_true (is_hex text) other in rw (some_text text some, short_text text within, no_hex)
    refl

by_cell : (text : List ℕ) → 0 < length text → length text ≤ 16 → is_hex text ≡ true
    → (valid : Bool) → is_cell_id (zero_padded_value text) ≡ valid
    → read_token text ≡ unless (first_fault ((not valid, NotACell) ∷ [])) (zero_padded_value text)
unfolding read_token
by_cell text some within hex valid is =
    rw (some_text text some, short_text text within, hex)
    (ap (λ b. unless (first_fault ((not b, NotACell) ∷ [])) (zero_padded_value text)) is)

reads_no_cell : (text : List ℕ) → 0 < length text → length text ≤ 16 → is_hex text ≡ true
    → is_cell_id (zero_padded_value text) ≡ false → read_token text ≡ Err NotACell
reads_no_cell text some within hex other = by_cell text some within hex false other

reads_cell : (text : List ℕ) → 0 < length text → length text ≤ 16 → is_hex text ≡ true
    → is_cell_id (zero_padded_value text) ≡ true → read_token text ≡ Ok (zero_padded_value text)
reads_cell text some within hex valid = by_cell text some within hex true valid

-- a spelling of a valid id reads as that id
pub reads_spelling : (text : List ℕ) (id : ℕ) → IsSpelling text id → IsCellId id
    → read_token text ≡ Ok id
reads_spelling text id spelling valid =
    reads_cell text spelling.some spelling.at_most spelling.hex
    (ap is_cell_id spelling.value ∙ valid) ∙ ap Ok spelling.value

-- a text of hex digits reads as its id, if that is valid
pub reads_id : (text : List ℕ) (id : ℕ) (cell : Option ℕ) → 0 < length text → length text ≤ 16
    → IsTrue (is_hex text) → id ≡ zero_padded_value text
    → SomeIff cell (IsCellId id) id → ok_or cell NotACell ≡ read_token text
reads_id text id None some within hex is never =
    let other = ap is_cell_id (sym is) ∙ not_true (is_cell_id id) never in
    sym (reads_no_cell text some within hex other)
reads_id text id (Some cell) some within hex is valid =
    ap Ok (valid.1 ∙ is) ∙ sym (reads_cell text some within hex (ap is_cell_id (sym is) ∙ valid.0))
