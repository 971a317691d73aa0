use Rattle.s2_cellid.specs.Cell.{token_text}
use Rattle.s2_cellid.proofs.Spellings.{holds_token, spelling_of-token, printed_token, only_token}
use Rattle.s2_cellid.proofs.Readings.{reads_spelling}
use Rattle.s2_cellid.proofs.CellId.token.Goals as goal

pub invariant_of-result : goal.invariant_of-result
invariant_of-result c =
    rw (c.printed_length.ensures, c.hex_digits.ensures, c.raw-id.ensures.value)
    (holds_token c.args.self.now)

pub returns-clause-spelling : goal.returns-clause-spelling
returns-clause-spelling c =
    rw (c.printed_length.ensures, c.hex_digits.ensures, c.raw-id.ensures.value)
    (spelling_of-token c.args.self.now c.raw-id.ensures.valid)

pub returns-clause-printed : goal.returns-clause-printed
returns-clause-printed c =
    rw (c.printed_length.ensures, c.hex_digits.ensures, c.raw-id.ensures.value)
    (printed_token c.args.self.now c.raw-id.ensures.valid)

pub returns-clause-only : goal.returns-clause-only
returns-clause-only c =
    rw (c.printed_length.ensures, c.hex_digits.ensures, c.raw-id.ensures.value)
    (λ text spelling printed. only_token text c.args.self.now spelling printed)

pub returns-clause-read_back : goal.returns-clause-read_back
returns-clause-read_back c =
    rw (c.printed_length.ensures, c.hex_digits.ensures, c.raw-id.ensures.value)
    (let id = c.args.self.now in
    let valid = c.raw-id.ensures.valid in
    reads_spelling (token_text id) id (spelling_of-token id valid) valid)
