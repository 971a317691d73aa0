use Rattle.std.proofs.Common.{arith, sym, ◌∙◌}
use Rattle.s2_cellid.proofs.Readings.{reads_empty, reads_too_long, reads_not_hex, some_of, reads_id}
use Rattle.s2_cellid.proofs.CellId.from_token.Goals as goal

pub returns-then-is_empty-clause-value : goal.returns-then-is_empty-clause-value
returns-then-is_empty-clause-value c =
    sym (reads_empty c.args.token.now (sym c.is_empty.ensures ∙ c.if-is_empty.true))

pub returns-then-token-gt-DIGITS-clause-value : goal.returns-then-token-gt-DIGITS-clause-value
returns-then-token-gt-DIGITS-clause-value c = sym (reads_too_long c.args.token.now (omega arith))

pub returns-in_default-clause-value : goal.returns-in_default-clause-value
returns-in_default-clause-value c =
    let some = some_of c.args.token.now (sym c.if-is_empty.ensures) in
    sym (reads_not_hex c.args.token.now some c.if-token-gt-DIGITS.false c.in_default.ensures)

pub returns-clause-value : goal.returns-clause-value
returns-clause-value c =
    let some = some_of c.args.token.now (sym c.if-is_empty.ensures) in
    c.ok_or.ensures.value
    ∙ reads_id c.args.token.now c.in-Some.id c.from_raw.result some c.if-token-gt-DIGITS.false
    c.in-Some.ensures.0 c.in-Some.ensures.1 c.from_raw.ensures
