use Rattle.std.proofs.Common.{arith}
use Rattle.s2_cellid.proofs.HexValues.{hex_value_at}
use Rattle.s2_cellid.proofs.tokens.hex_value.Goals as goal

pub returns-then-value-lt-NO : goal.returns-then-value-lt-NO
returns-then-value-lt-NO c = (hex_value_at c.args.byte _ (omega arith)).0 c.if-value-lt-NO.true

pub returns-else-value-lt-NO : goal.returns-else-value-lt-NO
returns-else-value-lt-NO c = (hex_value_at c.args.byte _ (omega arith)).1 c.if-value-lt-NO.false
