use Rattle.std.specs.Char.{is_digit}
use Rattle.s2_cellid.proofs.Spellings.{hex_is_text, list_all-take}
use Rattle.s2_cellid.proofs.tokens.Token.as_str.Goals as goal

-- the bytes are hex digits, so they are text
pub from_utf8_unchecked-requires : goal.from_utf8_unchecked-requires
from_utf8_unchecked-requires c =
    hex_is_text _ (list_all-take (λ b. is_digit b 16) c.self.inside.printed c.self.inside.digits
    c.self.invariant.hex)
