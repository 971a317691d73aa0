use Rattle.desk_rules.proofs.Options.{no_error}
use Rattle.desk_rules.proofs.NameTexts.{name_is_text}
use Rattle.desk_rules.proofs.operator.Operator.as_str.Goals as goal

-- the bytes are a name, so they are text
pub unwrap-requires : goal.unwrap-requires
unwrap-requires c =
    no_error c.from_utf8.result _ _ c.from_utf8.ensures.cases
    (λ e never. never.0 (name_is_text _ c.self.invariant.2))
