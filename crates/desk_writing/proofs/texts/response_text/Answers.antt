use Rattle.std.proofs.Common.{rules}
use Rattle.desk_writing.specs.ReplyText.{answer_text}
use Rattle.desk_writing.proofs.texts.response_text.Goals as goal

pub returns : goal.returns
unfolding answer_text
returns c = rw (← c.in_ok-allow.ensures) (search rules)
