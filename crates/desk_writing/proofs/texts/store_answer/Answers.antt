use Rattle.std.proofs.Common.{refl}
use Rattle.std.specs.Fmt.{digits}
use Rattle.serde_json.proofs.OnLiterals.{serde_json_on_literals}
use Rattle.desk_writing.specs.ReplyText.{answer_text, error_text, json_answer}
use Rattle.desk_writing.proofs.texts.store_answer.Goals as goal

pub returns-clause-value : goal.returns-clause-value
unfolding serde_json_on_literals digits answer_text error_text json_answer
returns-clause-value c = refl
