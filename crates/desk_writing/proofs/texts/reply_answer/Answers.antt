use Rattle.desk_rules.specs.Outcome.{said_in}
use Rattle.desk_writing.proofs.WholeLemmas.{reply-whole}
use Rattle.desk_writing.proofs.texts.reply_answer.Goals as goal

pub json_answer-requires : goal.json_answer-requires
json_answer-requires c = rw c.in_ok-value.ensures (reply-whole (said_in c.args.reply.now))
