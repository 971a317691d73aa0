use Rattle.std.proofs.Common.{◌∙◌}
use Rattle.db_file.proofs.WalkLemmas.{next_read}
use Rattle.db_file.proofs.judging.next_frame.Goals as goal

pub returns-clause-value : goal.returns-clause-value
returns-clause-value g c page n bytes len before =
    next_read page n bytes c.read_whole.new.room
    (c.read_whole.auto.room ∙ len) _ _ _ c.read_whole.ensures.whole
    c.read_whole.ensures.short before
