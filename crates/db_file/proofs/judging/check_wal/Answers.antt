use Rattle.std.proofs.Common.{refl, rules}
use Rattle.db_file.proofs.JudgeLemmas.{reported_of_all, no_log, too_short}
use Rattle.db_file.proofs.judging.check_wal.Goals as goal

pub returns-in-Some-clause-value : goal.returns-in-Some-clause-value
returns-in-Some-clause-value g c =
    reported_of_all c.in-Some.page _ _ _ _ c.read_whole.auto.room
    (c.in_ok-read_whole.ensures.whole c.if-not-branch.false)
    λ bytes head before.
    c.check_frames.ensures.value c.in-Some.page bytes (search rules) head c.in-Some.ensures.some c.in-Some.ensures.size
    before

pub returns-in-None-clause-value : goal.returns-in-None-clause-value
returns-in-None-clause-value g c =
    no_log c.read_whole.new.room _ _ c.read_whole.auto.room
    (c.in_ok-read_whole.ensures.whole c.if-not-branch.false)
    (c.in-None.ensures.none refl)

pub returns-then-not-branch-clause-value : goal.returns-then-not-branch-clause-value
returns-then-not-branch-clause-value g c =
    too_short _ c.read_whole.new.room c.read_whole.auto.room
    (c.in_ok-read_whole.ensures.short c.if-not-branch.true)
