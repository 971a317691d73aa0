use Rattle.desk_rules.proofs.ConflictLemmas.{conflict_by_meeting, first_among}
use Rattle.desk_rules.proofs.conflict.first_conflict.Goals as goal

pub returns-clause-area : goal.returns-clause-area
returns-clause-area c = λ permitted area levels priority slabs helds.
    conflict_by_meeting permitted area levels priority c.args.mine.now c.args.theirs.now slabs helds
    c.first_meeting.result c.first_meeting.ensures

pub returns-clause-among : goal.returns-clause-among
returns-clause-among c = λ permitted levels priority helds.
    first_among permitted levels priority c.args.mine.now c.args.theirs.now helds c.first_meeting.result
    c.first_meeting.ensures
