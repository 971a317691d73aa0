use Rattle.desk_rules.specs.Conflict.{is_blocked}
use Rattle.desk_rules.proofs.ConflictLemmas.{one_first, blocked_leaves}
use Rattle.desk_rules.proofs.laws.one_conflict.Goals as goal

pub returns : goal.returns
returns c = λ permitted area levels priority a b p q.
    one_first (is_blocked permitted area levels priority) levels a b
    (blocked_leaves permitted area levels priority) p q
