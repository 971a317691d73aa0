use Rattle.desk_tables.proofs.LeavingLemmas.{begins_either, either_content, never_refused}
use Rattle.desk_tables.proofs.laws.a_store_begins_with_the_old_or_the_new.Goals as goal

pub returns-clause-begins : goal.returns-clause-begins
returns-clause-begins g c = λ old last new before after other only may.
    begins_either last old before after only may new other

pub returns-clause-taken : goal.returns-clause-taken
returns-clause-taken g c = λ old last before after e left only may.
    never_refused last (either_content old last before after only may) e left
