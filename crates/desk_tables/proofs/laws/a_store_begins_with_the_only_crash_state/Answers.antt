use Rattle.desk_tables.proofs.LeavingLemmas.{begins_alone, only_content, never_refused}
use Rattle.desk_tables.proofs.laws.a_store_begins_with_the_only_crash_state.Goals as goal

pub returns-clause-begins : goal.returns-clause-begins
returns-clause-begins g c = begins_alone

pub returns-clause-taken : goal.returns-clause-taken
returns-clause-taken g c = λ last w e left only. never_refused last (only_content last w only) e left
