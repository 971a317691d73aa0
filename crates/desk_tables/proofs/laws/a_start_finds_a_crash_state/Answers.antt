use Rattle.desk_tables.proofs.LeavingLemmas.{found_again}
use Rattle.desk_tables.proofs.laws.a_start_finds_a_crash_state.Goals as goal

pub returns : goal.returns
returns g c = found_again
