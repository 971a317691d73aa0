use Rattle.desk_tables.proofs.LeavingLemmas.{found_closed}
use Rattle.desk_tables.proofs.laws.a_close_keeps_the_state.Goals as goal

pub returns-clause-unclosed : goal.returns-clause-unclosed
returns-clause-unclosed g c = λ last it w only unclosed found (db, left, reads).
    only found (db, unclosed.closed.quiet.outcomes db left, reads)

pub returns-clause-closed : goal.returns-clause-closed
returns-clause-closed g c = λ last. found_closed last g.met.D.Disk.seen_may_stay
