use Rattle.desk_tables.proofs.LeavingLemmas.{only_content, not_reported}
use Rattle.desk_tables.proofs.laws.a_valid_database_is_not_refused.Goals as goal

pub returns : goal.returns
returns g c = λ last image w only files.
    let reported = c.args.refused.now in
    not_reported last (only_content last w only) image files reported.fault reported.connection
