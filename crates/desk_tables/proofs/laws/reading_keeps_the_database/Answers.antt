use Rattle.desk_tables.proofs.CutFoundLemmas.{read_leaves}
use Rattle.desk_tables.proofs.laws.reading_keeps_the_database.Goals as goal

pub returns-clause-read : goal.returns-clause-read
returns-clause-read g c = λ image left old w looks.
    read_leaves image left looks.found g.met.D.Disk.seen_may_stay looks.opened looks.reads

pub returns-clause-unread : goal.returns-clause-unread
returns-clause-unread g c = λ image e left unread.
    read_leaves image left unread.found g.met.D.Disk.seen_may_stay unread.opened unread.reads
