use Rattle.std.proofs.Common.{rules}
use Rattle.db_file.proofs.ReadLemmas.{more_taken}
use Rattle.db_file.proofs.reading.fill.Goals as goal

pub loop-count-preserved : goal.loop-count-preserved
loop-count-preserved g c =
    let reached = more_taken c.loop-count.count c.loop-count.room c.read_within.new.room _ _ _ c.loop-count.invariant.reached
    c.in_ok-more.more c.in_ok-more.ensures.bound.0 c.in_ok-more.ensures.taken in
    search (rules, reached)
