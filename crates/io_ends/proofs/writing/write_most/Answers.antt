use Rattle.std.proofs.Common.{rules}
use Rattle.io_ends.proofs.WritingLemmas.{rest_is, taken_more}
use Rattle.io_ends.proofs.writing.write_most.Goals as goal

pub loop-preserved : goal.loop-preserved
loop-preserved g c =
    let more = taken_more c.write_counted.result _ _ _ c.args.bytes.now _ c.loop.sent c.count_or_zero-sent.result
    c.loop.invariant.sent (rest_is c.loop.sent c.args.bytes.now) c.loop.invariant.within
    c.count_or_zero-sent.ensures.ok c.count_or_zero-sent.ensures.err c.write_counted.ensures.bound
    c.write_counted.ensures.bytes in
    search (rules, more)
