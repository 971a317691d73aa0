use Rattle.std.proofs.Common.{◌∙◌, take}
use Rattle.db_file.proofs.SumLemmas.{passes_more}
use Rattle.db_file.proofs.sums.copy_bytes.Goals as goal

pub loop-preserved : goal.loop-preserved
loop-preserved g c = record {
  room = c.read.auto.buf ∙ c.loop.invariant.room;
  copied = passes_more (g.R.Read.remaining c.args.file.now) (take c.in_ok-count.count c.read.new.buf)
      _ _ _ _ _ c.in_ok-count.ensures.bytes.0 c.in_ok-write_all.ensures.bytes c.loop.invariant.copied;
}
