use Rattle.std.proofs.Common.{◌≡◌, arith, true, rules, ◌∙◌}
use Rattle.db_file.proofs.ReadLemmas.{frame_more}
use Rattle.db_file.proofs.WalkLemmas.{follows_on}
use Rattle.db_file.proofs.judging.find_stop.Goals as goal

pub loop-stop-preserved : goal.loop-stop-preserved
loop-stop-preserved g c = record {
  followed = λ page bytes len head before.
      let n = c.loop-stop.stop in
      let so_far = c.loop-stop.invariant.followed page bytes len head before in
      let next =
      rw c.if-not-branch.false at (c.in_ok-next_frame.ensures.value page n bytes
      (c.loop-stop.auto.frame ∙ len) so_far.1) in
      let is_so : c.is_frame_valid.result ≡ true = search rules in
      follows_on page n bytes _ _ _ _ head so_far.0 next _ c.checksum_at-sum-in-loop-stop.ensures
      (c.is_frame_valid.ensures.0 is_so);
  read = frame_more _ _ _ _ c.loop-stop.stop c.loop-stop.invariant.read
      (omega (arith, c.requires, c.loop-stop.auto.frame, c.next_frame.auto.frame))
      (c.in_ok-next_frame.ensures.read c.if-not-branch.false);
}
