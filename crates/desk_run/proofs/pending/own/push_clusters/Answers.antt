use Rattle.desk_run.proofs.ClusterLemmas.{later_filled, later_order}
use Rattle.desk_run.proofs.ListingLemmas.{covered_on, kept_on}
use Rattle.desk_run.proofs.pending.own.push_clusters.Goals as goal

pub loop-rest-preserved : goal.loop-rest-preserved
loop-rest-preserved c =
    let so_far = c.loop-rest.invariant in
    let rest = c.loop-rest.rest.now in
    let cluster = c.split_cluster.result.0.now in
    let later = c.split_cluster.result.1.now in
    let split = c.split_cluster.ensures in
    let extents = c.loop-rest.extents.items in
    let pushed = c.in_ok-push.ensures.items in
    record {
      kept = kept_on c.args.extents.now.items extents c.push.new.self.items c.bounds_of.result so_far.kept
          pushed;
      covered = λ x has.
          covered_on rest cluster later extents c.push.new.self.items c.bounds_of.result x split
          c.bounds_of.ensures pushed (so_far.covered x has);
      filled = later_filled rest cluster later split so_far.filled;
      order = later_order rest cluster later split so_far.order;
    }
