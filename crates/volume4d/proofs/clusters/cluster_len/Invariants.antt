use Rattle.std.proofs.Common.{◌≡◌, get_or, take}
use Rattle.volume4d.proofs.ClusterLemmas.{ReachTo}
use Rattle.volume4d.proofs.clusters.cluster_len.Given as goal

-- the slabs so far reach to the position, which is at first where the first of them begins
abbrev pub invariant-loop-place : goal.invariant-loop-place
invariant-loop-place l = record {
  reach : ReachTo l.reach (take l.place l.slabs);
  start : l.place ≡ 0 → (d : _) → l.reach ≡ (get_or l.slabs 0 d).first;
}
