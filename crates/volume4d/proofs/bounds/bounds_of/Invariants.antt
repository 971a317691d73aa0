use Rattle.volume4d.proofs.BoundLemmas.{IsRound}
use Rattle.volume4d.proofs.bounds.bounds_of.Given as goal

-- round the slabs so far
abbrev pub invariant-loop-slab : goal.invariant-loop-slab
invariant-loop-slab l = IsRound l.slabs l.slab-index l.bounds
