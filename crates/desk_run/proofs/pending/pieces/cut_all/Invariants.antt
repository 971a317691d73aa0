use Rattle.std.proofs.Common.{◌≡◌, take, drop}
use Rattle.desk_run.specs.HeldAmong.{AreCut}
use Rattle.desk_run.proofs.pending.pieces.cut_all.Given as goal

-- the held slabs so far are cut, and the others are what they were
abbrev pub invariant-loop-held : goal.invariant-loop-held
invariant-loop-held l = record {
  cut : AreCut l.piece (take l.held-index l.fn.helds) (take l.held-index l.helds);
  rest : drop l.held-index l.helds ≡ drop l.held-index l.fn.helds;
}
