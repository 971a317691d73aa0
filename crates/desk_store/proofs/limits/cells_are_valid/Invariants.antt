use Rattle.std.proofs.Common.{take}
use Rattle.std.specs.List.{AllByRecursion}
use Rattle.s2_cellid.specs.Cell.{IsCellId}
use Rattle.desk_store.proofs.limits.cells_are_valid.Given as goal

-- the cells so far
abbrev pub invariant-loop-cell : goal.invariant-loop-cell
invariant-loop-cell l = AllByRecursion IsCellId (take l.cell-index l.cells)
