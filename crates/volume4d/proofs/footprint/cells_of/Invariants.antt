use Rattle.std.proofs.Common.{◌≡◌, take, All}
use Rattle.s2_cellid.specs.Cell.{IsCellId}
use Rattle.volume4d.proofs.IdBytes.{ids_of}
use Rattle.volume4d.proofs.footprint.cells_of.Given as goal

-- the cells are those of the eights so far
abbrev pub invariant-loop-id : goal.invariant-loop-id
invariant-loop-id l = (l.cells.items ≡ ids_of (take l.id-index l.ids)) × All IsCellId l.cells.items
