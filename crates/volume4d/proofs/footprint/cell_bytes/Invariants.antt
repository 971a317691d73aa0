use Rattle.std.proofs.Common.{◌≡◌, ◌∷◌, take, All}
use Rattle.s2_cellid.specs.Cell.{IsCellId}
use Rattle.volume4d.proofs.IdBytes.{bytes_of}
use Rattle.volume4d.proofs.footprint.cell_bytes.Given as goal

-- the bytes are those of the cells so far, which are valid
abbrev pub invariant-loop-cell : goal.invariant-loop-cell
invariant-loop-cell l =
    record {
      written : l.bytes.items ≡ 1 ∷ bytes_of (take l.cell-index l.cells);
      valid : All IsCellId (take l.cell-index l.cells);
    }
