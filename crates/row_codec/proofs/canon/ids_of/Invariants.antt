use Rattle.std.proofs.Common.{◌≡◌, take}
use Rattle.std.specs.List.{flat_map}
use Rattle.std.specs.Int.{w64, to_be_bytes}
use Rattle.row_codec.proofs.canon.ids_of.Given as goal

-- the bytes are those of the cells so far
abbrev pub invariant-loop-cell : goal.invariant-loop-cell
invariant-loop-cell l = l.bytes.items ≡ flat_map (λ id. to_be_bytes w64 id) (take l.cell-index l.cells)
