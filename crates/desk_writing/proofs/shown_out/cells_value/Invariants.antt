use Rattle.std.proofs.Common.{◌≡◌, map, take}
use Rattle.serde_json.specs.View.{view}
use Rattle.desk_writing.specs.ReplyText.{cell_data}
use Rattle.desk_writing.proofs.shown_out.cells_value.Given as goal

-- the values so far
abbrev pub invariant-loop-cell : goal.invariant-loop-cell
invariant-loop-cell l = map view l.values.items ≡ map cell_data (take l.cell-index l.cells)
