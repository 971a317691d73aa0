use Rattle.std.proofs.Common.{◌≡◌, ◌++◌, drop, string_bytes}
use Rattle.cell_picture.specs.Picture.{cells_text}
use Rattle.cell_picture.proofs.picture.cell_squares.Given as goal

-- the others are still to come
abbrev pub invariant-loop-cell : goal.invariant-loop-cell
invariant-loop-cell l =
    string_bytes l.text ++ cells_text l.frame (drop l.cell-index l.cells) ≡ cells_text l.frame l.cells
