use Rattle.std.proofs.Common.{◌≡◌, ◌++◌, drop, string_bytes}
use Rattle.cell_picture.specs.Picture.{steps_from}
use Rattle.cell_picture.proofs.picture.lines_from.Given as goal

-- the lines to the others are still to come
abbrev pub invariant-loop-to : goal.invariant-loop-to
invariant-loop-to l =
    string_bytes l.text ++ steps_from l.frame l.adjacent l.from (drop l.to-index l.others)
    ≡ steps_from l.frame l.adjacent l.first l.others
