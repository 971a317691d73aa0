use Rattle.std.proofs.Common.{◌≡◌, string_bytes}
use Rattle.cell_picture.specs.Picture.{vertical_lines_text}
use Rattle.cell_picture.proofs.picture.vertical_lines.Given as goal

-- those before a place
abbrev pub invariant-loop-place : goal.invariant-loop-place
invariant-loop-place l = string_bytes l.text ≡ vertical_lines_text l.step l.height l.place
