use Rattle.std.proofs.Common.{◌≡◌, string_bytes}
use Rattle.cell_picture.specs.Picture.{horizontal_lines_text}
use Rattle.cell_picture.proofs.picture.horizontal_lines.Given as goal

-- those before a place
abbrev pub invariant-loop-place : goal.invariant-loop-place
invariant-loop-place l = string_bytes l.text ≡ horizontal_lines_text l.step l.width l.height l.place
