use Rattle.cell_picture.proofs.PictureLemmas.{four, pushed}
use Rattle.cell_picture.proofs.picture.grid_lines.Goals as goal

pub returns : goal.returns
returns c =
    four _ _ _ _ _ _ _ _ c.in_ok-text.ensures.ok
    (pushed _ _ _ _ _ c.in_ok-push_str.ensures.bytes c.deref.ensures c.in_ok-vertical_lines.ensures)
    (pushed _ _ _ _ _ c.in_ok-push_str-2.ensures.bytes c.deref-2.ensures c.in_ok-horizontal_lines.ensures)
    c.in_ok-push_str-3.ensures.bytes
