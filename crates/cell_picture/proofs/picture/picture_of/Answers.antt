use Rattle.cell_picture.proofs.PictureLemmas.{pushed, six}
use Rattle.cell_picture.proofs.picture.picture_of.Goals as goal

pub returns : goal.returns
returns c = (
  c.around-frame.result,
  (
    c.around-frame.ensures.frame,
    six _ _ _ _ _ _ _ _ _ _ _ _ c.in_ok-text.ensures
        (pushed _ _ _ _ _ c.in_ok-push_str.ensures.bytes c.deref.ensures c.in_ok-grid_lines.ensures)
        (pushed _ _ _ _ _ c.in_ok-push_str-2.ensures.bytes c.deref-2.ensures c.in_ok-cell_squares.ensures)
        (pushed _ _ _ _ _ c.in_ok-push_str-3.ensures.bytes c.deref-3.ensures c.in_ok-requested_rectangle.ensures)
        (pushed _ _ _ _ _ c.in_ok-push_str-4.ensures.bytes c.deref-4.ensures c.in_ok-curve_lines.ensures)
        (pushed _ _ _ _ _ c.in_ok-push_str-5.ensures.bytes c.deref-5.ensures c.in_ok-picture_end.ensures),
  ),
)
