use Rattle.std.proofs.Common.{◌∙◌, ap}
use Rattle.cell_picture.specs.Picture.{vertical_line_text}
use Rattle.cell_picture.proofs.PictureLemmas.{no_upright, one_upright, pushed}
use Rattle.cell_picture.proofs.picture.vertical_lines.Goals as goal

pub loop-place-init : goal.loop-place-init
loop-place-init c = c.new-text.ensures.bytes ∙ no_upright c.args.step c.args.height

pub loop-place-preserved : goal.loop-place-preserved
loop-place-preserved c =
    one_upright c.args.step c.args.height c.loop-place.place _ _ c.loop-place.invariant
    (pushed _ _ _ _ _ c.in_ok-push_str.ensures.bytes c.deref.ensures
    (c.in_ok-vertical_line.ensures ∙ ap (λ x. vertical_line_text x c.args.height) c.saturating_mul-x.ensures))
