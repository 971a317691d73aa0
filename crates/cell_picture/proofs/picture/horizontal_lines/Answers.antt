use Rattle.std.proofs.Common.{◌∙◌, ◌-◌, ap}
use Rattle.cell_picture.specs.Picture.{level}
use Rattle.cell_picture.proofs.PictureLemmas.{no_level, one_level, pushed}
use Rattle.cell_picture.proofs.picture.horizontal_lines.Goals as goal

pub loop-place-init : goal.loop-place-init
loop-place-init c = c.new-text.ensures.bytes ∙ no_level c.args.step c.args.width c.args.height

pub loop-place-preserved : goal.loop-place-preserved
loop-place-preserved c =
    one_level c.args.step c.args.width c.args.height c.loop-place.place _ _ c.loop-place.invariant
    (pushed _ _ _ _ _ c.in_ok-push_str.ensures.bytes c.deref.ensures
    (c.in_ok-horizontal_line.ensures ∙ ap (λ y. level y c.args.width)
    (c.saturating_sub-y.ensures ∙ ap (λ n. c.args.height - n) c.saturating_mul.ensures)))
