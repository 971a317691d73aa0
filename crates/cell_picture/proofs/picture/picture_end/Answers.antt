use Rattle.cell_picture.specs.Picture.{legend_start}
use Rattle.cell_picture.proofs.PictureLemmas.{three}
use Rattle.cell_picture.proofs.picture.picture_end.Goals as goal

pub returns : goal.returns
unfolding legend_start
returns c =
    rw (← c.pixel_height-tall.ensures) (three _ _ _ _ _ _ c.in_ok-text.ensures.ok c.in_ok-push_str.ensures.bytes
    c.in_ok-push_str-2.ensures.bytes)
