use Rattle.cell_picture.specs.Picture.{part_start}
use Rattle.cell_picture.proofs.picture.part_start.Goals as goal

pub returns : goal.returns
unfolding part_start
returns c = rw (← c.pixel_height-tall.ensures, ← c.line_width-line.ensures) c.format.ensures.ok
