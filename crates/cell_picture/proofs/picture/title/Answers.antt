use Rattle.cell_picture.specs.Picture.{title_text}
use Rattle.cell_picture.proofs.picture.title.Goals as goal

pub returns : goal.returns
unfolding title_text
returns c = rw (← c.face-face.ensures, ← c.level-level.ensures.value) c.format.ensures.ok
