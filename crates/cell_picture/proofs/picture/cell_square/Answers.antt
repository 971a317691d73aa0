use Rattle.std.proofs.Common.{◌≡◌, string_bytes, subst}
use Rattle.std.specs.Prelude.{IfOk}
use Rattle.cell_picture.specs.Picture.{cell_text}
use Rattle.cell_picture.proofs.picture.cell_square.Goals as goal

pub returns : goal.returns
unfolding cell_text
returns c =
    subst (λ place. IfOk c.format.result (λ text. string_bytes text ≡ cell_text place c.args.cell.now))
    c.place_of-x.ensures c.format.ensures.ok
