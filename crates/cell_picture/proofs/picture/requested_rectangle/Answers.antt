use Rattle.std.proofs.Common.{◌≡◌, ◌-◌}
use Rattle.cell_picture.specs.Picture.{depth_below_top, line_width_of, product64, sum64, requested_rectangle_text}
use Rattle.cell_picture.proofs.picture.requested_rectangle.Goals as goal

pub returns : goal.returns
unfolding requested_rectangle_text
returns c =
    let rect = c.args.rect.now in
    let frame = c.args.frame.now in
    let x : c.saturating_sub-x.result ≡ rect.i_min - frame.i = cc in
    let y : c.depth_of-y.result ≡ depth_below_top frame (sum64 rect.j_max 1) = cc in
    let width : c.saturating_add-width.result ≡ sum64 (rect.i_max - rect.i_min) 1 = cc in
    let height : c.saturating_add-height.result ≡ sum64 (rect.j_max - rect.j_min) 1 = cc in
    let line : c.saturating_mul-line.result ≡ product64 (line_width_of frame) 2 = cc in
    rw (← x, ← y, ← width, ← height, ← line) c.format.ensures.ok
