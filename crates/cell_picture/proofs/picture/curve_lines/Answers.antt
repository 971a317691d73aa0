use Rattle.std.proofs.Common.{◌≡◌, string_bytes}
use Rattle.std.specs.Prelude.{codes, true, false}
use Rattle.cell_picture.specs.Picture.{jumps_start, steps_text}
use Rattle.cell_picture.proofs.PictureLemmas.{five, pushed}
use Rattle.cell_picture.proofs.picture.curve_lines.Goals as goal

pub returns : goal.returns
unfolding jumps_start
returns c =
    let frame = c.args.frame.now in
    let ids = c.args.cells.now in
    let between : string_bytes c.in_ok-format.field-0 ≡ jumps_start frame =
    rw (← c.line_width.ensures, ← c.saturating_mul-dash.ensures) c.in_ok-format.ensures.ok in
    five (codes "<path class=\"way\" d=\"") (steps_text frame true ids) (jumps_start frame)
    (steps_text frame false ids) (codes "\"/>\n") _ _ _ _ _ c.in_ok-text.ensures.ok
    (pushed (string_bytes c.in_ok-text.text) _ _ _ _ c.in_ok-push_str.ensures.bytes c.deref.ensures
    c.in_ok-lines_along.ensures)
    (pushed (string_bytes c.push_str.new.self) _ _ _ _ c.in_ok-push_str-2.ensures.bytes c.deref-2.ensures
    between)
    (pushed (string_bytes c.push_str-2.new.self) _ _ _ _ c.in_ok-push_str-3.ensures.bytes c.deref-3.ensures
    c.in_ok-lines_along-2.ensures)
    c.in_ok-push_str-4.ensures.bytes
