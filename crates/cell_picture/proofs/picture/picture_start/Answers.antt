use Rattle.std.proofs.Common.{◌≡◌, string_bytes}
use Rattle.cell_picture.specs.Picture.{sum64, pixel_height_of, face_text, opening_text, part_start, title_text}
use Rattle.cell_picture.specs.declared.picture.TheConstants.{LEGEND_HEIGHT, STYLE}
use Rattle.cell_picture.proofs.PictureLemmas.{five, pushed}
use Rattle.cell_picture.proofs.picture.picture_start.Goals as goal

pub returns : goal.returns
returns c =
    let frame = c.args.frame.now in
    let opening = opening_text (sum64 (pixel_height_of frame) LEGEND_HEIGHT) in
    let begun : string_bytes c.in_ok-text.text ≡ opening =
    rw (← c.pixel_height.ensures, ← c.saturating_add.ensures) c.in_ok-text.ensures in
    five opening (title_text c.args.rect.now) STYLE.now (part_start frame) (face_text frame) _ _ _ _ _ begun
    (pushed (string_bytes c.in_ok-text.text) _ _ _ _ c.in_ok-push_str.ensures.bytes c.deref.ensures
    c.in_ok-title.ensures)
    c.in_ok-push_str-2.ensures.bytes
    (pushed (string_bytes c.push_str-2.new.self) _ _ _ _ c.in_ok-push_str-3.ensures.bytes c.deref-2.ensures
    c.in_ok-part_start.ensures)
    (pushed (string_bytes c.push_str-3.new.self) _ _ _ _ c.in_ok-push_str-4.ensures.bytes c.deref-3.ensures
    c.in_ok-background.ensures)
