-- A cover's picture, as SVG: the part of a face that it shows, the places of what is drawn, and its text.
use Rattle.std.specs.Prelude.{◌≡◌, ℕ, ◌+◌, ◌-◌, ◌*◌, ◌/◌, ◌^◌, max, min, ◌==◌, zero, suc, ◌++◌, Bool, true, false, List, [], ◌∷◌, codes, cond, decimal, not}
use Rattle.std.specs.Int.{IsNextPowerOfTwo}
use Rattle.s2_hilbert.specs.Curve.{grid_leaf_at}
use Rattle.s2_cellid.specs.Cell.{first_leaf, level_of, last_leaf, token_text}
use Rattle.s2_cover.specs.Covers.{RectParts}
use Rattle.cell_picture.specs.declared.{frame.Frame.Frame, frame.GridSquare.GridSquare, frame.TheConstants.SQUARES, frame.TheConstants.WIDTH, picture.TheConstants.LEGEND, picture.TheConstants.LEGEND_HEIGHT, picture.TheConstants.STYLE}

-- the sum of two numbers of 64 bits, at most the greatest of them (`saturating_add`)
abbrev pub sum64 : ℕ → ℕ → ℕ
sum64 a b = min (a + b) (2 ^ 64 - 1)

-- the product of two, at most the greatest of them (`saturating_mul`)
abbrev pub product64 : ℕ → ℕ → ℕ
product64 a b = min (a * b) (2 ^ 64 - 1)

-- the greatest multiple of `step` that is at most `number`
abbrev pub rounded_down : ℕ → ℕ → ℕ
rounded_down number step = number / step * step

-- the greater of the two distances between the least and the greatest coordinate of a rectangle
abbrev pub longer_side : RectParts → ℕ
longer_side rect = max (rect.i_max - rect.i_min) (rect.j_max - rect.j_min)

-- `step` is the side of the grid's squares: the power of two at which about SQUARES of them lie along `way`
-- leaves, but at least `side`
abbrev pub IsStep : ℕ → ℕ → ℕ → Type 0
IsStep way side step = (power : ℕ) × (IsNextPowerOfTwo (way / SQUARES) power × (step ≡ max power side))

-- the margin around a rectangle: a quarter of its longer side, or a square of the grid if that is more
abbrev pub margin_of : RectParts → ℕ → ℕ
margin_of rect step = max (longer_side rect / 4) step

-- the least coordinate that is shown, and the one after the greatest, in whole squares of the grid
abbrev pub shown_from : ℕ → ℕ → ℕ → ℕ
shown_from least margin step = rounded_down (least - margin) step

abbrev pub shown_to : ℕ → ℕ → ℕ → ℕ
shown_to greatest margin step = min (sum64 (rounded_down (sum64 greatest margin) step) step) (2 ^ 30)

-- the frame is the part of the face that is shown for a rectangle
pub record IsFrame (rect : RectParts) (frame : Frame) : Type 0 where
  pub step : IsStep (longer_side rect) (2 ^ (30 - rect.level)) frame.step
  pub i : frame.i ≡ shown_from rect.i_min (margin_of rect frame.step) frame.step
  pub j : frame.j ≡ shown_from rect.j_min (margin_of rect frame.step) frame.step
  pub width : frame.width ≡ shown_to rect.i_max (margin_of rect frame.step) frame.step - frame.i
  pub height : frame.height ≡ shown_to rect.j_max (margin_of rect frame.step) frame.step - frame.j

-- how many leaves below the upper edge the coordinate `j` is
abbrev pub depth_below_top : Frame → ℕ → ℕ
depth_below_top frame j = sum64 frame.j frame.height - j

-- the square of a cell in the picture: `y` runs downwards
abbrev pub place_of : Frame → ℕ → GridSquare
place_of frame cell =
    let side = 2 ^ (30 - level_of cell) in
    let leaf = grid_leaf_at (first_leaf cell) in
    record {
      x = rounded_down leaf.i side - frame.i;
      y = depth_below_top frame (rounded_down leaf.j side + side);
      side = side;
    }

-- the centre of a square
abbrev pub middle_x : GridSquare → ℕ
middle_x place = sum64 place.x (place.side / 2)

abbrev pub middle_y : GridSquare → ℕ
middle_y place = sum64 place.y (place.side / 2)

-- the width of a line that is about one pixel wide, in leaves
abbrev pub line_width_of : Frame → ℕ
line_width_of frame = max (frame.width / WIDTH) 1

-- the height of the face's part in the picture, in pixels
abbrev pub pixel_height_of : Frame → ℕ
pixel_height_of frame = product64 frame.height WIDTH / frame.width

-- ==== The text of a picture, as SVG
-- the title of the picture of a rectangle
unfoldable pub title_text : RectParts → List ℕ
title_text rect =
    codes "<title>The cells of a rectangle on face " ++ (decimal rect.face
    ++ (codes ", widened to whole squares of level " ++ (decimal rect.level ++ codes "</title>\n")))

-- the start tag of a picture that is `height` pixels high
unfoldable pub opening_text : ℕ → List ℕ
opening_text height =
    codes "<svg xmlns=\"http://www.w3.org/2000/svg\" width=\"" ++ (decimal WIDTH ++ (codes "\" viewBox=\"0 0 "
    ++ (decimal WIDTH ++ (codes " " ++ (decimal height ++ codes "\">\n")))))

-- the start tag of the nested picture of the face, whose coordinates are leaves
unfoldable pub part_start : Frame → List ℕ
part_start frame =
    codes "<svg width=\"" ++ (decimal WIDTH ++ (codes "\" height=\"" ++ (decimal (pixel_height_of frame)
    ++ (codes "\" viewBox=\"0 0 " ++ (decimal frame.width ++ (codes " " ++ (decimal frame.height
    ++ (codes "\" stroke-width=\"" ++ (decimal (line_width_of frame) ++ codes "\">\n")))))))))

-- the background of the face
unfoldable pub face_text : Frame → List ℕ
face_text frame =
    codes "<rect class=\"face\" width=\"" ++ (decimal frame.width ++ (codes "\" height=\""
    ++ (decimal frame.height ++ codes "\"/>\n")))

-- the text before the grid
abbrev pub picture_start : Frame → RectParts → List ℕ
picture_start frame rect = opening_text (sum64 (pixel_height_of frame) LEGEND_HEIGHT)
    ++ (title_text rect ++ (STYLE.now ++ (part_start frame ++ face_text frame)))

-- the path of a vertical line at `x`, and of a horizontal line at `y`
unfoldable pub vertical_line_text : ℕ → ℕ → List ℕ
vertical_line_text x height = codes "M" ++ (decimal x ++ (codes " 0V" ++ decimal height))

unfoldable pub level : ℕ → ℕ → List ℕ
level y width = codes "M0 " ++ (decimal y ++ (codes "H" ++ decimal width))

-- the paths of n vertical lines from the left, and of n horizontal lines from below, one each `step` leaves
unfoldable pub vertical_lines_text : ℕ → ℕ → ℕ → List ℕ
vertical_lines_text step height zero = []
vertical_lines_text step height (suc n) = vertical_lines_text step height n ++ vertical_line_text (product64 n step) height

unfoldable pub horizontal_lines_text : ℕ → ℕ → ℕ → ℕ → List ℕ
horizontal_lines_text step width height zero = []
horizontal_lines_text step width height (suc n) = horizontal_lines_text step width height n ++ level (height - product64 n step) width

-- the grid of the face
abbrev pub grid_text : Frame → List ℕ
grid_text frame =
    codes "<path class=\"squares\" d=\"" ++ (vertical_lines_text frame.step frame.height (frame.width / frame.step)
    ++ (horizontal_lines_text frame.step frame.width frame.height (frame.height / frame.step) ++ codes "\"/>\n"))

-- the square of a cell, with the cell's token as its title
unfoldable pub cell_text : GridSquare → ℕ → List ℕ
cell_text place id =
    codes "<rect class=\"cell\" x=\"" ++ (decimal place.x ++ (codes "\" y=\"" ++ (decimal place.y
    ++ (codes "\" width=\"" ++ (decimal place.side ++ (codes "\" height=\"" ++ (decimal place.side
    ++ (codes "\"><title>" ++ (token_text id ++ codes "</title></rect>\n")))))))))

-- the squares of the cells, in their order
abbrev pub cells_text : Frame → List ℕ → List ℕ
cells_text frame [] = []
cells_text frame (id ∷ ids) = cell_text (place_of frame id) id ++ cells_text frame ids

-- the outline of the rectangle as it was requested
unfoldable pub requested_rectangle_text : Frame → RectParts → List ℕ
requested_rectangle_text frame rect =
    codes "<rect class=\"asked\" x=\"" ++ (decimal (rect.i_min - frame.i) ++ (codes "\" y=\""
    ++ (decimal (depth_below_top frame (sum64 rect.j_max 1)) ++ (codes "\" width=\""
    ++ (decimal (sum64 (rect.i_max - rect.i_min) 1) ++ (codes "\" height=\""
    ++ (decimal (sum64 (rect.j_max - rect.j_min) 1) ++ (codes "\" stroke-width=\""
    ++ (decimal (product64 (line_width_of frame) 2) ++ codes "\"/>\n")))))))))

-- the path of a line from the centre of one square to the centre of another
unfoldable pub line_text : GridSquare → GridSquare → List ℕ
line_text from to =
    codes "M" ++ (decimal (middle_x from) ++ (codes " " ++ (decimal (middle_y from)
    ++ (codes "L" ++ (decimal (middle_x to) ++ (codes " " ++ decimal (middle_y to)))))))

-- whether two cells are adjacent on the curve: no leaf is between them
abbrev pub is_next : ℕ → ℕ → Bool
is_next from to = sum64 (last_leaf from) 1 == first_leaf to

-- the line from one cell to another, if they are adjacent and `on`, or are not adjacent and not `on`
abbrev pub step_text : Frame → Bool → ℕ → ℕ → List ℕ
step_text frame on from to =
    cond (cond on (is_next from to) (not (is_next from to)))
    (line_text (place_of frame from) (place_of frame to)) []

-- such lines from the cell `from` along a list of cells
abbrev pub steps_from : Frame → Bool → ℕ → List ℕ → List ℕ
steps_from frame on from [] = []
steps_from frame on from (to ∷ ids) = step_text frame on from to ++ steps_from frame on to ids

-- such lines along a list of cells
abbrev pub steps_text : Frame → Bool → List ℕ → List ℕ
steps_text frame on [] = []
steps_text frame on (id ∷ ids) = steps_from frame on id ids

-- the text between the solid path of the curve and the dashed one
unfoldable pub jumps_start : Frame → List ℕ
jumps_start frame =
    codes "\"/>\n<path class=\"jump\" stroke-dasharray=\"" ++ (decimal (product64 (line_width_of frame) 4)
    ++ codes "\" d=\"")

-- the curve from cell to cell: solid between adjacent cells, dashed between the others
abbrev pub curve_text : Frame → List ℕ → List ℕ
curve_text frame ids =
    codes "<path class=\"way\" d=\"" ++ (steps_text frame true ids
    ++ (jumps_start frame ++ (steps_text frame false ids ++ codes "\"/>\n")))

-- the text between the face and the legend
unfoldable pub legend_start : Frame → List ℕ
legend_start frame =
    codes "</svg>\n<g transform=\"translate(0 " ++ (decimal (pixel_height_of frame)
    ++ codes ")\" stroke-width=\"2\">\n")

-- the text after the curve: the end of the face, and the legend
abbrev pub picture_end : Frame → List ℕ
picture_end frame = legend_start frame ++ (LEGEND.now ++ codes "</g>\n</svg>\n")

-- the whole text of a picture
abbrev pub picture_text : Frame → RectParts → List ℕ → List ℕ
picture_text frame rect ids =
    picture_start frame rect ++ (grid_text frame ++ (cells_text frame ids
    ++ (requested_rectangle_text frame rect ++ (curve_text frame ids ++ picture_end frame))))

-- a text is the picture of a rectangle and of these cells
abbrev pub IsPicture : RectParts → List ℕ → List ℕ → Type 0
IsPicture rect ids text = (frame : Frame) × (IsFrame rect frame × (text ≡ picture_text frame rect ids))
