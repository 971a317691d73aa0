-- What a footprint of the code stands for, and its bytes.
use Rattle.std.specs.Prelude.{◌≡◌, ℕ, IsTrue, List, [], ◌∷◌, ◌++◌, All}
use Rattle.std.specs.{List.flat_map, Int.w32, Int.w64, Int.to_be_bytes}
use Rattle.s2_cellid.specs.Cell.{IsCellId}
use Rattle.s2_cover.specs.Covers.{RectParts, IsRect}
use Rattle.volume4d.specs.declared.footprint.{Footprint.Footprint, Footprint.TheVariants.Cells, Footprint.TheVariants.Rectangle}
use Rattle.volume4d.specs.Volume.{Shape, cells, rectangle, has_count}

-- the footprint without the memory that it is kept in
abbrev pub shape_of : Footprint → Shape
shape_of (Cells ids) = cells ids.items
shape_of (Rectangle rect) = rectangle rect

-- ==== The bytes of a footprint, this desk's own form: a byte that names its kind, then the kind's own bytes
-- the coordinates of a rectangle, in the order in which they are written
abbrev pub coordinates_of : RectParts → List ℕ
coordinates_of r = r.i_min ∷ r.i_max ∷ r.j_min ∷ r.j_max ∷ []

-- a cell list is the byte 1, then each id in order as eight bytes, the most significant first; a rectangle is
-- the byte 2, the face, each coordinate as four bytes, the most significant first, and the level
abbrev pub footprint_bytes : Shape → List ℕ
footprint_bytes (cells ids) = 1 ∷ flat_map (λ id. to_be_bytes w64 id) ids
footprint_bytes (rectangle r) =
    2 ∷ r.face ∷ flat_map (λ n. to_be_bytes w32 n) (coordinates_of r) ++ r.level ∷ []

-- each id is that of a cell of S2 (S2CellId::is_valid), and a rectangle has no fault
abbrev pub HasValidParts : Shape → Type 0
HasValidParts (cells ids) = All IsCellId ids
HasValidParts (rectangle r) = IsRect r

-- the shape is a footprint's, with as many cells as the limits allow, and these are its bytes
pub record AreBytesOf (bytes : List ℕ) (shape : Shape) : Type 0 where
  pub limits : IsTrue (has_count shape)
  pub valid : HasValidParts shape
  pub written : footprint_bytes shape ≡ bytes
