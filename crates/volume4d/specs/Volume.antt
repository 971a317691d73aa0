-- Points, windows, shapes, volumes and areas, and why there is none.
use Rattle.std.specs.Prelude.{ℤ, ◌^◌, Bool, ◌&&◌, nat_lt, Result, Ok, Err, if◌then◌else◌, ℕ, List, true, length, int_le, int_lt, ◌≡◌, ◌<◌, ◌≤◌, false, IsTrue, IfSome, Option, codes}
use Rattle.std.specs.declared.cmp.Ordering.{Ordering}
use Rattle.std.specs.{Ordering.ordering_then, Ordering.nat_cmp, Ordering.int_cmp, List.list_any, List.sum_by}
use Rattle.s2_hilbert.specs.{Grid.GridLeaf, Curve.grid_leaf_at}
use Rattle.s2_cellid.specs.Cell.{leaf_id, cell_has_leaf}
use Rattle.s2_cover.specs.Covers.{canonical_list, RectParts, widened, wide_has, rect_leaves, range_count, IsRanges}
use Rattle.s2_cover.specs.declared.spans.Span.{Span}
use Rattle.volume4d.specs.VolumeLimits.{within_altitudes, within_times, within_length, within_cells, within_cover, within_volumes, max_cover}
use Rattle.volume4d.specs.declared.{window.WindowFault.WindowFault, window.WindowFault.TheVariants.Altitude, window.WindowFault.TheVariants.Time, window.WindowFault.TheVariants.TooLong, fault.VolumeFault.VolumeFault, fault.VolumeFault.TheVariants.Cells, fault.VolumeFault.TheVariants.TooManyCells, fault.VolumeFault.TheVariants.OutOfMemory}

-- ==== Points of space and time
-- Strategic conflict detection (ASTM F3548-21) asks if volumes of two plans intersect (here: share a point).

-- a leaf cell of S2 on its face's grid, an altitude in decimetres above the WGS84 ellipsoid, a Unix second
pub record Point : Type 0 where
  pub leaf : GridLeaf
  pub altitude : ℤ
  pub second : ℤ

-- a leaf lies on one of the six faces, at coordinates of the face's grid
unfoldable pub is_leaf : GridLeaf → Bool
is_leaf leaf = nat_lt leaf.face 6 && nat_lt leaf.i (2 ^ 30) && nat_lt leaf.j (2 ^ 30)

-- the order of points: by leaf id as an unsigned number, then altitude, then second
abbrev pub point_cmp : Point → Point → Ordering
point_cmp x y =
    ordering_then (nat_cmp (leaf_id x.leaf) (leaf_id y.leaf))
    (ordering_then (int_cmp x.altitude y.altitude) (int_cmp x.second y.second))

-- altitudes in decimetres, lower <= a < upper, and Unix seconds, start <= t < end
pub record WindowParts : Type 0 where
  pub lower : ℤ
  pub upper : ℤ
  pub start : ℤ
  pub end : ℤ

-- the window, or the first fault that applies
abbrev pub window_or_fault : WindowParts → Result WindowParts WindowFault
window_or_fault e =
    if within_altitudes e.lower e.upper
    then (if within_times e.start e.end
    then (if within_length e.start e.end then Ok e else Err TooLong)
    else Err Time)
    else Err Altitude

-- a window within the limits
abbrev pub is_window : WindowParts → Bool
is_window e = within_altitudes e.lower e.upper && (within_times e.start e.end && within_length e.start e.end)

-- ==== Footprints, apart from how the code keeps them
-- a list of S2 cells by their ids, in the order given, or a rectangle of a face with a level of squares
pub data Shape : Type 0 where
  cells : List ℕ → Shape
  rectangle : RectParts → Shape

-- a leaf belongs to a cell list if it belongs to one of the cells, and to a rectangle if it lies in one of
-- the squares of its level that the rectangle touches
abbrev pub shape_has : Shape → GridLeaf → Bool
shape_has (cells ids) leaf = is_leaf leaf && list_any (λ id. cell_has_leaf id leaf) ids
shape_has (rectangle r) leaf = is_leaf leaf && wide_has (widened r) leaf

-- a cell list has as many cells as the limits allow
abbrev pub has_count : Shape → Bool
has_count (cells ids) = within_cells (length ids)
has_count (rectangle r) = true

-- the same, and the canonical cover of a rectangle has as many cells as the limits allow
abbrev pub is_footprint : Shape → Bool
is_footprint (cells ids) = within_cells (length ids)
is_footprint (rectangle r) = within_cover (length (canonical_list (rect_leaves r)))

-- whether the leaf at a position along the curve belongs to a footprint
abbrev pub shape_positions : Shape → ℕ → Bool
shape_positions shape position = shape_has shape (grid_leaf_at position)

-- ==== Volumes and areas
-- A volume of InterUSS flight_planning v1 (Volume4D of ASTM F3548-21) is a footprint with altitudes and
-- times; a plan's area is a list of volumes.

-- a volume, apart from how the code keeps it
pub record Block : Type 0 where
  pub footprint : Shape
  pub window : WindowParts

-- lower <= altitude < upper and start <= second < end: windows that touch share no point
abbrev pub window_has : WindowParts → Point → Bool
window_has e x =
    (int_le e.lower x.altitude && int_lt x.altitude e.upper)
    && (int_le e.start x.second && int_lt x.second e.end)

-- a volume has a point if its footprint has the leaf and its window the altitude and the second
abbrev pub block_has : Block → Point → Bool
block_has v x = shape_has v.footprint x.leaf && window_has v.window x

-- an area has a point if one of its volumes has it
abbrev pub area_has : List Block → Point → Bool
area_has area x = list_any (λ v. block_has v x) area

-- an area has as many volumes as the limits allow
abbrev pub is_area : List Block → Bool
is_area area = within_volumes (length area)

-- ==== How many spans of the S2 curve volumes and areas take, and how many cells they have
-- a volume takes one span for each range of its footprint's leaves
abbrev pub volume_spans : Block → ℕ
volume_spans v = range_count (shape_positions v.footprint)

-- an area takes those of its volumes
abbrev pub area_spans : List Block → ℕ
area_spans area = sum_by volume_spans area

-- a cell list has the cells that it lists, a rectangle those of its canonical cover
abbrev pub shape_cells : Shape → ℕ
shape_cells (cells ids) = length ids
shape_cells (rectangle r) = length (canonical_list (rect_leaves r))

abbrev pub volume_cells : Block → ℕ
volume_cells v = shape_cells v.footprint

-- an area has those of its volumes
abbrev pub area_cells : List Block → ℕ
area_cells area = sum_by volume_cells area

-- ==== What a volume keeps beside its footprint, and why a footprint is refused
-- a footprint within the limits, and its leaves as ranges of positions
pub record HasRanges (shape : Shape) (spans : List Span) : Type 0 where
  pub limits : IsTrue (is_footprint shape)
  pub ranges : IsRanges (shape_positions shape) spans
  pub some : 0 < length spans
  pub few : length spans ≤ max_cover

-- a footprint within limits, how many ranges its leaves are, these ranges if kept, and how many cells it has
pub record KeepsRanges (shape : Shape) (count : ℕ) (kept : Option (List Span)) (cells : ℕ) : Type 0 where
  pub limits : IsTrue (is_footprint shape)
  pub counted : count ≡ range_count (shape_positions shape)
  pub few : count ≤ max_cover
  pub cells_counted : cells ≡ shape_cells shape
  pub ranges : IfSome kept (HasRanges shape)

-- the fault of a footprint past its limit
abbrev pub limit_fault : Shape → VolumeFault
limit_fault (cells ids) = Cells
limit_fault (rectangle r) = TooManyCells

-- the footprint is past its limit and this is its fault, or memory ran out
abbrev pub IsFaultOf : Shape → VolumeFault → Type 0
IsFaultOf shape OutOfMemory = Unit
IsFaultOf shape Cells = (is_footprint shape ≡ false) × (limit_fault shape ≡ Cells)
IsFaultOf shape TooManyCells = (is_footprint shape ≡ false) × (limit_fault shape ≡ TooManyCells)

-- ==== Why there is no window, or no volume, as a sentence
abbrev pub window_fault_text : WindowFault → List ℕ
window_fault_text Altitude = codes "altitudes are -10000 <= lower < upper <= 200000 decimetres"
window_fault_text Time = codes "times are 0 <= start < end <= 253370764800 s"
window_fault_text TooLong = codes "a volume lasts at most 86400 s"

abbrev pub volume_fault_text : VolumeFault → List ℕ
volume_fault_text Cells = codes "a cell list has 1 to 64 cells"
volume_fault_text TooManyCells = codes "a rectangle takes at most 1,024 cells"
volume_fault_text OutOfMemory = codes "out of memory"
