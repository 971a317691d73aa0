-- Rectangles of leaves on a face, the canonical list of a set of leaves, and the walk that collects it.
use Rattle.std.specs.Prelude.{ℕ, Bool, List, ◌≡◌, ◌/◌, ◌^◌, ◌<◌, ◌≤◌, ◌&&◌, ◌==◌, nat_lt, nat_le, Result, Ok, Err, if◌then◌else◌, codes, ◌+◌, ◌-◌, ◌*◌, not, ◌||◌, length, All, AllPairs, ◌↔◌, ◌⊎◌, false, IsTrue, Contains, ◌%◌, ◌≢◌, true, ◌++◌}
use Rattle.std.specs.{List.list_any, List.filter, List.range_with_len, List.list_all, Int.is_in_range, Int.IsInRange, List.Sorted.IsStrictlyIncreasing}
use Rattle.s2_hilbert.specs.{Grid.GridLeaf, Grid.IsLeaf, Grid.ShareSquare, Grid.side_of, Grid.GridSquare, Curve.grid_leaf_at, Curve.first_position, Curve.last_position}
use Rattle.s2_cellid.specs.Cell.{cell_has, level_of, IsCellId, parent_id, is_cell_id, first_leaf, last_leaf, lowest_place}
use Rattle.s2_cover.specs.declared.{rect.RectFault.RectFault, rect.RectFault.TheVariants.Face, rect.RectFault.TheVariants.Coordinate, rect.RectFault.TheVariants.Order, rect.RectFault.TheVariants.Level, walk.CoverFault.CoverFault, walk.CoverFault.TheVariants.TooManyCells, walk.CoverFault.TheVariants.OutOfMemory, spans.Span.Span}
use Rattle.s2_cover.specs.declared.{sight.Overlap.Overlap, sight.Overlap.TheVariants.Outside, sight.Overlap.TheVariants.Inside, sight.Overlap.TheVariants.Across}

-- ==== Sets of leaves
-- A leaf is its position, counted from 0 in the order of the leaves' ids over the six faces, so it is below 6
-- * 2 ^ 60; a set is a test on positions.

-- the leaves of a list of cells, given by their ids: those of each cell
abbrev pub leaves_of : List ℕ → ℕ → Bool
leaves_of ids position = list_any (λ id. cell_has id position) ids

-- ==== Rectangles of leaves on a face, and the leaves that they stand for: this desk's own footprint
-- a face, the least and the greatest coordinates of leaves of its grid, and a level of squares
pub record RectParts : Type 0 where
  pub face : ℕ
  pub i_min : ℕ
  pub i_max : ℕ
  pub j_min : ℕ
  pub j_max : ℕ
  pub level : ℕ

-- the least and the greatest level of a rectangle
abbrev pub min_level : ℕ
min_level = 8

abbrev pub max_level : ℕ
max_level = 24

-- a coordinate of the grid of a face
abbrev pub is_coordinate : ℕ → Bool
is_coordinate n = nat_lt n (2 ^ 30)

-- all four are coordinates
abbrev pub are_coordinates : RectParts → Bool
are_coordinates r =
    (is_coordinate r.i_min && is_coordinate r.i_max) && (is_coordinate r.j_min && is_coordinate r.j_max)

-- neither least coordinate is above its greatest
abbrev pub are_ordered : RectParts → Bool
are_ordered r = nat_le r.i_min r.i_max && nat_le r.j_min r.j_max

-- the rectangle, or the first fault that applies
abbrev pub rect_or_fault : RectParts → Result RectParts RectFault
rect_or_fault r =
    if nat_lt r.face 6
    then (if are_coordinates r
    then (if are_ordered r
    then (if is_in_range min_level max_level r.level then Ok r else Err Level)
    else Err Order)
    else Err Coordinate)
    else Err Face

-- the parts of a rectangle that has no fault
pub record IsRect (r : RectParts) : Type 0 where
  pub face : r.face < 6
  pub i_order : r.i_min ≤ r.i_max
  pub i_below : r.i_max < 2 ^ 30
  pub j_order : r.j_min ≤ r.j_max
  pub j_below : r.j_max < 2 ^ 30
  pub level_from : min_level ≤ r.level
  pub level_to : r.level ≤ max_level

-- a leaf of the rectangle's face that shares a square of its level with some leaf whose coordinates
-- lie between the least and the greatest
pub record IsInFootprint (r : RectParts) (leaf : GridLeaf) : Type 0 where
  pub inner : GridLeaf
  pub is : IsLeaf inner
  pub face : inner.face ≡ r.face
  pub i : IsInRange r.i_min r.i_max inner.i
  pub j : IsInRange r.j_min r.j_max inner.j
  pub share : ShareSquare r.level leaf inner

-- a rectangle in coordinates of the squares of its level: the whole squares that it touches
pub record WideParts : Type 0 where
  pub face : ℕ
  pub level : ℕ
  pub a_min : ℕ
  pub a_max : ℕ
  pub b_min : ℕ
  pub b_max : ℕ

abbrev pub widened : RectParts → WideParts
widened r = record {
  face = r.face;
  level = r.level;
  a_min = r.i_min / side_of r.level;
  a_max = r.i_max / side_of r.level;
  b_min = r.j_min / side_of r.level;
  b_max = r.j_max / side_of r.level;
}

-- whether a coordinate of a leaf lies in squares from the least to the greatest
abbrev pub is_along : ℕ → ℕ → ℕ → ℕ → Bool
is_along side least greatest n = is_in_range least greatest (n / side)

-- whether a leaf lies in one of the squares that the rectangle touches
abbrev pub wide_has : WideParts → GridLeaf → Bool
wide_has w leaf =
    leaf.face == w.face
    && (is_along (side_of w.level) w.a_min w.a_max leaf.i
    && is_along (side_of w.level) w.b_min w.b_max leaf.j)

-- the same for a leaf given by its position along the curve
unfoldable pub wide_set : WideParts → ℕ → Bool
wide_set w position = wide_has w (grid_leaf_at position)

-- the positions along the curve of the leaves of a rectangle's footprint
abbrev pub rect_leaves : RectParts → ℕ → Bool
rect_leaves r = wide_set (widened r)

-- ==== Why there is no rectangle, or no cover of one, as a sentence
abbrev pub rect_fault_text : RectFault → List ℕ
rect_fault_text Face = codes "a face is 0 to 5"
rect_fault_text Coordinate = codes "a coordinate is 0 to 2^30 - 1"
rect_fault_text Order = codes "a least coordinate is above its greatest"
rect_fault_text Level = codes "a rectangle has a level of 8 to 24"

abbrev pub cover_fault_text : CoverFault → List ℕ
cover_fault_text (TooManyCells looked) = codes "the cover has too many cells"
cover_fault_text OutOfMemory = codes "out of memory"

-- ==== Sets of leaf positions as ranges
-- whether a position lies in a span
abbrev pub span_has : Span → ℕ → Bool
span_has span position = is_in_range span.first span.last position

-- the positions of a list of spans: those of each span
abbrev pub spans_have : List Span → ℕ → Bool
spans_have spans position = list_any (λ span. span_has span position) spans

-- the ends of a span are leaf positions, in order
pub record IsSpan (span : Span) : Type 0 where
  pub ordered : span.first ≤ span.last
  pub below : span.last < 6 * 2 ^ 60

-- one span wholly before another, with a position between them that neither has
abbrev pub IsApart : Span → Span → Type 0
IsApart left right = left.last + 1 < right.first

-- ascending spans with a gap between any two, which have exactly the set's positions
pub record IsRanges (set : ℕ → Bool) (spans : List Span) : Type 0 where
  pub each : All IsSpan spans
  pub apart : AllPairs IsApart spans
  pub positions : (p : ℕ) → spans_have spans p ≡ set p

-- a position begins a range of a set: it belongs to the set, and the one before it, if there is one, doesn't
abbrev pub begins_range : (ℕ → Bool) → ℕ → Bool
begins_range set position = set position && (position == 0 || not (set (position - 1)))

-- how many ranges the set has: as many as positions that begin one
unfoldable pub range_count : (ℕ → Bool) → ℕ
range_count set = length (filter (begins_range set) (range_with_len 0 (6 * 2 ^ 60)))

-- ==== The normal form of the S2 geometry library (S2CellUnion::Normalize): the largest cells that lie in a
-- set of leaves, in the order of their ids

-- the cell of the next level up that the cell lies in (S2CellId::parent)
abbrev pub parent_of : ℕ → ℕ
parent_of id = parent_id (level_of id - 1) id

-- a valid cell with all leaves in the set; it is a whole face, or its parent has a leaf outside the set
pub record IsLargest (set : ℕ → Bool) (id : ℕ) : Type 0 where
  pub valid : IsCellId id
  pub inside : (p : ℕ) → IsTrue (cell_has id p) → IsTrue (set p)
  pub outside : (level_of id ≡ 0) ⊎ ((p : ℕ) × (IsTrue (cell_has (parent_of id) p) × (set p ≡ false)))

-- the ids of all such cells of the set, ascending
pub record IsCanonical (set : ℕ → Bool) (ids : List ℕ) : Type 0 where
  pub ascending : IsStrictlyIncreasing ids
  pub members : (id : ℕ) → Contains ids id ↔ IsLargest set id

-- a cover, however kept: its cells' ids, and how many squares were compared with a rectangle to find them
pub record CoverParts : Type 0 where
  pub ids : List ℕ
  pub looked : ℕ

-- ==== The canonical list of a set of leaves as a function: of all ids, those that pass a test
-- whether all leaves of a cell belong to the set
unfoldable pub has_cell : (ℕ → Bool) → ℕ → Bool
has_cell set id = list_all set (range_with_len (first_leaf id) (last_leaf id + 1 - first_leaf id))

-- a valid cell in the set, which is a whole face or has a parent with a leaf outside the set
unfoldable pub is_largest : (ℕ → Bool) → ℕ → Bool
is_largest set id =
    is_cell_id id && (has_cell set id && (level_of id == 0 || not (has_cell set (parent_of id))))

-- all such cells, ascending
unfoldable pub canonical_list : (ℕ → Bool) → List ℕ
canonical_list set = filter (is_largest set) (range_with_len 0 (2 ^ 64))

-- a refusal for too many cells: the canonical list is longer than the limit
abbrev pub IsLonger : (ℕ → Bool) → ℕ → CoverFault → Type 0
IsLonger set limit (TooManyCells looked) = limit < length (canonical_list set)
IsLonger set limit OutOfMemory = Unit

-- ==== Parts of a canonical list, built from the first leaf position on
-- the span is a longest run of positions of the set: the positions next to its ends aren't in the set
pub record IsLongestRun (set : ℕ → Bool) (span : Span) : Type 0 where
  pub is : IsSpan span
  pub inside : (p : ℕ) → IsTrue (span_has span p) → IsTrue (set p)
  pub before : (p : ℕ) → p + 1 ≡ span.first → set p ≡ false
  pub after : set (span.last + 1) ≡ false

-- `ids` are cells of the set's canonical list, ascending, that end before the position `upto`; they have all
-- of the set's positions below `upto`
pub record IsLaid (set : ℕ → Bool) (ids : List ℕ) (upto : ℕ) : Type 0 where
  pub ascending : AllPairs ◌<◌ ids
  pub largest : (id : ℕ) → Contains ids id → IsLargest set id
  pub ended : (id : ℕ) → Contains ids id → last_leaf id < upto
  pub covered : (p : ℕ) → p < upto → IsTrue (set p) → IsTrue (leaves_of ids p)

-- a cell with its lowest set bit at the place may begin at `first`, and has no leaf after `last` then
pub record EndsWithin (first last place : ℕ) : Type 0 where
  pub even : place % 2 ≡ 0
  pub at_most : place ≤ 60
  pub aligned : first % 2 ^ place ≡ 0
  pub ends : first + 2 ^ place ≤ last + 1

-- the greatest of these places
pub record IsLargestFitting (first last place : ℕ) : Type 0 where
  pub is : EndsWithin first last place
  pub largest : (other : ℕ) → EndsWithin first last other → other ≤ place

-- a cell whose first leaf is at the position `first`, with no leaf after `last`
pub record BeginsAt (first last id : ℕ) : Type 0 where
  pub valid : IsCellId id
  pub begins : first_leaf id ≡ first
  pub ends : last_leaf id ≤ last

-- the largest of these cells
pub record IsLargestFrom (first last id : ℕ) : Type 0 where
  pub is : BeginsAt first last id
  pub largest : (other : ℕ) → BeginsAt first last other → lowest_place other ≤ lowest_place id

-- ==== A walk down the squares of a face that collects the canonical cells of a set, and counts its
-- comparisons: the squares that it compares with the set

-- the test has this result for each number of a range
abbrev pub AllIn : ℕ → ℕ → (ℕ → Bool) → Bool → Type 0
AllIn first last test b = (n : ℕ) → first ≤ n → n ≤ last → test n ≡ b

-- the test has this result for some number of a range
pub record SomeIn (first last : ℕ) (test : ℕ → Bool) (b : Bool) : Type 0 where
  pub number : ℕ
  pub low : first ≤ number
  pub high : number ≤ last
  pub is : test number ≡ b

-- how the numbers of a range overlap those that pass a test
abbrev pub IsRangeOverlap : ℕ → ℕ → (ℕ → Bool) → Overlap → Type 0
IsRangeOverlap first last test Outside = AllIn first last test false
IsRangeOverlap first last test Inside = AllIn first last test true
IsRangeOverlap first last test Across = SomeIn first last test true × SomeIn first last test false

-- how a square overlaps, from how the ranges of its two coordinates do
abbrev pub combined_overlap : Overlap → Overlap → Overlap
combined_overlap Outside j = Outside
combined_overlap Inside j = j
combined_overlap Across Outside = Outside
combined_overlap Across Inside = Across
combined_overlap Across Across = Across

-- the parts of a rectangle in coordinates of squares
pub record IsWide (w : WideParts) : Type 0 where
  pub face : w.face < 6
  pub level : w.level ≤ max_level
  pub a_order : w.a_min ≤ w.a_max
  pub b_order : w.b_min ≤ w.b_max

-- how the positions of a square overlap a set; a square that lies across is above the level
pub record IsSquareOverlap (set : ℕ → Bool) (level : ℕ) (square : GridSquare) (sight : Overlap) : Type 0 where
  pub is_overlap : IsRangeOverlap (first_position square) (last_position square) set sight
  pub above : sight ≡ Across → square.level < level

-- the cell is a whole face, or its parent has a leaf outside the set
abbrev pub IsOpened : (ℕ → Bool) → ℕ → Type 0
IsOpened set id = (level_of id ≡ 0) ⊎ ((p : ℕ) × (IsTrue (cell_has (parent_of id) p) × (set p ≡ false)))

-- the most comparisons for so many cells, so many levels down: one, and four for each level and cell
abbrev pub comparisons_for : ℕ → ℕ → ℕ
comparisons_for levels cells = 1 + 4 * (levels * cells)

-- each canonical list of the set is longer than the limit
abbrev pub HasMoreCells : (ℕ → Bool) → ℕ → Type 0
HasMoreCells set limit = (ids : List ℕ) → IsCanonical set ids → limit < length ids

-- a cell with a leaf of the set and a leaf outside it
pub record IsCrossed (set : ℕ → Bool) (id : ℕ) : Type 0 where
  pub valid : IsCellId id
  pub inside : (p : ℕ) × (IsTrue (cell_has id p) × (set p ≡ true))
  pub outside : (p : ℕ) × (IsTrue (cell_has id p) × (set p ≡ false))

-- all crossed cells, each once
pub record AreCrossed (set : ℕ → Bool) (ids : List ℕ) : Type 0 where
  pub once : AllPairs ◌≢◌ ids
  pub members : (id : ℕ) → Contains ids id ↔ IsCrossed set id

-- how many comparisons a cover takes: one of a face, and four of the children of each crossed cell
abbrev pub HasCompared : (ℕ → Bool) → ℕ → Type 0
HasCompared set looked = (ids : List ℕ) × (AreCrossed set ids × (looked ≡ 1 + 4 * length ids))

-- a crossed cell among the positions from `first` to before `upto`, with its lowest set bit at most at `most`
pub record IsCrossedIn (set : ℕ → Bool) (most first upto id : ℕ) : Type 0 where
  pub crossed : IsCrossed set id
  pub place : lowest_place id ≤ most
  pub begins : first ≤ first_leaf id
  pub ends : last_leaf id < upto

-- all of these crossed cells, each once
pub record AreCrossedIn (set : ℕ → Bool) (most first upto : ℕ) (ids : List ℕ) : Type 0 where
  pub once : AllPairs ◌≢◌ ids
  pub members : (id : ℕ) → Contains ids id ↔ IsCrossedIn set most first upto id

-- a walk over the positions from `first` to before `upto` has appended the canonical cells there to `before`,
-- which gives `after`, and has compared one square, and the four children of each crossed cell; `old` and
-- `new` are the numbers of comparisons before and after it
pub record HasWalked (set : ℕ → Bool) (levels limit first upto : ℕ) (before after : List ℕ)
    (old new : ℕ) : Type 0 where
  pub marked : List ℕ
  pub crossed : AreCrossedIn set 60 first upto marked
  pub exact : new ≡ old + 1 + 4 * length marked
  pub more : List ℕ
  pub grown : after ≡ before ++ more
  pub laid : IsLaid set after upto
  pub few : length after ≤ limit
  pub comparisons : new ≤ old + comparisons_for levels (length more)
  pub counted : length after ≤ new

-- a walk has ended at a fault; if it is for too many cells, then after at most `most` comparisons
abbrev pub HasStopped : (ℕ → Bool) → ℕ → ℕ → CoverFault → Type 0
HasStopped set limit most (TooManyCells looked) = IsInRange (limit + 1) most looked × HasMoreCells set limit
HasStopped set limit most OutOfMemory = Unit

-- the fault at one cell more: there are as many cells as the limit allows
abbrev pub IsFull : ℕ → ℕ → ℕ → CoverFault → Type 0
IsFull limit cells comparisons (TooManyCells looked) = (looked ≡ comparisons) × (limit ≤ cells)
IsFull limit cells comparisons OutOfMemory = Unit

-- the most comparisons after which a cover within a limit is found or refused: 1 + 96 * (limit + 1)
abbrev pub max_comparisons : ℕ → ℕ
max_comparisons limit = comparisons_for max_level (limit + 1)

-- a refusal for too many cells: the set has a canonical list, which is longer than the limit
abbrev pub IsRefused : (ℕ → Bool) → ℕ → CoverFault → Type 0
IsRefused set limit (TooManyCells looked) =
    IsInRange (limit + 1) (max_comparisons limit) looked
    × ((ids : List ℕ) × (IsCanonical set ids × (limit < length ids)))
IsRefused set limit OutOfMemory = Unit
