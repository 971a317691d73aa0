-- Slabs: leaves that follow each other along the S2 curve, with altitudes and seconds.
use Rattle.std.specs.Prelude.{ℕ, Bool, true, false, List, [], ◌∷◌, map, max, Option, Some, None, ◌&&◌, nat_le, int_le, int_lt, ◌≡◌, ◌++◌, All, ◌<◌, ◌≤◌, ◌≤ℤ◌, ◌<ℤ◌, min, length, ◌||◌, take, drop, is_some}
use Rattle.std.specs.{List.filter, List.list_any, List.Sorted.IsPermutation, List.Sorted.IsNonDecreasingBy, Int.int_min, Int.int_max}
use Rattle.std.specs.declared.cmp.Ordering.TheVariants.{Less}
use Rattle.s2_hilbert.specs.{Grid.GridLeaf, Curve.position_of, Curve.grid_leaf_at}
use Rattle.s2_cover.specs.declared.spans.Span.{Span}
use Rattle.s2_cover.specs.Covers.{IsRanges}
use Rattle.volume4d.specs.declared.slab.{Slab.Slab, Held.Held}
use Rattle.volume4d.specs.Volume.{Point, is_leaf, WindowParts, shape_positions, Block, point_cmp}

-- the greater of two, either of which may be missing
abbrev pub greater : Option ℕ → Option ℕ → Option ℕ
greater None b = b
greater (Some a) None = Some a
greater (Some a) (Some b) = Some (max a b)

-- the greatest of a list
abbrev pub greatest : List ℕ → Option ℕ
greatest [] = None
greatest (n ∷ ns) = greater (Some n) (greatest ns)

-- a number that counts if a test passes
abbrev pub level_where : Bool → ℕ → Option ℕ
level_where true n = Some n
level_where false n = None

-- the greatest of the numbers of those elements that pass a test
abbrev pub top_by : {A : Type 0} → (A → Bool) → (A → ℕ) → List A → Option ℕ
top_by p f xs = greatest (map f (filter p xs))

-- ==== Slabs: leaves that follow each other along the S2 curve, with altitudes and seconds
-- a leaf with a position from first to last along the curve, both included
abbrev pub slab_has_leaf : Slab → GridLeaf → Bool
slab_has_leaf s leaf = is_leaf leaf && (nat_le s.first (position_of leaf) && nat_le (position_of leaf) s.last)

-- such a leaf, with lower <= altitude < upper and start <= second < end
abbrev pub slab_has : Slab → Point → Bool
slab_has s x =
    slab_has_leaf s x.leaf
    && (int_le s.lower x.altitude && int_lt x.altitude s.upper)
    && (int_le s.start x.second && int_lt x.second s.end)

-- one of the slabs has the point
abbrev pub slabs_have : List Slab → Point → Bool
slabs_have slabs x = list_any (λ s. slab_has s x) slabs

-- one of the held slabs has the point
abbrev pub helds_have : List Held → Point → Bool
helds_have helds x = list_any (λ h. slab_has h.slab x) helds

-- the greatest priority of the held slabs that have the point, or None
unfoldable pub top_held : List Held → Point → Option ℕ
top_held helds x = greatest (map (λ h. h.priority) (filter (λ h. slab_has h.slab x) helds))

-- a slab's leaves, as a span of positions along the curve
abbrev pub span_of : Slab → Span
span_of s = record { first = s.first; last = s.last }

-- a slab's altitudes and seconds
abbrev pub slab_window : Slab → WindowParts
slab_window s = record { lower = s.lower; upper = s.upper; start = s.start; end = s.end }

-- ==== The slabs of volumes and of areas
-- one slab for each span of positions, in order, all with the same altitudes and seconds
pub record AreSlabsOn (spans : List Span) (window : WindowParts) (slabs : List Slab) : Type 0 where
  pub each : map span_of slabs ≡ spans
  pub windows : All (λ s. slab_window s ≡ window) slabs

-- a slab for each range of a footprint's leaf positions, ascending, with the volume's altitudes and seconds
pub record AreVolumeSlabs (volume : Block) (slabs : List Slab) : Type 0 where
  pub ranges : IsRanges (shape_positions volume.footprint) (map span_of slabs)
  pub windows : All (λ s. slab_window s ≡ volume.window) slabs

-- the slabs of each volume of an area, one volume after the other
abbrev pub AreAreaSlabs : List Block → List Slab → Type 0
AreAreaSlabs [] slabs = slabs ≡ []
AreAreaSlabs (v ∷ vs) slabs =
    (front rest : List Slab) × (slabs ≡ front ++ rest) × AreVolumeSlabs v front × AreAreaSlabs vs rest

-- the slabs of the volumes of an area, ascending by their first leaves
pub record AreSortedSlabs (area : List Block) (slabs : List Slab) : Type 0 where
  pub listed : List Slab
  pub of_area : AreAreaSlabs area listed
  pub same : IsPermutation listed slabs
  pub order : IsNonDecreasingBy (λ s. s.first) slabs

-- ==== The smallest slab that has a set of points, and what two slabs are to each other
-- a slab that has a point: its first leaf isn't after its last, its other lower bounds are below the upper
pub record IsFilled (slab : Slab) : Type 0 where
  pub ground : slab.first ≤ slab.last
  pub height : slab.lower <ℤ slab.upper
  pub time : slab.start <ℤ slab.end

-- at least one slab, and each slab has a point
pub record AreFilled (slabs : List Slab) : Type 0 where
  pub some : 0 < length slabs
  pub each : All IsFilled slabs

-- the bounds of one slab lie between those of another
pub record IsWithin (inner outer : Slab) : Type 0 where
  pub first : outer.first ≤ inner.first
  pub last : inner.last ≤ outer.last
  pub lower : outer.lower ≤ℤ inner.lower
  pub upper : inner.upper ≤ℤ outer.upper
  pub start : outer.start ≤ℤ inner.start
  pub end : inner.end ≤ℤ outer.end

-- `slab` is the smallest one round two: the lesser of each two lower bounds, the greater of the upper ones
pub record IsJoin (left right slab : Slab) : Type 0 where
  pub first : slab.first ≡ min left.first right.first
  pub last : slab.last ≡ max left.last right.last
  pub lower : slab.lower ≡ int_min left.lower right.lower
  pub upper : slab.upper ≡ int_max left.upper right.upper
  pub start : slab.start ≡ int_min left.start right.start
  pub end : slab.end ≡ int_max left.end right.end

-- `slab` has the points that two share: the greater of each two lower bounds, the lesser of the upper ones
pub record IsClip (one other slab : Slab) : Type 0 where
  pub first : slab.first ≡ max one.first other.first
  pub last : slab.last ≡ min one.last other.last
  pub lower : slab.lower ≡ int_max one.lower other.lower
  pub upper : slab.upper ≡ int_min one.upper other.upper
  pub start : slab.start ≡ int_max one.start other.start
  pub end : slab.end ≡ int_min one.end other.end

-- the seconds, the altitudes and the leaves of two slabs overlap
abbrev pub overlap : Slab → Slab → Bool
overlap one other =
    (int_lt one.start other.end && int_lt other.start one.end)
    && ((int_lt one.lower other.upper && int_lt other.lower one.upper)
    && (nat_le one.first other.last && nat_le other.first one.last))

-- the slab has each point that passes the test
abbrev pub HasAll : (Point → Bool) → Slab → Type 0
HasAll passes slab = (x : Point) → passes x ≡ true → slab_has slab x ≡ true

-- the smallest slab that has each point that passes the test
pub record IsBounds (passes : Point → Bool) (slab : Slab) : Type 0 where
  pub has : HasAll passes slab
  pub smallest : (other : Slab) → HasAll passes other → IsWithin slab other

-- no point of the later slabs comes before one of the earlier
abbrev pub AreInTurn : (earlier later : List Slab) → Type 0
AreInTurn earlier later =
    (x y : Point) → slabs_have earlier x ≡ true → slabs_have later y ≡ true → point_cmp y x ≡ Less → ⊥

-- `cluster` is the first slabs of a list, one or more, and `later` the rest, none of whose points comes
-- before one of the cluster
pub record IsCluster (slabs cluster later : List Slab) : Type 0 where
  pub count : ℕ
  pub some : 0 < count
  pub within : count ≤ length slabs
  pub cluster_is : cluster ≡ take count slabs
  pub later_is : later ≡ drop count slabs
  pub points : (x : Point) → slabs_have slabs x ≡ (slabs_have cluster x || slabs_have later x)
  pub in_turn : AreInTurn cluster later

-- a point of one of the slabs and of one of the held ones
unfoldable pub is_shared : List Slab → List Held → Point → Bool
is_shared mine theirs x = slabs_have mine x && is_some (top_held theirs x)

-- the point at the greater of each two lower bounds of two slabs, leaves by their positions along the curve
abbrev pub corner_of : Slab → Slab → Point
corner_of a b = record {
  leaf = grid_leaf_at (max a.first b.first);
  altitude = int_max a.lower b.lower;
  second = int_max a.start b.start;
}
