-- Laws of areas, with their proofs.
use Rattle.std.specs.Prelude.{◌≡◌, Bool, true, false, ◌||◌, List, [], ◌∷◌, refl}
use Rattle.std.proofs.lemmas.Bool.{and_parts}
use Rattle.s2_hilbert.specs.Grid.{GridLeaf}
use Rattle.volume4d.specs.Volume.{Point, is_leaf, Shape, cells, rectangle, shape_has, Block, block_has, area_has}

shape_leaf : (s : Shape) (leaf : GridLeaf) → shape_has s leaf ≡ true → is_leaf leaf ≡ true
shape_leaf (cells ids) leaf h = (and_parts (is_leaf leaf) _ h).0
shape_leaf (rectangle r) leaf h = (and_parts (is_leaf leaf) _ h).0

-- the points of an area have leaves of the grid
pub area_leaf : (area : List Block) (x : Point) → area_has area x ≡ true → is_leaf x.leaf ≡ true
area_leaf [] x e = cc
area_leaf (v ∷ vs) x e = by_test (area_leaf vs x) (block_has v x) refl e where
  by_test : (area_has vs x ≡ true → is_leaf x.leaf ≡ true) → (b : Bool) → block_has v x ≡ b
      → (b || area_has vs x) ≡ true → is_leaf x.leaf ≡ true
  by_test rest true t k = shape_leaf v.footprint x.leaf (and_parts (shape_has v.footprint x.leaf) _ t).0
  by_test rest false t k = rest k
