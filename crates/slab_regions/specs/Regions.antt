-- Where volumes of others are sought for the slabs of a plan.
use Rattle.std.specs.Prelude.{◌≡◌, true, List, Bool, ◌&&◌}
use Rattle.std.specs.List.{list_any}
use Rattle.volume4d.specs.declared.slab.Slab.{Slab}
use Rattle.volume4d.specs.{Volume.Point, Slab.slabs_have, Slab.overlap, Slab.slab_has}
use Rattle.slab_regions.specs.declared.sought.SearchArea.{SearchArea}

-- each point of one of the slabs `some` is a point of one of `slabs`
abbrev pub HaveEach : List Slab → List Slab → Type 0
HaveEach some slabs = (x : Point) → slabs_have some x ≡ true → slabs_have slabs x ≡ true

-- ==== Where volumes are sought: near one of a search's slabs, its parts, which one slab, the whole, encloses
-- a point of the whole that is in one of the parts
abbrev pub sought_has : SearchArea → Point → Bool
sought_has sought x = slab_has sought.whole x && slabs_have sought.parts.now x

-- a slab overlaps the whole and one of the parts
abbrev pub meets : SearchArea → Slab → Bool
meets sought slab = overlap slab sought.whole && list_any (overlap slab) sought.parts.now
