use Rattle.s2_cover.specs.Covers.{leaves_of}
use Rattle.s2_cover.proofs.Laid.{canonical_ascends}
use Rattle.s2_cover.proofs.covers.Cover.ranges.Goals as goal

pub of_sorted-requires : goal.of_sorted-requires
of_sorted-requires c =
    rw c.deref.ensures.value
    (canonical_ascends (leaves_of c.self.inside.cells.items) c.self.inside.cells.items c.self.invariant)
