use Rattle.s2_cover.proofs.Footprints.{footprint_is}
use Rattle.s2_cover.proofs.laws.rectangles_are_squares.Goals as goal

pub returns : goal.returns
returns c = footprint_is
