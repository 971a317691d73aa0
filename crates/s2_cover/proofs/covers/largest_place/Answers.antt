use Rattle.std.proofs.Common.{◌∙◌, ap}
use Rattle.std.specs.Prelude.{min}
use Rattle.s2_cover.proofs.Beginnings.{largest_fitting}
use Rattle.s2_cover.proofs.covers.largest_place.Goals as goal

pub returns : goal.returns
returns c =
    largest_fitting c.args.first c.args.last c.ilog2-room.result c.min-place.result c.requires.ordered
    c.requires.below
    c.ilog2-room.ensures.power_le c.ilog2-room.ensures.next_power_gt
    (c.min-place.ensures ∙ ap (λ n. min n 60) c.min.ensures)
