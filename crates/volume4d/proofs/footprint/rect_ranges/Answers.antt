use Rattle.std.proofs.Common.{length, subst}
use Rattle.std.proofs.lemmas.Bool.Decides.{nat_tests}
use Rattle.std.proofs.Common.{arith, ◌≤◌}
use Rattle.volume4d.specs.VolumeLimits.{max_cover}
use Rattle.s2_cover.specs.Covers.{canonical_list, rect_leaves}
use Rattle.volume4d.proofs.FootprintRanges.{rectangle_ranges}
use Rattle.volume4d.proofs.footprint.rect_ranges.Goals as goal

pub returns-in_ok-ranges-in-Ok-clause-ok : goal.returns-in_ok-ranges-in-Ok-clause-ok
returns-in_ok-ranges-in-Ok-clause-ok c =
    let rect = c.args.rect.now in
    let spans = c.in_ok-ranges-in-Ok.field-0 in
    let few : length (canonical_list (rect_leaves rect)) ≤ max_cover =
    subst (λ ids. length ids ≤ max_cover) c.in-Ok.ensures.list c.in-Ok.ensures.few in
    let ranges = c.in_ok-ranges-in-Ok.ensures.same (rect_leaves rect) c.in-Ok.ensures.leaves in
    let counted = c.ranges_are_counted.ensures (rect_leaves rect) spans ranges in
    let least = c.ranges_are_few.ensures (rect_leaves rect) c.in-Ok.cover.ids c.in-Ok.ensures.leaves in
    record {
      limits = grind (arith, nat_tests, few);
      ranges = rectangle_ranges rect spans ranges;
      some = c.in_ok-ranges-in-Ok.ensures.some c.in-Ok.ensures.some;
      few = omega (arith, counted, least, c.in-Ok.ensures.few);
    }
