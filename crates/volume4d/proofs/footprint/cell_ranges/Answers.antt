use Rattle.std.proofs.Common.{arith, ◌≡◌, true, ◌<◌, ◌≤◌, length, refl}
use Rattle.std.proofs.lemmas.Bool.Decides.{nat_tests}
use Rattle.s2_cover.specs.Covers.{leaves_of}
use Rattle.volume4d.specs.VolumeLimits.{max_cells, within_cells}
use Rattle.volume4d.proofs.FootprintRanges.{cell_ranges}
use Rattle.volume4d.proofs.footprint.cell_ranges.Goals as goal

pub returns-clause-ok : goal.returns-clause-ok
returns-clause-ok c =
    let cells = c.args.cells.now in
    let spans = c.in_ok-ranges.ranges in
    let count : within_cells (length cells) ≡ true =
    grind (arith, c.is_allowed_count.ensures, c.if-not-is_allowed_count.false) in
    let some : 0 < length cells = grind (arith, nat_tests, count) in
    let most : length cells ≤ max_cells = grind (arith, nat_tests, count) in
    let ranges = c.in_ok-ranges.ensures.same (leaves_of cells) c.in_ok-normalise.ensures.leaves in
    let counted = c.ranges_are_counted.ensures (leaves_of cells) spans ranges in
    let few = c.ranges_are_few.ensures (leaves_of cells) cells (λ p. refl) in
    record {
      limits = count;
      ranges = cell_ranges cells spans ranges;
      some = c.in_ok-ranges.ensures.some (c.in_ok-normalise.ensures.some some);
      few = omega (arith, counted, few, most);
    }
