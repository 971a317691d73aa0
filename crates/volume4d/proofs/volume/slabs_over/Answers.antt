use Rattle.std.proofs.Common.{◌<◌, length, subst, sym}
use Rattle.std.specs.Prelude.{All}
use Rattle.std.proofs.lemmas.Result.{IfOk-weaker}
use Rattle.s2_cover.specs.Covers.{IsSpan, IsRanges}
use Rattle.volume4d.specs.Volume.{shape_positions, Block}
use Rattle.volume4d.proofs.SlabPoints.{volume_points, volume_slabs}
use Rattle.volume4d.proofs.Filled.{filled_on}
use Rattle.volume4d.proofs.volume.slabs_over.Goals as goal

pub returns-clause-slabs : goal.returns-clause-slabs
returns-clause-slabs c shape kept =
    let volume : Block = record { footprint = shape; window = c.args.window } in
    let ranges = subst (IsRanges (shape_positions shape)) (sym c.spans.ensures.value) kept.ranges in
    IfOk-weaker c.slabs_of.result _ _
    (λ slabs on. volume_slabs volume c.spans.result.now slabs.items ranges on)
    c.slabs_of.ensures

pub returns-clause-points : goal.returns-clause-points
returns-clause-points c shape kept =
    let volume : Block = record { footprint = shape; window = c.args.window } in
    let ranges = subst (IsRanges (shape_positions shape)) (sym c.spans.ensures.value) kept.ranges in
    let spans = c.spans.result.now in
    IfOk-weaker c.slabs_of.result _ _
    (λ slabs on. volume_points volume slabs.items (volume_slabs volume spans slabs.items ranges on))
    c.slabs_of.ensures

pub returns-clause-filled : goal.returns-clause-filled
returns-clause-filled c shape kept =
    let shown = sym c.spans.ensures.value in
    let some = subst (λ spans. 0 < length spans) shown kept.some in
    let each = subst (All IsSpan) shown c.spans.ensures.ranges.each in
    IfOk-weaker c.slabs_of.result _ _
    (λ slabs on. filled_on c.spans.result.now c.args.window slabs.items c.requires.window some each on)
    c.slabs_of.ensures
