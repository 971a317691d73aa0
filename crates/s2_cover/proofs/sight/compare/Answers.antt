use Rattle.std.proofs.Common.{◌≡◌, subst, sym}
use Rattle.s2_hilbert.specs.Grid.{side_of}
use Rattle.s2_cover.specs.Covers.{WideParts, is_along, wide_set, IsRangeOverlap, IsSquareOverlap}
use Rattle.s2_cover.proofs.Sights.{some_span, square_seen}
use Rattle.s2_cover.proofs.sight.compare.Goals as goal

pub compare_range-requires-clause-span : goal.compare_range-requires-clause-span
compare_range-requires-clause-span c =
    let square = c.args.square.now in
    some_span square.level square.a c.i_span.result.0 c.i_span.result.1 c.i_span.ensures.span

pub compare_range-requires-2-clause-span : goal.compare_range-requires-2-clause-span
compare_range-requires-2-clause-span c =
    let square = c.args.square.now in
    some_span square.level square.b c.j_span.result.0 c.j_span.result.1 c.j_span.ensures.span

pub returns-clause-is_overlap : goal.returns-clause-is_overlap
returns-clause-is_overlap c =
    let wide : WideParts = c.args.wide.now in
    let square = c.args.square.now in
    let side = c.side_of-side.result in
    let i = c.i_span.result in
    let j = c.j_span.result in
    let sides = subst (λ w. side ≡ side_of w.level) c.wide.view_is c.side_of-side.ensures.value in
    let i_saw = subst (λ w. IsRangeOverlap i.0 i.1 (is_along side w.a_min w.a_max) c.compare_range.result) c.wide.view_is
    c.compare_range.ensures.is_overlap in
    let j_saw = subst (λ w. IsRangeOverlap j.0 j.1 (is_along side w.b_min w.b_max) c.compare_range-2.result) c.wide.view_is
    c.compare_range-2.ensures.is_overlap in
    subst (λ sight. IsSquareOverlap (wide_set wide) wide.level square sight) (sym c.combine.ensures)
    (square_seen wide square i.0 i.1 j.0 j.1 side c.compare_range.result c.compare_range-2.result sides c.requires.square
    c.requires.face c.requires.level
    (record {
      i = c.i_span.ensures.span;
      i_below = c.i_span.ensures.below;
      j = c.j_span.ensures.span;
      j_below = c.j_span.ensures.below;
    }) i_saw c.compare_range.ensures.apart j_saw c.compare_range-2.ensures.apart)
