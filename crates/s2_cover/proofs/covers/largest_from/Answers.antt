use Rattle.std.proofs.Common.{subst, sym, refl}
use Rattle.s2_cellid.specs.Cell.{IsCellId}
use Rattle.s2_cover.specs.Covers.{IsLargestFrom}
use Rattle.s2_cover.proofs.Beginnings.{some_when, at_some, id_from, begun, largest_of}
use Rattle.s2_cover.proofs.covers.largest_from.Goals as goal

pub unwrap-requires : goal.unwrap-requires
unwrap-requires c =
    let id = id_from c.args.first c.largest_place-place.result in
    let valid = (begun c.args.first c.args.last c.largest_place-place.result c.requires.below
    c.largest_place-place.ensures.is).valid in
    rw (some_when c.from_raw.result (IsCellId id) id c.from_raw.ensures valid) refl

pub returns : goal.returns
returns c =
    let id = id_from c.args.first c.largest_place-place.result in
    let reported = at_some c.from_raw.result
    (IsCellId id) id c.unwrap.result c.from_raw.ensures c.unwrap.ensures in
    subst (IsLargestFrom c.args.first c.args.last) (sym reported.1)
    (largest_of c.args.first c.args.last c.largest_place-place.result c.requires.below
    c.largest_place-place.ensures)
