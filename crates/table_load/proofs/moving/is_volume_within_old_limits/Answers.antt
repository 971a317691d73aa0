use Rattle.std.proofs.Common.{rules, ◌≡◌, ◌∙◌}
use Rattle.s2_cover.specs.Covers.{canonical_list}
use Rattle.volume4d.specs.Volume.{rectangle, shape_positions}
use Rattle.table_load.proofs.lemmas.Moving.{old_rectangle}
use Rattle.table_load.proofs.moving.is_volume_within_old_limits.Goals as goal

pub returns : goal.returns
returns c =
    let shape = c.args.volume.now.footprint in
    let is : shape ≡ rectangle c.in_default.field-0 = search rules in
    let same = c.cells.ensures.value
    ∙ c.one_canonical_list.ensures (shape_positions shape) c.in_ok-cover.cover.ids
    (canonical_list (shape_positions shape)) c.in_ok-cover.ensures
    (c.canonical_list_is.ensures (shape_positions shape)) in
    let old = old_rectangle shape c.in_default.field-0 c.cells.result.now is same in
    search (rules, old)
