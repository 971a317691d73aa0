use Rattle.std.proofs.Common.{subst, sym}
use Rattle.sqlite.specs.State.{HasCleanDisk}
use Rattle.sqlite.specs.Held.{state}
use Rattle.row_codec.specs.RowsRead.{AreWanted}
use Rattle.row_codec.specs.SpanBounds.{Bounds}
use Rattle.desk_tables.proofs.OtherLemmas.{reading_begins, reading_on}
use Rattle.desk_tables.proofs.tables.DeskTables.held_in_regions.Goals as goal

pub loop-region-init : goal.loop-region-init
loop-region-init g c =
    reading_begins g.S.Store c.args.self.now c.args.operator.now c.new-helds.result.items
    c.allocator.ensures c.new-helds.ensures.items

pub wanted_in_tables-requires : goal.wanted_in_tables-requires
wanted_in_tables-requires g c =
    subst (Bounds c.args.span_bounds.now) (sym c.loop-region.invariant.same) c.requires

pub loop-region-preserved : goal.loop-region-preserved
loop-region-preserved g c =
    let read = c.in_ok-more.ensures in
    reading_on g.S.Store c.args.self.now c.loop-region.self c.wanted_in_tables.new.self
    c.args.operator.now c.args.regions.now c.loop-region.region-index
    c.region-item.result c.loop-region.helds.items c.in_ok-more.more.items c.deref.result.now
    c.push_clipped.new.helds.items c.loop-region.invariant read.same read.reads
    c.loop-region-test.true c.region-item.is
    (subst (λ wanted. HasCleanDisk (state g.S.Store c.wanted_in_tables.new.self.held)
    → AreWanted c.loop-region.self.world wanted c.region-item.result c.in_ok-more.more.items)
    c.wanted_of_others-wanted.ensures read.value)
    c.deref.ensures.value c.in_ok-push_clipped.ensures
