use Rattle.desk_store.specs.Changes.{filed_by}
use Rattle.live_index.proofs.VolumeLemmas.{one_added}
use Rattle.live_index.proofs.changing.push_area.Goals as goal

pub loop-volume-preserved : goal.loop-volume-preserved
loop-volume-preserved c =
    one_added (filed_by c.args.operator.now c.args.row.now) c.volumes-volume-items.result.now
    c.loop-volume.volume-index c.volume-item.result c.args.volumes.now.items c.loop-volume.volumes.items
    c.push.new.self.items c.in_ok-try_new.field-0 c.loop-volume-test.true c.volume-item.is
    c.loop-volume.invariant c.in_ok-push.ensures.items c.in_ok-try_new.ensures
