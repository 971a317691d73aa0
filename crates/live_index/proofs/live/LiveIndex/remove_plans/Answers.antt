use Rattle.std.proofs.Common.{◌∙◌, arith, refl}
use Rattle.live_index.specs.Live.{volumes_of}
use Rattle.live_index.proofs.LiveLemmas.{none_named, one_more_named}
use Rattle.live_index.proofs.live.LiveIndex.remove_plans.Goals as goal

pub loop-id-init : goal.loop-id-init
loop-id-init c = record {
  same = λ placed. none_named c.args.operator.now (volumes_of c.args.self.now);
  group_bounded = λ h. h;
  placed = λ h. h;
  room = refl;
  less = omega arith;
}

pub loop-id-preserved : goal.loop-id-preserved
loop-id-preserved c =
    let before = c.loop-id.invariant in
    let left = c.remove_plan.ensures in record {
      same = λ placed.
          one_more_named c.args.operator.now c.args.ids.now c.loop-id.id-index c.id-item.result
          (volumes_of c.args.self.now) (volumes_of c.loop-id.self) (volumes_of c.remove_plan.new.self)
          c.loop-id-test.true c.id-item.is (before.same placed) (left.same (before.placed placed));
      group_bounded = λ h. left.group_bounded (before.group_bounded h);
      placed = λ placed. left.placed (before.placed placed);
      room = left.room ∙ before.room;
      less = omega (arith, left.less, before.less);
    }
