use Rattle.std.proofs.Common.{◌++◌, sym, subst}
use Rattle.live_index.specs.Live.{AreLive, volumes_under}
use Rattle.live_index.proofs.live.LiveIndex.prepare.Goals as goal

pub returns-in_err-reserve-clause-kept : goal.returns-in_err-reserve-clause-kept
returns-in_err-reserve-clause-kept c = λ w was.
    let kept = c.settle.ensures.kept w was in record {
      live = subst (λ ys. AreLive w (volumes_under c.settle.new.self.groups.items ++ ys))
          (sym c.reserve.ensures.items) kept.live;
      group_bounded = kept.group_bounded;
      placed = kept.placed;
    }

pub returns-clause-kept : goal.returns-clause-kept
returns-clause-kept c = λ w was.
    let kept = c.settle.ensures.kept w was in record {
      live = subst (λ ys. AreLive w (volumes_under c.settle.new.self.groups.items ++ ys))
          (sym c.reserve.ensures.items) kept.live;
      group_bounded = kept.group_bounded;
      placed = kept.placed;
    }
