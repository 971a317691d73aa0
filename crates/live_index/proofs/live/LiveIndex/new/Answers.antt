use Rattle.std.proofs.Common.{[], ◌++◌, arith, sym, subst}
use Rattle.live_index.specs.Live.{AreBoundedGroups, AreLive, ArePlaced, volumes_under}
use Rattle.live_index.proofs.lemmas.Live.{none_live}
use Rattle.live_index.proofs.live.LiveIndex.new.Goals as goal

pub returns : goal.returns
returns c = record {
  live = subst (AreLive (record { operators = []; plans = [] }))
      (λ i. volumes_under (sym c.new.ensures.items i) ++ sym c.new-2.ensures.items i) none_live;
  group_bounded = subst AreBoundedGroups (sym c.new.ensures.items) tt;
  placed = subst (λ gs. ArePlaced c.new-3.result (volumes_under gs)) (sym c.new.ensures.items)
      (λ o id. omega arith);
}
