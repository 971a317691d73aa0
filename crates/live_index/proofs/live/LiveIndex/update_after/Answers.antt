use Rattle.std.proofs.Common.{sym, subst}
use Rattle.desk_store.specs.Changes.{changed_by}
use Rattle.live_index.specs.Live.{AreLive, stays_at, volumes_of, volumes_under}
use Rattle.live_index.proofs.lemmas.Live.{changed_live}
use Rattle.live_index.proofs.LiveLemmas.{followed}
use Rattle.live_index.proofs.live.LiveIndex.update_after.Goals as goal

pub returns-clause-same : goal.returns-clause-same
returns-clause-same c = λ placed.
    followed (stays_at c.args.change.now) (volumes_of c.args.self.now)
    (volumes_under c.remove_named.new.self.groups.items) c.remove_named.new.self.unindexed.items
    c.push_all.new.volumes.items c.args.fresh.now (c.remove_named.ensures.same placed) c.push_all.ensures

pub returns-clause-kept : goal.returns-clause-kept
returns-clause-kept c = λ w was.
    let change = c.args.change.now in
    let old = c.args.self.now in record {
      live = subst (AreLive (changed_by change w))
          (sym (followed (stays_at change) (volumes_of old)
          (volumes_under c.remove_named.new.self.groups.items) c.remove_named.new.self.unindexed.items
          c.push_all.new.volumes.items c.args.fresh.now (c.remove_named.ensures.same was.placed)
          c.push_all.ensures))
          (changed_live change w (volumes_of old) c.args.fresh.now was.live c.requires.added);
      group_bounded = c.remove_named.ensures.group_bounded was.group_bounded;
      placed = c.remove_named.ensures.placed was.placed;
    }
