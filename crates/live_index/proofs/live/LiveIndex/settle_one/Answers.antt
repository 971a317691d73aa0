use Rattle.std.proofs.Common.{sym, ◌∙◌}
use Rattle.live_index.specs.Live.{volumes_under}
use Rattle.live_index.proofs.LiveLemmas.{groups_moved, last_moved}
use Rattle.live_index.proofs.PlaceLemmas.{placed_added, placed_still}
use Rattle.live_index.proofs.live.LiveIndex.settle_one.Goals as goal

pub returns-in_err-insert-clause-kept : goal.returns-in_err-insert-clause-kept
returns-in_err-insert-clause-kept c = λ w was.
    let old = c.args.self.now in
    let same = c.in_err-insert.ensures.kept in record {
      live = groups_moved w (volumes_under old.groups.items) (volumes_under c.insert.new.groups.items)
          old.unindexed.items was.live same;
      group_bounded = c.insert.ensures.group_bounded was.group_bounded;
      placed = placed_still old.places c.add.new.self (volumes_under old.groups.items)
          (volumes_under c.insert.new.groups.items) was.placed c.add.ensures.kept same;
    }

pub returns-clause-kept : goal.returns-clause-kept
returns-clause-kept c = λ w was.
    let old = c.args.self.now in
    let live = c.in-Some.last.now in
    let all = volumes_under old.groups.items in
    let now = volumes_under c.insert.new.groups.items in
    let added = c.in_ok-insert.ensures.added in record {
      live = last_moved w live all now old.unindexed.items c.in-Some.rest.now c.truncate.new.self.items was.live
          (sym c.deref.ensures.value ∙ c.in-Some.ensures.cases.0) c.truncate.ensures.items added;
      group_bounded = c.insert.ensures.group_bounded was.group_bounded;
      placed = placed_added old.places c.add.new.self live all now was.placed c.add.ensures.kept
          c.in_ok-add.ensures.added added;
    }
