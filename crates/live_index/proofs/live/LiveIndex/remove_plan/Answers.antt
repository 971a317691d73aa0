use Rattle.std.proofs.Common.{◌≤◌, subst, sym}
use Rattle.live_index.specs.declared.near.PlanKey.{PlanKey}
use Rattle.live_index.specs.Live.{count_of, volumes_under}
use Rattle.live_index.proofs.LiveLemmas.{left_of_both}
use Rattle.live_index.proofs.PlaceLemmas.{placed_without}
use Rattle.live_index.proofs.live.LiveIndex.remove_plan.Goals as goal

pub returns : goal.returns
returns c =
    let o = c.args.operator.now in
    let id = c.args.id.now in
    let old = c.args.self.now in
    let key : PlanKey = record { operator = o; id = id } in
    let all = volumes_under old.groups.items in record {
      same = λ placed.
          left_of_both o id all (volumes_under c.remove_all.new.groups.items) old.unindexed.items
          c.remove_plan_volumes.new.volumes.items
          (c.remove_all.ensures.same (subst (λ n. count_of o id all ≤ n) (sym c.of.ensures) (placed o id)))
          c.remove_plan_volumes.ensures.items;
      group_bounded = c.remove_all.ensures.group_bounded;
      placed = λ placed.
          placed_without old.places c.forget.new.self key all (volumes_under c.remove_all.new.groups.items)
          placed c.forget.ensures.others
          (c.remove_all.ensures.same (subst (λ n. count_of o id all ≤ n) (sym c.of.ensures) (placed o id)));
      room = c.remove_plan_volumes.ensures.room;
      less = c.remove_plan_volumes.ensures.fewer;
    }
