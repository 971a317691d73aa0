use Rattle.std.proofs.Common.{◌∙◌}
use Rattle.desk_store.specs.Changes.{changed_by}
use Rattle.desk_store.specs.declared.change.Change.TheVariants.{Enrol}
use Rattle.desk_store.specs.World.{world_in_lists, filed_all}
use Rattle.desk_store.proofs.lemmas.Content.{enrol_content}
use Rattle.desk_store.proofs.StoreLemmas.{enrolled}
use Rattle.desk_store.proofs.CountLemmas.{count_is, count_enrolled}
use Rattle.desk_store.proofs.KeptLemmas.{kept_by}
use Rattle.desk_store.proofs.list.ListStore.enrol.Goals as goal

pub returns-clause-ok : goal.returns-clause-ok
unfolding changed_by
returns-clause-ok c =
    enrolled c.args.self.now c.self.inside.operators.entries c.insert.new.self.entries
    c.self.inside.plans.entries c.args.operator
    (record { ceiling = c.args.ceiling; plan_count = c.count_in-plan_count.result }) c.self.view_is
    c.in_ok-insert.ensures.entries

pub invariant_of-self-2 : goal.invariant_of-self-2
invariant_of-self-2 c =
    let ops = c.self.inside.operators.entries in
    let plans = c.self.inside.plans.entries in
    let o = c.args.operator in (
      kept_by (Enrol o c.args.ceiling) (world_in_lists ops plans) c.args.self.now
          (world_in_lists c.insert.new.self.entries plans) c.self.view_is c.self.invariant.0
          (λ content. enrol_content o c.args.ceiling c.args.self.now content c.requires c.name_is_valid.ensures)
          (returns-clause-ok c),
      rw c.in_ok-insert.ensures.entries (count_enrolled o
          (record { ceiling = c.args.ceiling; plan_count = c.count_in-plan_count.result }) ops
          (filed_all plans) (c.count_in-plan_count.ensures ∙ count_is o ops plans c.self.invariant)
          c.self.invariant.1),
    )
