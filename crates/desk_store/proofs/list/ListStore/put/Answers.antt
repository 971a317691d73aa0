use Rattle.std.proofs.Common.{◌≤◌, ◌∙◌, ap, arith}
use Rattle.desk_rules.specs.Limits.{max_plans}
use Rattle.desk_store.specs.World.{world_in_lists}
use Rattle.desk_store.proofs.EntryLemmas.{key_cmp}
use Rattle.std.specs.BTreeMap.{insert_entry}
use Rattle.desk_store.proofs.KeptLemmas.{put_first, put_again, count_within}
use Rattle.desk_store.proofs.list.ListStore.put.Goals as goal
use Rattle.desk_store.proofs.list.ListStore.put.Goals.{then-is_none, else-is_none}

pub overflow_add-count : goal.overflow_add-count
overflow_add-count c =
    let few : c.count_in-count.result ≤ max_plans =
    count_within c.args.self.now c.self.inside.operators.entries c.self.inside.plans.entries
    c.args.operator c.count_in-count.result c.self.invariant c.count_in-count.ensures in
    omega (arith, few)

pub invariant_of-self-then-is_none : goal.invariant_of-self-then-is_none
invariant_of-self-then-is_none c =
    let ops = c.self.inside.operators.entries in
    let plans = c.self.inside.plans.entries in
    let o = c.args.operator in
    let put = c.in_ok-before.ensures.entries ∙ ap (insert_entry key_cmp plans (o, c.args.row.id))
    c.in_ok-plan.ensures in
    rw c.set_count.ensures (put_first c.args.self.now ops plans c.insert.new.self.entries o c.args.row
    c.in_ok-before.before c.count_in-count.result c.self.view_is c.self.invariant c.requires
    c.row_is_valid.ensures c.in_ok-before.ensures.was_ordered put c.in_ok-before.ensures.old
    c.if-is_none.ensures c.count_in-count.ensures).1

pub invariant_of-self-else-is_none : goal.invariant_of-self-else-is_none
invariant_of-self-else-is_none c =
    let ops = c.self.inside.operators.entries in
    let plans = c.self.inside.plans.entries in
    let o = c.args.operator in
    let put = c.in_ok-before.ensures.entries ∙ ap (insert_entry key_cmp plans (o, c.args.row.id))
    c.in_ok-plan.ensures in
    (put_again c.args.self.now ops plans c.insert.new.self.entries o c.args.row c.in_ok-before.before
    c.self.view_is c.self.invariant c.requires c.row_is_valid.ensures c.in_ok-before.ensures.was_ordered put
    c.in_ok-before.ensures.old c.if-is_none.ensures).1

pub returns-clause-ok : goal.returns-clause-ok
returns-clause-ok c =
    let ops = c.self.inside.operators.entries in
    let plans = c.self.inside.plans.entries in
    let more = c.insert.new.self.entries in
    let o = c.args.operator in
    let put = c.in_ok-before.ensures.entries ∙ ap (insert_entry key_cmp plans (o, c.args.row.id))
    c.in_ok-plan.ensures in
    elim c.if-is_none.branch [
      | then-is_none w ↦ w.self-is ∙ ap (λ es. world_in_lists es more) w.set_count.ensures
          ∙ (put_first c.args.self.now ops plans more o c.args.row c.in_ok-before.before
          w.count_in-count.result c.self.view_is c.self.invariant c.requires c.row_is_valid.ensures
          c.in_ok-before.ensures.was_ordered put c.in_ok-before.ensures.old w.if-is_none.ensures
          w.count_in-count.ensures).0
      | else-is_none w ↦ w.self-is
          ∙ (put_again c.args.self.now ops plans more o c.args.row c.in_ok-before.before c.self.view_is
          c.self.invariant c.requires c.row_is_valid.ensures c.in_ok-before.ensures.was_ordered put
          c.in_ok-before.ensures.old w.if-is_none.ensures).0
    ]
