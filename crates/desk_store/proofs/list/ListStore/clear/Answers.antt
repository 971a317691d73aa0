use Rattle.std.proofs.Common.{◌∙◌, ap, sym, refl}
use Rattle.desk_store.specs.Changes.{clear_rows, changed_by}
use Rattle.desk_store.specs.declared.change.Change.TheVariants.{Clear}
use Rattle.desk_store.specs.World.{world_in_lists, with_count, without}
use Rattle.desk_store.proofs.ChangeLemmas.{cleared, changed}
use Rattle.desk_store.proofs.CountLemmas.{listed_same}
use Rattle.desk_store.proofs.KeptLemmas.{clear_kept, clear_within}
use Rattle.desk_store.proofs.list.ListStore.clear.Goals as goal

pub count_of-count-requires : goal.count_of-count-requires
count_of-count-requires c =
    let o = c.args.operator.now in
    let plans = c.self.inside.plans.entries in
    clear_within c.self.inside.operators.entries plans c.remove_all.new.plans.entries o c.args.ids.now.items
    c.self.invariant
    (c.remove_all.ensures ∙ ap (λ ids. without o ids plans) c.deref.ensures.value)

pub returns : goal.returns
unfolding changed_by
returns c =
    let o = c.args.operator.now in
    let ids = c.args.ids.now.items in
    let ops = c.self.inside.operators.entries in
    let plans = c.self.inside.plans.entries in
    let more = c.remove_all.new.plans.entries in
    let left = c.remove_all.ensures ∙ ap (λ js. without o js plans) c.deref.ensures.value in
    ap (λ es. world_in_lists es more) c.set_count.ensures
    ∙ changed (clear_rows ids) c.args.self.now ops (with_count o c.count_of-count.result ops) plans more o
    c.self.view_is (listed_same o c.count_of-count.result ops)
    (cleared o ids plans more c.self.invariant.0.world.plans left)

pub invariant_of-self : goal.invariant_of-self
unfolding changed_by
invariant_of-self c =
    let o = c.args.operator.now in
    let ids = c.args.ids.now.items in
    let ops = c.self.inside.operators.entries in
    let plans = c.self.inside.plans.entries in
    let more = c.remove_all.new.plans.entries in
    rw c.set_count.ensures (clear_kept c.args.self.now ops plans more o c.count_of-count.result
    ids (Clear o c.args.ids.now) refl c.self.view_is
    c.self.invariant c.requires
    (ap (λ es. world_in_lists es more) (sym c.set_count.ensures) ∙ returns c) c.count_of-count.ensures)
