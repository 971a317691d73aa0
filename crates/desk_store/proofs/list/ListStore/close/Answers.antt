use Rattle.std.proofs.Common.{sym, ap, refl, ◌∙◌}
use Rattle.std.specs.BTreeMap.{is_at}
use Rattle.std.specs.Map.{set_value}
use Rattle.desk_store.specs.Changes.{close_row, changed_by}
use Rattle.desk_store.specs.World.{world_in_lists}
use Rattle.desk_store.proofs.EntryLemmas.{key_cmp}
use Rattle.desk_store.proofs.ChangeLemmas.{found_closed, none_closed, changed}
use Rattle.desk_store.proofs.KeptLemmas.{close_kept}
use Rattle.desk_store.proofs.list.ListStore.close.Goals as goal
use Rattle.desk_store.proofs.list.ListStore.close.Goals.{in-Some, in_default}

pub returns : goal.returns
unfolding changed_by
returns c =
    let o = c.args.operator.now in
    let id = c.args.id.now in
    let ops = c.self.inside.operators.entries in
    let plans = c.self.inside.plans.entries in
    let sorted = c.get_mut.ensures.ordered in
    elim c.match-get_mut.branch [
      | in-Some w ↦ ap (λ s. world_in_lists s.operators.entries s.plans.entries) w.self-inside-is
          ∙ changed (close_row id) c.args.self.now ops ops plans _ o c.self.view_is refl
          (found_closed o id w.in-Some.plan.now plans _ sorted (sym w.in-Some.ensures.value)
          ((c.get_mut.follows.holds _).0 ∙ ap (set_value (is_at (key_cmp (o, id))) plans) w.close.ensures))
      | in_default w ↦ ap (λ s. world_in_lists s.operators.entries s.plans.entries) w.self-inside-is
          ∙ changed (close_row id) c.args.self.now ops ops plans _ o c.self.view_is refl
          (none_closed o id plans _ sorted (sym w.in_default.ensures.value)
          (ap (λ m. m.entries) c.get_mut.follows.holds-at-none))
    ]

pub invariant_of-self : goal.invariant_of-self
invariant_of-self c =
    let o = c.args.operator.now in
    let id = c.args.id.now in
    let ops = c.self.inside.operators.entries in
    let plans = c.self.inside.plans.entries in
    let kept = close_kept c.args.self.now ops plans c.match-get_mut.self-inside.plans.entries o id
    c.self.view_is c.self.invariant c.requires in
    elim c.match-get_mut.branch [
      | in-Some w ↦ let same = ap (λ s. s.operators.entries) w.self-inside-is
          in rw same (kept (ap (λ es. world_in_lists es c.match-get_mut.self-inside.plans.entries) (sym same)
          ∙ returns c))
      | in_default w ↦ let same = ap (λ s. s.operators.entries) w.self-inside-is
          in rw same (kept (ap (λ es. world_in_lists es c.match-get_mut.self-inside.plans.entries) (sym same)
          ∙ returns c))
    ]
