use Rattle.std.proofs.Common.{◌≡◌, ◌∷◌, ◌∙◌, ap, sym}
use Rattle.volume4d.specs.Slab.{top_held, greater}
use Rattle.desk_store.specs.World.{others_top, filed_of, filed_all}
use Rattle.desk_store.proofs.RivalLemmas.{rivals_begin, others_end, other_added}
use Rattle.desk_store.proofs.list.others_in.Goals as goal

pub loop-key-init : goal.loop-key-init
loop-key-init c = λ x.
    let start : c.into_iter-key-iterator.result ≡ c.args.plans.now.entries =
    c.into_iter-key-iterator.ensures.into_iter_gives.0 in
    rivals_begin _ c.new-helds.result.items x c.new-helds.ensures.items
    ∙ ap (λ es. others_top c.args.operator.now (filed_all es) x) start

pub loop-key-preserved : goal.loop-key-preserved
loop-key-preserved c = λ x.
    let key = c.in-Some.key.now in
    let plan = c.in-Some.plan.now in
    let before = top_held c.loop-key.helds.items x in
    let rest : c.loop-key.key-iterator ≡ (key, plan) ∷ c.next.new.self = c.in-Some.ensures.steps in
    other_added c.args.operator.now (filed_of (key, plan)) (filed_all c.next.new.self) x before _ _
    (c.in_ok-push_other.ensures x)
    (ap (λ es. greater before (others_top c.args.operator.now (filed_all es) x)) (sym rest)
    ∙ c.loop-key.invariant x)

pub returns : goal.returns
returns c = λ x inside.
    others_end c.args.operator.now (filed_all c.loop-key.key-iterator) x _ _
    (ap filed_all c.in-None.ensures.steps.0) (c.loop-key.invariant x)
