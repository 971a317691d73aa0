use Rattle.std.proofs.Common.{◌≡◌, ◌∷◌, ◌∙◌, ap, sym, refl}
use Rattle.volume4d.specs.Slab.{top_held, greater}
use Rattle.desk_rules.specs.Conflict.{at_least}
use Rattle.desk_store.specs.World.{rivals_top, filed_of, filed_all}
use Rattle.desk_store.proofs.RivalLemmas.{rivals_begin, rivals_end, rival_added, absent_adds_none}
use Rattle.desk_store.proofs.list.rivals_of.Goals as goal

pub loop-key-init : goal.loop-key-init
loop-key-init c = λ x inside.
    let start : c.into_iter-key-iterator.result ≡ c.args.plans.now.entries =
    c.into_iter-key-iterator.ensures.into_iter_gives.0 in
    rivals_begin _ c.new-helds.result.items x c.new-helds.ensures.items
    ∙ ap (λ es. at_least c.args.least (rivals_top c.args.operator.now c.args.id.now (filed_all es) x)) start

pub loop-key-preserved : goal.loop-key-preserved
loop-key-preserved c = λ x inside.
    let key = c.in-Some.key.now in
    let plan = c.in-Some.plan.now in
    let before = top_held c.loop-key.helds.items x in
    let rest : c.loop-key.key-iterator ≡ (key, plan) ∷ c.next.new.self = c.in-Some.ensures.steps in
    rival_added c.args.least c.args.operator.now c.args.id.now (filed_of (key, plan))
    (filed_all c.next.new.self) x before before _
    (absent_adds_none c.args.least c.args.operator.now c.args.id.now (filed_of (key, plan)) x before
    (c.if-may_meet.ensures refl x inside))
    (ap (λ es. greater before (at_least c.args.least
    (rivals_top c.args.operator.now c.args.id.now (filed_all es) x))) (sym rest)
    ∙ c.loop-key.invariant x inside)

pub loop-key-preserved-in-Continue-1 : goal.loop-key-preserved-in-Continue-1
loop-key-preserved-in-Continue-1 c = λ x inside.
    let key = c.in-Some.key.now in
    let plan = c.in-Some.plan.now in
    let before = top_held c.loop-key.helds.items x in
    let rest : c.loop-key.key-iterator ≡ (key, plan) ∷ c.next.new.self = c.in-Some.ensures.steps in
    rival_added c.args.least c.args.operator.now c.args.id.now (filed_of (key, plan))
    (filed_all c.next.new.self) x before _ _ (c.in_ok-push_rival.ensures x inside)
    (ap (λ es. greater before (at_least c.args.least
    (rivals_top c.args.operator.now c.args.id.now (filed_all es) x))) (sym rest)
    ∙ c.loop-key.invariant x inside)

pub returns : goal.returns
returns c = λ x inside.
    c.in_order.ensures.same x
    ∙ rivals_end c.args.least c.args.operator.now c.args.id.now
    (filed_all c.loop-key.key-iterator) x _ _
    (ap filed_all c.in-None.ensures.steps.0) (c.loop-key.invariant x inside)
