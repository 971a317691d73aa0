use Rattle.std.proofs.Common.{sym, ◌∙◌, ap}
use Rattle.std.proofs.lemmas.Result.{on_ok_weaker}
use Rattle.volume4d.specs.Slab.{top_held, greater}
use Rattle.desk_store.specs.World.{filed_of}
use Rattle.desk_store.proofs.RivalLemmas.{own_adds_none, low_adds_none, rival_adds}
use Rattle.desk_store.proofs.list.push_rival.Goals as goal

pub returns-then-is_own : goal.returns-then-is_own
returns-then-is_own c = λ x inside. own_adds_none c.args.least c.args.operator.now c.args.id.now
    (filed_of (c.args.key.now, c.args.plan.now)) x _ (sym c.if-is_own.ensures)

pub returns-then-not-is_rival : goal.returns-then-not-is_rival
returns-then-not-is_rival c = λ x inside. low_adds_none c.args.least c.args.operator.now c.args.id.now
    (filed_of (c.args.key.now, c.args.plan.now)) x _ (sym c.if-not-is_rival.ensures)

pub returns : goal.returns
returns c =
    on_ok_weaker c.push_near.result (λ d x inside. d x inside
    ∙ ap (greater (top_held c.args.helds.now.items x))
    (rival_adds c.args.least c.args.operator.now c.args.id.now
    (filed_of (c.args.key.now, c.args.plan.now)) x (sym c.if-is_own.ensures)
    (sym c.if-not-is_rival.ensures))) c.push_near.ensures
