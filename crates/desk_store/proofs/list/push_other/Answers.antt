use Rattle.std.proofs.Common.{sym, ◌∙◌, ap}
use Rattle.std.proofs.lemmas.Result.{on_ok_weaker}
use Rattle.volume4d.specs.Slab.{top_held, greater}
use Rattle.desk_store.specs.World.{filed_of}
use Rattle.desk_store.proofs.RivalLemmas.{own_adds_nothing, other_adds}
use Rattle.desk_store.proofs.list.push_other.Goals as goal

pub returns-then-is_by : goal.returns-then-is_by
returns-then-is_by c = λ x. own_adds_nothing c.args.operator.now
    (filed_of (c.args.key.now, c.args.plan.now)) x _ (sym c.if-is_by.ensures)

pub returns : goal.returns
returns c =
    on_ok_weaker c.push_if_live.result (λ d x. d x
    ∙ ap (greater (top_held c.args.helds.now.items x))
    (other_adds c.args.operator.now (filed_of (c.args.key.now, c.args.plan.now)) x
    (sym c.if-is_by.ensures))) c.push_if_live.ensures
