use Rattle.std.proofs.Common.{◌∙◌, ap, sym}
use Rattle.std.proofs.lemmas.Result.{on_ok_weaker}
use Rattle.volume4d.specs.Slab.{greater, level_where, slabs_have, top_held}
use Rattle.desk_run.proofs.ListingLemmas.{apart_plans, counted, uncounted, unheld}
use Rattle.desk_run.proofs.pending.own.OwnPlan.push_blocking.Goals as goal

pub returns-then-not-may_block : goal.returns-then-not-may_block
returns-then-not-may_block c =
    rw (← c.self.view_is, ← c.mine.view_is) (λ x has.
    uncounted c.args.least c.mine.inside.row.id c.self.inside.row x _ (sym c.if-not-may_block.ensures))

pub returns-then-not-overlaps : goal.returns-then-not-overlaps
returns-then-not-overlaps c =
    rw (← c.self.view_is, ← c.mine.view_is) (λ x has.
    unheld c.args.least c.mine.inside.row.id c.self.inside.row x _
    (apart_plans c.self.inside.row c.mine.inside.row c.self.inside.slabs.items c.mine.inside.slabs.items
    c.self.inside.bounds c.mine.inside.bounds c.self.inside.parts.items
    c.mine.inside.parts.items x c.self.invariant c.mine.invariant
    (sym c.overlaps.ensures ∙ c.if-not-overlaps.true) has))

pub returns : goal.returns
returns c =
    let row = c.self.inside.row in
    rw (← c.self.view_is, ← c.mine.view_is) (on_ok_weaker c.push_slabs.result (λ d x has.
    d x (ap (λ ss. slabs_have ss x) c.deref.ensures.value ∙ c.mine.invariant.points x ∙ has)
    ∙ ap (greater (top_held c.args.theirs.now.items x))
    (ap (λ b. level_where b row.priority)
    (ap (λ ss. slabs_have ss x) c.deref-3.ensures.value ∙ c.self.invariant.points x)
    ∙ counted c.args.least c.mine.inside.row.id row x (sym c.if-not-may_block.ensures)))
    c.push_slabs.ensures)
