use Rattle.std.proofs.Common.{ap, ◌∙◌, arith}
use Rattle.volume4d.specs.Slab.{slabs_have, top_held}
use Rattle.desk_rules.specs.Conflict.{at_least}
use Rattle.desk_rules.specs.Limits.{least_blocking}
use Rattle.desk_store.specs.World.{plans_of, held, held_at}
use Rattle.desk_run.specs.HeldAmong.{at_piece}
use Rattle.desk_run.proofs.PieceLemmas.{held_at_piece, written}
use Rattle.desk_run.proofs.pending.pieces.first_at.Goals as goal

pub returns-clause-value : goal.returns-clause-value
returns-clause-value g c = λ honest.
    let w = g.S.PlanStore.content c.args.store.now in
    let operator = c.args.operator.now in
    let permitted = c.args.permitted.now in
    let piece = c.args.piece.now in
    let levels = held_at (plans_of operator w) (held w operator) c.args.id.now in
    let rivals = c.in_ok-theirs.ensures.value honest in
    c.first_conflict.ensures.among permitted (at_piece piece levels) c.args.priority
    (λ x has. ap (λ helds. top_held helds x) (c.deref-2.ensures.value
    ∙ written c.in_ok-theirs.theirs.len c.cut_in_order.new.helds _ (omega (arith, c.cut_in_order.auto.helds)))
    ∙ c.cut_in_order.ensures x ∙ ap (λ helds. at_piece piece (top_held helds) x) c.deref_mut.ensures.value
    ∙ held_at_piece (least_blocking permitted c.args.priority) piece c.in_ok-theirs.theirs.items levels x
    (λ at. rivals x (ap (λ extents. slabs_have extents x) c.deref.ensures.value ∙ c.in_ok-extents.ensures x has at) ∙ ap (λ least. at_least least (levels x)) c.least_of.ensures))
