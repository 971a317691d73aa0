use Rattle.std.proofs.Common.{◌∙◌, ap, sym}
use Rattle.desk_run.proofs.ClearLemmas.{id_added, id_passed}
use Rattle.desk_run.proofs.pending.clear.ids_sharing_point.Goals.{then-branch+in_ok-push, else-branch}
use Rattle.desk_run.proofs.pending.clear.ids_sharing_point.Goals as goal

pub loop-row-preserved : goal.loop-row-preserved
loop-row-preserved c = λ extent slabs.
    let row = c.row-item.result in
    let found = c.in_ok-shares_point.ensures extent slabs in
    let before = c.loop-row.invariant extent slabs in
    let rows = c.args.rows.now in
    let n = c.loop-row.row-index in
    let old = c.loop-row.ids.items in
    elim c.if-branch.branch [
      | then-branch+in_ok-push w ↦
          ap (λ v. v.items) w.ids-is ∙ w.in_ok-push.ensures.items
          ∙ id_added extent rows n row old c.loop-row-test.true c.row-item.is (sym found ∙ w.if-branch.true)
          before
      | else-branch w ↦
          ap (λ v. v.items) w.ids-is ∙ id_passed extent rows n row old c.loop-row-test.true c.row-item.is
          (sym found ∙ w.if-branch.false) before
    ]
