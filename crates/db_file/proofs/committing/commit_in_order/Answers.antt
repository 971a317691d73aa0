use Rattle.std.proofs.Common.{◌∙◌, subst, sym}
use Rattle.sqlite_wal.specs.PageSize.{bytes_of}
use Rattle.db_file.specs.Orders.{NamesSize, image_of}
use Rattle.db_file.specs.declared.committing.Left.TheVariants.{Uncommitted}
use Rattle.db_file.proofs.CommitLemmas.{left_of, uncommitted}
use Rattle.db_file.proofs.committing.commit_in_order.Goals as goal

pub returns-in-Ok-recover_and_reorder-clause-sized : goal.returns-in-Ok-recover_and_reorder-clause-sized
returns-in-Ok-recover_and_reorder-clause-sized g c clean =
    subst (NamesSize (image_of g.D.Disk c.args.files)) (c.in-Ok.ensures.size ∙ sym c.recover_and_reorder.ensures.size)
    (c.in-Ok.ensures.fresh.sized (c.recover_and_reorder.ensures.clean clean))

pub returns-in-Err-recover_and_reorder-clause-left : goal.returns-in-Err-recover_and_reorder-clause-left
returns-in-Err-recover_and_reorder-clause-left g c was opened =
    left_of c.args.files was opened (Uncommitted c.in-Err-recover_and_reorder.error c.recover_and_reorder.new.pager)
    (uncommitted c.args.files c.in-Ok.found.0 c.recover_and_reorder.new.pager (bytes_of c.in-Ok.found.1)
    c.in-Err-recover_and_reorder.error c.in-Ok.ensures.fresh c.in-Ok.ensures.size c.recover_and_reorder.ensures.size
    c.recover_and_reorder.ensures.clean c.in-Err-recover_and_reorder.ensures.cause.0 c.recover_and_reorder.ensures.crash
    c.recover_and_reorder.ensures.unreadable)

pub returns-in-Err-clause-left : goal.returns-in-Err-clause-left
returns-in-Err-clause-left g c was opened = left_of c.args.files was opened c.in-Err.left c.in-Err.ensures.left
