use Rattle.std.proofs.Common.{IsTrue, inl, subst}
use Rattle.std.proofs.lemmas.Result.{err_from_is_err_and}
use Rattle.sqlite_wal.specs.Files.{RefusesToRecover}
use Rattle.sqlite_wal.specs.Outcome.{FailsFor}
use Rattle.sqlite_wal.specs.PageSize.{bytes_of}
use Rattle.sqlite_wal.specs.Recovery.{Image, IsUnreadable, RecoversAs}
use Rattle.sqlite_wal.proofs.OutcomeLemmas.{HasCause-weaker}
use Rattle.sqlite_pager.specs.Pager.{image, state}
use Rattle.db_file.specs.Orders.{LeavesOrdered, RefusesFiles}
use Rattle.db_file.proofs.CommitLemmas.{finds_and_orders, leaves_ordered, order_fails, still_readable}
use Rattle.db_file.proofs.committing.recover_and_reorder.Goals as goal

pub returns-in_err-recover-clause-cause : goal.returns-in_err-recover-clause-cause
returns-in_err-recover-clause-cause g c =
    let it = c.args.pager.now in
    let e = c.in_err-recover.field-0.0 in
    let cause = c.in_err-recover.ensures.cause in
    let p = err_from_is_err_and c.from_residual.result c.from_residual.ensures.1 in
    rw (p.1, p.2) (
      λ clean. HasCause-weaker _ _ _ _ (RefusesToRecover (state it).page_size (image it))
          (RefusesFiles (bytes_of c.args.size) (image it) c.recover.new.self) e (λ more. more)
          (λ why. inl (subst (λ n. RefusesToRecover n (image it) e) c.requires.size why)) (cause.0 clean),
      cause.1,
    )

pub returns-in_err-recover-clause-crash : goal.returns-in_err-recover-clause-crash
returns-in_err-recover-clause-crash g c left may =
    let before = c.recover.ensures.crash left may in
    inl (before.0, before.1, subst (λ n. RecoversAs n before.0 left) c.requires.size before.2)

pub returns-clause-ordered : goal.returns-clause-ordered
returns-clause-ordered g c =
    finds_and_orders c.args.pager.now c.recover.new.self c.reorder_first_page.new.pager c.recover.ensures.size
    c.in_ok-recover.ensures.clean c.in_ok-recover.ensures.found c.reorder_first_page.ensures.stays c.reorder_first_page.result
    c.reorder_first_page.ensures.ordered c.reorder_first_page.ensures.settled

pub returns-clause-cause : goal.returns-clause-cause
returns-clause-cause g c =
    let it = c.args.pager.now in
    let new = c.reorder_first_page.new.pager in
    subst (λ n. FailsFor c.reorder_first_page.result (IsTrue (state new).is_clean) (state it).faults (state new).faults
    (RefusesFiles n (image it) new)) c.requires.size
    (order_fails it c.recover.new.self new c.recover.ensures.size c.in_ok-recover.ensures.clean
    c.in_ok-recover.ensures.found c.reorder_first_page.ensures.stays g.met.D.Disk.seen_may_stay c.reorder_first_page.result
    c.in_ok-recover.ensures.ready c.in_ok-recover.ensures.cause c.reorder_first_page.ensures.cause)

pub returns-clause-crash : goal.returns-clause-crash
returns-clause-crash g c =
    let it = c.args.pager.now in
    let new = c.reorder_first_page.new.pager in
    subst (λ n. LeavesOrdered n (image it) (state it).may_leave (state new).may_leave) c.requires.size
    (leaves_ordered it c.recover.new.self new c.recover.ensures.size c.in_ok-recover.ensures.clean
    c.in_ok-recover.ensures.found c.reorder_first_page.ensures.stays c.recover.ensures.crash c.reorder_first_page.ensures.crash)

pub returns-clause-unreadable : goal.returns-clause-unreadable
returns-clause-unreadable g c =
    let it = c.args.pager.now in
    let new = c.reorder_first_page.new.pager in
    subst (λ n. IsUnreadable n (image it) → (left : Image) → (state new).may_leave left → (state it).may_leave left)
    c.requires.size
    (still_readable it c.recover.new.self new c.recover.ensures.size c.in_ok-recover.ensures.clean
    c.in_ok-recover.ensures.found c.reorder_first_page.ensures.stays g.met.D.Disk.seen_may_stay)
