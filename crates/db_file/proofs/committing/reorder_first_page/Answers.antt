use Rattle.std.proofs.Common.{◌≡◌, ◌∙◌, IsTrue, rules, subst, sym}
use Rattle.std.proofs.lemmas.Result.{err_from_is_err_and}
use Rattle.sqlite_wal.proofs.StateLemmas.{StaysOrFails-trans}
use Rattle.sqlite_pager.specs.Pager.{current, state, visible}
use Rattle.db_file.specs.Orders.{OrdersFirst, in_order}
use Rattle.db_file.proofs.CommitLemmas.{clean_if_open, commit_fails, on_both, order_commits, order_kept, orders_first, settled_if, write_fails}
use Rattle.db_file.proofs.committing.reorder_first_page.Goals as goal

pub returns-in_err-write-clause-crash : goal.returns-in_err-write-clause-crash
returns-in_err-write-clause-crash g c =
    order_kept (state c.args.pager.now) (state c.load.new.self) (state c.write.new.self) c.load.ensures.keeps
    c.write.ensures.keeps (visible c.args.pager.now)

pub returns-clause-ordered : goal.returns-clause-ordered
returns-clause-ordered g c =
    let seen = visible c.args.pager.now in
    let wrote = visible c.write.new.self in
    let order : c.reorder_checksummed.new.page ≡ in_order (current c.load.new.self) = search rules in
    let ordered : IsTrue (state c.write.new.self).is_open → OrdersFirst seen wrote = λ live.
    orders_first seen (visible c.load.new.self) wrote (current c.load.new.self) c.reorder_checksummed.new.page
    c.load.ensures.pages
    (c.in_ok-load.ensures.ok
    (clean_if_open (state c.load.new.self) (c.write.ensures.keeps.stays.was_open live)))
    c.in_ok-write.ensures.ok order (c.write.ensures.others live) in
    on_both c.commit.result c.commit.ensures.clean c.commit.ensures.durable (λ is_open durable clean.
    subst (OrdersFirst seen) (sym (durable clean))
    (ordered (c.commit.ensures.crash.stays.was_open (is_open clean).0)))

pub returns-clause-crash : goal.returns-clause-crash
returns-clause-crash g c =
    let seen = visible c.args.pager.now in
    let wrote = visible c.write.new.self in
    let order : c.reorder_checksummed.new.page ≡ in_order (current c.load.new.self) = search rules in
    order_commits (state c.args.pager.now) (state c.load.new.self) (state c.write.new.self)
    c.load.ensures.keeps c.write.ensures.keeps (state c.commit.new.self) seen wrote c.commit.ensures.crash
    (λ live.
    orders_first seen (visible c.load.new.self) wrote (current c.load.new.self) c.reorder_checksummed.new.page
    c.load.ensures.pages
    (c.in_ok-load.ensures.ok
    (clean_if_open (state c.load.new.self) (c.write.ensures.keeps.stays.was_open live)))
    c.in_ok-write.ensures.ok order (c.write.ensures.others live))

pub returns-clause-settled : goal.returns-clause-settled
returns-clause-settled g c =
    settled_if c.commit.result c.commit.new.self g.met.D.Disk.seen_may_stay c.commit.ensures.clean

pub returns-in_err-write-clause-stays : goal.returns-in_err-write-clause-stays
returns-in_err-write-clause-stays g c =
    StaysOrFails-trans _ _ _ c.load.ensures.keeps.stays c.write.ensures.keeps.stays

pub returns-clause-stays : goal.returns-clause-stays
returns-clause-stays g c =
    StaysOrFails-trans _ _ _ (StaysOrFails-trans _ _ _ c.load.ensures.keeps.stays c.write.ensures.keeps.stays)
    c.commit.ensures.crash.stays

pub returns-clause-cause : goal.returns-clause-cause
returns-clause-cause g c =
    commit_fails c.commit.result c.args.pager.now c.write.new.self c.commit.new.self c.in_ok-write.ensures.open
    (c.in_ok-write.ensures.cause ∙ c.in_ok-load.ensures.cause) c.commit.ensures.full c.commit.ensures.cause

pub returns-in_err-write-clause-cause : goal.returns-in_err-write-clause-cause
returns-in_err-write-clause-cause g c =
    let fails = write_fails c.args.pager.now c.load.new.self c.load.ensures.open c.load.ensures.pages
    c.write.result c.write.new.self c.in_ok-load.ensures.cause c.write.ensures.full c.write.ensures.cause in
    let p = err_from_is_err_and c.from_residual-in_err-write.result c.from_residual-in_err-write.ensures.1 in
    rw (p.1, p.2) (rw c.in_err-write.was at fails)
