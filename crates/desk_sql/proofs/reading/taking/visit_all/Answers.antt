use Rattle.std.proofs.Common.{arith, refl, rules, inl, ◌∙◌, IfErr}
use Rattle.sqlite.specs.declared.error.Error.TheVariants.{SqliteFailure}
use Rattle.sqlite.specs.declared.error.ErrorCode.TheVariants.{TooBig}
use Rattle.sqlite.specs.Held.{state}
use Rattle.sqlite.specs.State.{HasCleanDisk}
use Rattle.desk_sql.specs.Queries.{FailsToHandAll, HandsAll, IsLeft}
use Rattle.desk_sql.proofs.TakingLemmas.{begins, goes_on, ends, is_left, fails_now, on_err, too_many}
use Rattle.desk_sql.proofs.lemmas.Leaving.{remembers_itself, remembers_then}
use Rattle.desk_sql.proofs.reading.taking.visit_all.Goals as goal

pub loop-init : goal.loop-init
loop-init g c = (
  refl,
  λ e. e,
  remembers_itself g.S.Store c.args.rows.now.conn.now,
  begins g.S.Store c.args.rows.now.conn.now
      (g.T.RowVisitor.has_taken c.args.visitor.now) c.requires,
  λ some. some,
  λ first k. k,
)

pub returns-in_err-visit_next-clause-handed : goal.returns-in_err-visit_next-clause-handed
returns-in_err-visit_next-clause-handed g c =
    let old = c.args.rows.now.conn.now in
    let mid = c.loop.rows.conn.now in
    let new = c.visit_next.new.rows.conn.now in
    let step = c.in_err-visit_next.ensures.handed in
    let early : HasCleanDisk (state g.S.Store new) → HasCleanDisk (state g.S.Store mid) = λ clean.
    omega (arith, clean, step.remembered.doubt) in
    let left : HasCleanDisk (state g.S.Store new) → IsLeft g.S.Store old new =
    is_left g.S.Store old mid new _ _ (g.T.RowVisitor.has_taken c.visit_next.new.visitor) c.loop.counter
    c.loop.invariant.3 early step.left in
    let cause : HasCleanDisk (state g.S.Store new) → IfErr c.from_residual.result
    (FailsToHandAll g.S.Store old new (g.T.RowVisitor.has_taken c.args.visitor.now) g.T.RowVisitor.refuses) = λ clean.
    on_err c.from_residual.result c.in_err-visit_next.field-0.0 _ c.from_residual.ensures.1
    (fails_now g.S.Store old mid new _ _ (g.T.RowVisitor.has_taken c.visit_next.new.visitor) c.loop.counter
    c.loop.invariant.3 early g.T.RowVisitor.refuses c.loop.invariant.2.faults c.loop.invariant.2.limit _
    (step.cause clean) clean) in
    search (rules, left, cause)

pub returns-then-not-branch-clause-handed : goal.returns-then-not-branch-clause-handed
returns-then-not-branch-clause-handed g c =
    let old = c.args.rows.now.conn.now in
    let mid = c.loop.rows.conn.now in
    let new = c.visit_next.new.rows.conn.now in
    let step = c.in_ok-visit_next.ensures.handed in
    let has = g.T.RowVisitor.has_taken c.visit_next.new.visitor in
    let early : HasCleanDisk (state g.S.Store new) → HasCleanDisk (state g.S.Store mid) = λ clean.
    omega (arith, clean, step.remembered.doubt) in
    let left : HasCleanDisk (state g.S.Store new) → IsLeft g.S.Store old new =
    is_left g.S.Store old mid new _ _ has c.loop.counter c.loop.invariant.3 early step.left in
    let handed : HasCleanDisk (state g.S.Store new)
    → HandsAll g.S.Store old new (g.T.RowVisitor.has_taken c.args.visitor.now) has =
    ends g.S.Store old mid new _ _ has c.loop.counter c.loop.invariant.3 early c.in_ok-visit_next.field-0
    c.if-not-branch.true step.handed in
    search (rules, left, handed)

pub loop-preserved : goal.loop-preserved
loop-preserved g c = (
  c.visit_next.ensures.same_reference ∙ c.loop.invariant.0,
  λ settled. c.visit_next.ensures.handed.mode (c.loop.invariant.1 settled),
  remembers_then g.S.Store c.args.rows.now.conn.now c.loop.rows.conn.now c.visit_next.new.rows.conn.now
      c.loop.invariant.2 c.visit_next.ensures.handed.remembered,
  goes_on g.S.Store c.args.rows.now.conn.now c.loop.rows.conn.now c.visit_next.new.rows.conn.now _ _
      (g.T.RowVisitor.has_taken c.visit_next.new.visitor) c.loop.counter c.loop.invariant.3
      (λ clean. omega (arith, clean, c.visit_next.ensures.handed.remembered.doubt))
      c.in_ok-visit_next.ensures.same c.in_ok-visit_next.field-0 c.if-not-branch.false
      c.in_ok-visit_next.ensures.handed.handed,
  λ some. c.in_ok-visit_next.ensures.taken (c.loop.invariant.4 some),
  λ first k. c.in_ok-visit_next.ensures.kept first (c.loop.invariant.5 first k),
)

pub returns-clause-handed : goal.returns-clause-handed
returns-clause-handed g c =
    let old = c.args.rows.now.conn.now in
    let new = c.loop.rows.conn.now in
    let left : HasCleanDisk (state g.S.Store new) → IsLeft g.S.Store old new = λ clean.
    inl (c.loop.invariant.3.same clean) in
    let cause : HasCleanDisk (state g.S.Store new) → FailsToHandAll g.S.Store old new
    (g.T.RowVisitor.has_taken c.args.visitor.now) g.T.RowVisitor.refuses (SqliteFailure TooBig) = λ clean.
    too_many g.S.Store old new _ _ c.loop.counter g.T.RowVisitor.refuses c.loop.invariant.3
    (omega (arith, c.loop-test.false)) clean in
    search (rules, left, cause)
