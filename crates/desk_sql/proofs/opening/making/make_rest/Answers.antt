use Rattle.std.proofs.Common.{arith, rules, ◌∙◌, inr, IsTrue}
use Rattle.sqlite.specs.State.{HasCleanDisk}
use Rattle.sqlite.specs.Held.{state}
use Rattle.desk_sql.specs.Changing.{HasSmallSpans}
use Rattle.desk_sql.specs.Statements.{IsRefusal}
use Rattle.desk_sql.specs.Rows.{tables_at}
use Rattle.desk_sql.proofs.CreateLemmas.{grows, grown_more, finished}
use Rattle.desk_sql.proofs.StepStops.{step_refused}
use Rattle.desk_sql.proofs.opening.making.make_rest.Goals as goal

pub steps-preserved : goal.steps-preserved
steps-preserved g c =
    let old = c.args.tx.now.conn.now in
    let mid = c.steps.tx.conn.now in
    let new = c.run.new.tx.conn.now in (
      c.in_ok-run.ensures.same_reference ∙ c.steps.invariant.0,
      grown_more g.S.Store c.args.made c.steps.at c.in-Some.next old mid new c.steps.invariant.1
          c.run.ensures.remembered
          (λ clean. grows g.S.Store c.steps.at c.in-Some.next mid new c.in-Some.text.now
          (λ none. omega (arith, none, c.in-Some.ensures.one_fewer)) c.in-Some.ensures.step.extends
          (λ clean live. (c.steps.invariant.1.grown clean (inr live)).has)
          (omega (arith, c.run.ensures.remembered.doubt, clean)) (c.in_ok-run.ensures.shown clean)
          c.in_ok-run.field-0 (c.in_ok-run.ensures.ran clean)),
      λ clean _. (c.in_ok-run.ensures.shown clean).is_open,
      c.in-Some.ensures.ordered,
    )

pub returns-in_err-run-clause-ran : goal.returns-in_err-run-clause-ran
returns-in_err-run-clause-ran g c =
    let old = c.args.tx.now.conn.now in
    let mid = c.steps.tx.conn.now in
    let new = c.run.new.tx.conn.now in
    let refused : HasSmallSpans (tables_at c.args.made (state g.S.Store old).now.trees)
    → HasCleanDisk (state g.S.Store new) → IsTrue (state g.S.Store old).is_open
    → IsRefusal g.S.Store old new c.in_err-run.field-0.0 = λ small clean live.
    let early : HasCleanDisk (state g.S.Store mid) = omega (arith, c.run.ensures.remembered.doubt, clean) in
    step_refused g.S.Store c.args.made c.steps.at c.in-Some.next old mid new c.in-Some.text.now
    (λ none. omega (arith, none, c.in-Some.ensures.one_fewer))
    c.in-Some.ensures.step c.steps.invariant.1 early (c.steps.invariant.2 early live) small _
    (c.in_err-run.ensures.stopped clean) in
    search (rules, refused)

pub returns-clause-ran : goal.returns-clause-ran
returns-clause-ran g c =
    let done = finished g.S.Store c.args.made c.steps.at c.args.tx.now.conn.now c.steps.tx.conn.now
    c.requires.missing c.in_default.ensures.none c.steps.invariant.1 in
    search (rules, done)
