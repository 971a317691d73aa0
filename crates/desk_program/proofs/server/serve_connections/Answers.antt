use Rattle.std.proofs.Common.{◌≡◌, ◌+◌, None, Ok, arith, refl, subst}
use Rattle.std.specs.Prelude.{OnOk}
use Rattle.std.proofs.lemmas.List.Elements.{All-nil}
use Rattle.desk_store.specs.Changes.{IsHonest}
use Rattle.desk_store.proofs.lemmas.Fault.{was_honest}
use Rattle.desk_wire.specs.Streams.{course}
use Rattle.desk_cli.specs.Exits.{failure_at}
use Rattle.desk_program.specs.Keeping.{AreKept}
use Rattle.desk_program.proofs.CauseLemmas.{counted_on}
use Rattle.desk_program.proofs.KeepingLemmas.{both_kept, none_kept}
use Rattle.desk_program.proofs.ServedLemmas.{goes_on_by, last_goes_on, last_stops, not_ok, stays, stops_by}
use Rattle.desk_program.proofs.server.serve_connections.Goals as goal

pub returns-in_err-serve_connection-clause-kept : goal.returns-in_err-serve_connection-clause-kept
returns-in_err-serve_connection-clause-kept g c =
    both_kept g.S.PlanStore tt c.serve_connection.result c.from_residual.result c.loop-before.before 1
    c.args.count _ _ _ _ _ _ (was_honest c.serve_connection.ensures.remembered.doubt)
    c.loop-before.invariant.kept c.serve_connection.ensures.kept (omega (arith, c.loop-before-test.true))
    (λ xs ys one last. stops_by (tt {0}) c.from_residual.result c.in_err-serve_connection.field-0.0
    c.serve_connection.result c.from_residual.ensures.1 c.in_err-serve_connection.was c.loop-before.before
    c.args.count 1 xs ys one last)
    (last_stops (IsHonest (g.S.PlanStore.doubt c.serve_connection.new.desk.store)) c.from_residual.result
    c.in_err-serve_connection.field-0.0 c.serve_connection.result c.from_residual.ensures.1
    c.in_err-serve_connection.was)
    (λ P well. not_ok c.from_residual.result c.in_err-serve_connection.field-0.0 P c.from_residual.ensures.1)

pub returns-in_err-serve_connection-clause-cause : goal.returns-in_err-serve_connection-clause-cause
returns-in_err-serve_connection-clause-cause g c =
    counted_on c.serve_connection.result c.from_residual.result c.in_err-serve_connection.field-0.0 _ _ _
    c.in_err-serve_connection.was c.from_residual.ensures.1 c.loop-before.invariant.counted
    c.serve_connection.ensures.cause

pub loop-before-preserved : goal.loop-before-preserved
loop-before-preserved g c = record {
  kept = both_kept g.S.PlanStore tt c.serve_connection.result (Ok tt) c.loop-before.before 1
      (c.loop-before.before + 1) _ _ _ _ _ _ (was_honest c.serve_connection.ensures.remembered.doubt)
      c.loop-before.invariant.kept c.serve_connection.ensures.kept (omega arith)
      (λ xs ys one last. goes_on_by (tt {0}) c.in_ok-serve_connection.field-0 (tt {0})
      c.serve_connection.result c.in_ok-serve_connection.was c.loop-before.before 1 xs ys one last)
      (last_goes_on (IsHonest (g.S.PlanStore.doubt c.serve_connection.new.desk.store))
      c.serve_connection.result c.in_ok-serve_connection.field-0 (tt {0}) c.in_ok-serve_connection.was)
      (λ P well. subst (λ r. OnOk r P) c.in_ok-serve_connection.was well);
  doubt = omega (arith, c.loop-before.invariant.doubt, c.serve_connection.ensures.remembered.doubt);
  counted = omega (arith, c.loop-before.invariant.counted, c.serve_connection.ensures.remembered.counted);
  shield = λ s. c.serve_connection.ensures.remembered.shield (c.loop-before.invariant.shield s);
}

pub returns-clause-kept : goal.returns-clause-kept
returns-clause-kept g c =
    let all : c.loop-before.before ≡ c.args.count =
    omega (arith, c.loop-before-test.false, c.loop-before.auto.before-end) in
    subst (λ n. AreKept {A = Unit {0}} g.S.PlanStore (Ok tt) n
    (course (g.P.Port.traffic c.args.port.now) (g.P.Port.traffic c.loop-before.port)) c.args.desk.now
    c.loop-before.desk) all c.loop-before.invariant.kept

pub loop-before-init : goal.loop-before-init
loop-before-init g c = record {
  kept = none_kept {A = Unit {0}} g.S.PlanStore (Ok tt) 0 _ _ _
      (stays (g.P.Port.traffic c.args.port.now)) (λ was. was)
      (refl, All-nil (λ x. failure_at x.served ≡ None));
  doubt = omega arith;
  counted = omega arith;
  shield = λ s. s;
}
