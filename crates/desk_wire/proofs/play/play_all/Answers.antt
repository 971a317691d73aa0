use Rattle.std.proofs.Common.{◌≡◌, ◌+◌, refl, sym, ◌∙◌, arith, rules}
use Rattle.std.proofs.KnownBytes.{Keeps-refl}
use Rattle.desk_store.specs.Changes.{IsHonest}
use Rattle.desk_store.proofs.lemmas.Fault.{was_honest}
use Rattle.desk_run.specs.Verdicts.{world_of}
use Rattle.io_ends.specs.declared.playing.PlayEnd.TheVariants.{End, Unframed, Broken, Limit, Fault}
use Rattle.io_ends.specs.declared.serving.Served.TheVariants as outcome
use Rattle.desk_wire.proofs.KeptLemmas.{fault_last, kept_by, old_or_next}
use Rattle.desk_wire.proofs.PlayLemmas.{none_played, one_played, broken_next, played_if, is_500, not_500}
use Rattle.desk_wire.proofs.CauseLemmas.{failed_last, grows_more, grows_none}
use Rattle.desk_wire.proofs.play.play_all.Goals as goal

pub loop-before-init : goal.loop-before-init
loop-before-init g c = record {
  played = none_played _ _ _ _ _;
  settled = λ honest h. h;
  grown = grows_none (g.W.Write.contents c.args.output.now);
  doubt = omega arith;
  counted = omega arith;
  shield = λ s. s;
}

pub returns-then-is_server_error-clause-played : goal.returns-then-is_server_error-clause-played
returns-then-is_server_error-clause-played g c =
    let honest = IsHonest (g.S.PlanStore.doubt c.serve_one.new.desk.store) in
    let w = world_of g.S.PlanStore.content c.loop-before.desk in
    let after = world_of g.S.PlanStore.content c.serve_one.new.desk in
    let served = rw c.in-Answered.is at c.in-Ok.ensures.served in
    record {
      count = c.loop-before.before;
      input = g.R.Read.remaining c.loop-before.input;
      output = g.W.Write.contents c.loop-before.output;
      world = w;
      first = played_if (IsHonest (g.S.PlanStore.doubt c.loop-before.desk.store)) honest _ _ _ _ _ _ _ _
          (was_honest c.serve_one.ensures.remembered.doubt) c.loop-before.invariant.played;
      last = (
        refl,
        broken_next honest _ _ _ _ w _ after c.in-Answered.status c.in-Answered.framed served
            (is_500 c.in-Answered.status (sym c.is_server_error.ensures ∙ c.if-is_server_error.true)),
      );
    }

pub loop-before-preserved : goal.loop-before-preserved
loop-before-preserved g c =
    let honest = IsHonest (g.S.PlanStore.doubt c.serve_one.new.desk.store) in
    let w = world_of g.S.PlanStore.content c.loop-before.desk in
    let after = world_of g.S.PlanStore.content c.serve_one.new.desk in
    let served = rw c.in-Answered.is at c.in-Ok.ensures.served in
    let first = played_if (IsHonest (g.S.PlanStore.doubt c.loop-before.desk.store)) honest _ _ _ _ _ _ _ _
    (was_honest c.serve_one.ensures.remembered.doubt) c.loop-before.invariant.played in
    let kept = rw c.in-Answered.is at c.in-Ok.ensures.kept in
    record {
      played = one_played honest c.loop-before.before (g.R.Read.remaining c.args.input.now)
          (g.R.Read.remaining c.loop-before.input) (g.R.Read.remaining c.serve_one.new.input)
          (g.W.Write.contents c.args.output.now) (g.W.Write.contents c.loop-before.output)
          (g.W.Write.contents c.serve_one.new.output) (world_of g.S.PlanStore.content c.args.desk.now) _ w
          after
          c.in-Answered.status c.in-Answered.framed first served
          (not_500 c.in-Answered.status (sym c.is_server_error.ensures ∙ c.if-is_server_error.false))
          c.if-not-framed.false;
      settled = λ p h. kept.kept p
          (not_500 c.in-Answered.status (sym c.is_server_error.ensures ∙ c.if-is_server_error.false))
          (c.loop-before.invariant.settled (was_honest c.serve_one.ensures.remembered.doubt p) h);
      doubt = omega (arith, c.loop-before.invariant.doubt, c.serve_one.ensures.remembered.doubt);
      grown = grows_more (g.W.Write.contents c.args.output.now) (g.W.Write.contents c.loop-before.output)
          (g.W.Write.contents c.serve_one.new.output) served.answer c.loop-before.invariant.grown
          served.written;
      counted = omega (arith, c.loop-before.invariant.counted, c.serve_one.ensures.remembered.counted);
      shield = λ s. c.serve_one.ensures.remembered.shield (c.loop-before.invariant.shield s);
    }

-- what is found is what was settled, or that with one request more
pub returns-in-Err-clause-kept : goal.returns-in-Err-clause-kept
returns-in-Err-clause-kept g c = λ p settled found may.
    let honest = IsHonest (g.S.PlanStore.doubt c.serve_one.new.desk.store) in
    let w = world_of g.S.PlanStore.content c.loop-before.desk in
    let after = world_of g.S.PlanStore.content c.serve_one.new.desk in
    let here = c.loop-before.invariant.settled (was_honest c.serve_one.ensures.remembered.doubt p) settled in
    kept_by honest (g.R.Read.remaining c.args.input.now) (g.W.Write.contents c.args.output.now)
    (world_of g.S.PlanStore.content c.args.desk.now) c.args.moment.second p (Fault c.in-Err.fault)
    c.loop-before.before c.loop-before.before
    (g.R.Read.remaining c.loop-before.input) (g.R.Read.remaining c.serve_one.new.input)
    (g.W.Write.contents c.loop-before.output) (g.W.Write.contents c.serve_one.new.output) w after found
    (played_if (IsHonest (g.S.PlanStore.doubt c.loop-before.desk.store)) honest _ _ _ _ _ _ _ _
    (was_honest c.serve_one.ensures.remembered.doubt) c.loop-before.invariant.played)
    (refl, c.in-Err.ensures.served)
    (fault_last (g.S.PlanStore.may_leave c.loop-before.desk.store) w after _ _ found c.in-Err.fault
    (λ certain. c.in-Err.ensures.kept.kept p certain here found may) (here found)
    (c.in-Err.ensures.kept.crash p found may))

pub returns-in_default-clause-kept : goal.returns-in_default-clause-kept
returns-in_default-clause-kept g c = λ p settled found may.
    let honest = IsHonest (g.S.PlanStore.doubt c.serve_one.new.desk.store) in
    let w = world_of g.S.PlanStore.content c.loop-before.desk in
    let after = world_of g.S.PlanStore.content c.serve_one.new.desk in
    let here = c.loop-before.invariant.settled (was_honest c.serve_one.ensures.remembered.doubt p) settled in
    let is : c.in-Ok.served ≡ outcome.End = search rules in
    let served = rw is at c.in-Ok.ensures.served in
    let kept = rw is at c.in-Ok.ensures.kept in
    kept_by honest (g.R.Read.remaining c.args.input.now) (g.W.Write.contents c.args.output.now)
    (world_of g.S.PlanStore.content c.args.desk.now) c.args.moment.second p End
    c.loop-before.before c.loop-before.before
    (g.R.Read.remaining c.loop-before.input) (g.R.Read.remaining c.serve_one.new.input)
    (g.W.Write.contents c.loop-before.output) (g.W.Write.contents c.serve_one.new.output) w after found
    (played_if (IsHonest (g.S.PlanStore.doubt c.loop-before.desk.store)) honest _ _ _ _ _ _ _ _
    (was_honest c.serve_one.ensures.remembered.doubt) c.loop-before.invariant.played)
    (refl, served.0, served.1)
    (kept.kept p tt here found may)

pub returns-then-is_server_error-clause-kept : goal.returns-then-is_server_error-clause-kept
returns-then-is_server_error-clause-kept g c = λ p settled found may.
    let honest = IsHonest (g.S.PlanStore.doubt c.serve_one.new.desk.store) in
    let w = world_of g.S.PlanStore.content c.loop-before.desk in
    let after = world_of g.S.PlanStore.content c.serve_one.new.desk in
    let here = c.loop-before.invariant.settled (was_honest c.serve_one.ensures.remembered.doubt p) settled in
    let served = rw c.in-Answered.is at c.in-Ok.ensures.served in
    kept_by honest (g.R.Read.remaining c.args.input.now) (g.W.Write.contents c.args.output.now)
    (world_of g.S.PlanStore.content c.args.desk.now) c.args.moment.second p Broken
    c.loop-before.before (c.loop-before.before + 1)
    (g.R.Read.remaining c.loop-before.input) (g.R.Read.remaining c.serve_one.new.input)
    (g.W.Write.contents c.loop-before.output) (g.W.Write.contents c.serve_one.new.output) w after found
    (played_if (IsHonest (g.S.PlanStore.doubt c.loop-before.desk.store)) honest _ _ _ _ _ _ _ _
    (was_honest c.serve_one.ensures.remembered.doubt) c.loop-before.invariant.played) (
      refl,
      broken_next honest _ _ _ _ w _ after c.in-Answered.status c.in-Answered.framed served
          (is_500 c.in-Answered.status (sym c.is_server_error.ensures ∙ c.if-is_server_error.true)),
    )
    (old_or_next (g.S.PlanStore.may_leave c.loop-before.desk.store) w _ _ found (here found)
    (c.in-Ok.ensures.kept.crash p found may))

pub returns-then-not-framed-clause-kept : goal.returns-then-not-framed-clause-kept
returns-then-not-framed-clause-kept g c = λ p settled found may.
    let honest = IsHonest (g.S.PlanStore.doubt c.serve_one.new.desk.store) in
    let w = world_of g.S.PlanStore.content c.loop-before.desk in
    let after = world_of g.S.PlanStore.content c.serve_one.new.desk in
    let here = c.loop-before.invariant.settled (was_honest c.serve_one.ensures.remembered.doubt p) settled in
    let served = rw c.in-Answered.is at c.in-Ok.ensures.served in
    let kept = rw c.in-Answered.is at c.in-Ok.ensures.kept in
    let other = not_500 c.in-Answered.status (sym c.is_server_error.ensures ∙ c.if-is_server_error.false) in
    kept_by honest (g.R.Read.remaining c.args.input.now) (g.W.Write.contents c.args.output.now)
    (world_of g.S.PlanStore.content c.args.desk.now) c.args.moment.second p Unframed
    c.loop-before.before (c.loop-before.before + 1)
    (g.R.Read.remaining c.loop-before.input) (g.R.Read.remaining c.serve_one.new.input)
    (g.W.Write.contents c.loop-before.output) (g.W.Write.contents c.serve_one.new.output) w after found
    (played_if (IsHonest (g.S.PlanStore.doubt c.loop-before.desk.store)) honest _ _ _ _ _ _ _ _
    (was_honest c.serve_one.ensures.remembered.doubt) c.loop-before.invariant.played) (
      refl,
      record {
        status = c.in-Answered.status;
        served = rw c.if-not-framed.true at served;
        answered = other;
      },
    )
    (kept.kept p other here found may)

pub returns-clause-kept : goal.returns-clause-kept
returns-clause-kept g c = λ p settled found may.
    let honest = IsHonest (g.S.PlanStore.doubt c.loop-before.desk.store) in
    let w = world_of g.S.PlanStore.content c.loop-before.desk in
    let count : 1000000 ≡ c.loop-before.before =
    omega (arith, c.loop-before-test.false, c.loop-before.auto.before-end) in
    kept_by honest (g.R.Read.remaining c.args.input.now) (g.W.Write.contents c.args.output.now)
    (world_of g.S.PlanStore.content c.args.desk.now) c.args.moment.second p Limit
    c.loop-before.before 1000000
    (g.R.Read.remaining c.loop-before.input) (g.R.Read.remaining c.loop-before.input)
    (g.W.Write.contents c.loop-before.output) (g.W.Write.contents c.loop-before.output) w w found
    c.loop-before.invariant.played (
      count,
      sym count,
      record {
        written = Keeps-refl (g.W.Write.contents c.loop-before.output);
        left = refl;
      },
    )
    (c.loop-before.invariant.settled p settled found may)

-- why the desk failed at the last request
pub returns-then-is_server_error-clause-cause : goal.returns-then-is_server_error-clause-cause
returns-then-is_server_error-clause-cause g c = λ broken.
    let failed = rw c.in-Answered.is at c.in-Ok.ensures.cause in
    failed_last (g.W.Write.contents c.args.output.now) (g.W.Write.contents c.loop-before.output)
    (g.W.Write.contents c.serve_one.new.output) (g.S.PlanStore.faults c.args.desk.now.store)
    (g.S.PlanStore.faults c.loop-before.desk.store) (g.S.PlanStore.faults c.serve_one.new.desk.store)
    c.loop-before.invariant.grown c.loop-before.invariant.counted
    (failed (is_500 c.in-Answered.status (sym c.is_server_error.ensures ∙ c.if-is_server_error.true)))
