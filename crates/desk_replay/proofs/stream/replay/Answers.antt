use Rattle.std.proofs.Common.{sym, subst, arith}
use Rattle.desk_store.proofs.lemmas.Fault.{was_honest}
use Rattle.desk_run.specs.Verdicts.{world_of}
use Rattle.desk_replay.specs.Running.{AreEntriesPlayed}
use Rattle.desk_replay.proofs.RunLemmas.{no_more, none_played, one_more}
use Rattle.desk_replay.proofs.stream.replay.Goals as goal

pub loop-place-init : goal.loop-place-init
loop-place-init g c =
    let w = world_of g.S.PlanStore.content c.args.desk.now in
    record {
      played = subst (AreEntriesPlayed _ 0 _ w) (sym (c.none-progress.ensures w)) (none_played _ _ w);
      doubt = omega arith;
      counted = omega arith;
      shield = λ s. s;
    }

pub loop-place-preserved : goal.loop-place-preserved
loop-place-preserved g c = record {
  played = one_more _ _ _ _ _ _ _ _ _ (was_honest c.replay_next.ensures.remembered.doubt)
      c.saturating_add-place.ensures c.loop-place.invariant.played c.in-Ok.ensures.steps;
  doubt = omega (arith, c.loop-place.invariant.doubt, c.replay_next.ensures.remembered.doubt);
  counted = omega (arith, c.loop-place.invariant.counted, c.replay_next.ensures.remembered.counted);
  shield = λ s. c.replay_next.ensures.remembered.shield (c.loop-place.invariant.shield s);
}

pub returns-in-Err-clause-played : goal.returns-in-Err-clause-played
returns-in-Err-clause-played g c =
    no_more _ _ _ _ _ _ _ _ _ (was_honest c.replay_next.ensures.remembered.doubt) c.loop-place.invariant.played
    c.in-Err.ensures.steps

pub returns-in-Err-clause-remembered : goal.returns-in-Err-clause-remembered
returns-in-Err-clause-remembered g c = record {
  doubt = omega (arith, c.loop-place.invariant.doubt, c.replay_next.ensures.remembered.doubt);
  counted = omega (arith, c.loop-place.invariant.counted, c.replay_next.ensures.remembered.counted);
  shield = λ s. c.replay_next.ensures.remembered.shield (c.loop-place.invariant.shield s);
}
