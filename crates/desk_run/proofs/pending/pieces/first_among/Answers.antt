use Rattle.std.proofs.Common.{refl, sym, ◌∙◌, subst, arith}
use Rattle.std.proofs.lemmas.Result.{IfOk-weaker}
use Rattle.desk_store.specs.World.{plans_of, held, held_at}
use Rattle.desk_run.specs.HeldAmong.{IsFirstBlockedAt, IsFirstAmong}
use Rattle.desk_run.proofs.PieceLemmas.{NoneBlockedBefore, begins, met, passed, ended}
use Rattle.desk_run.proofs.pending.pieces.first_among.Goals as goal

pub loop-piece-init : goal.loop-piece-init
loop-piece-init g c =
    let w = g.S.PlanStore.content c.args.store.now in
    let operator = c.args.operator.now in
    let levels = held_at (plans_of operator w) (held w operator) c.args.id.now in
    record {
      before = λ honest.
          subst (NoneBlockedBefore c.args.permitted.now levels c.args.priority c.args.slabs.now)
          (sym c.piece_from-piece.ensures.begins)
          (begins c.args.permitted.now levels c.args.priority c.args.slabs.now c.bounds_of-whole.result
          c.piece_from-piece.result c.bounds_of-whole.ensures.has);
      same = refl;
      crash = λ honest found may. may;
      doubt = omega arith;
      counted = omega arith;
      shield = λ s. s;
    }

pub returns-then-is_some-clause-value : goal.returns-then-is_some-clause-value
returns-then-is_some-clause-value g c = λ honest.
    let w = g.S.PlanStore.content c.args.store.now in
    let operator = c.args.operator.now in
    let id = c.args.id.now in
    let permitted = c.args.permitted.now in
    let slabs = c.args.slabs.now in
    let priority = c.args.priority in
    let levels = held_at (plans_of operator w) (held w operator) id in
    let so_far = c.loop-piece.invariant in
    let piece = c.loop-piece.piece in
    let meeting = c.in_ok-meeting.meeting in
    met permitted levels priority slabs c.bounds_of-whole.result piece c.bounds_of-whole.ensures.has
    (so_far.before (omega (arith, honest, c.in_ok-meeting.ensures.reads.doubt))) meeting
    (sym c.if-is_some.ensures)
    (subst (λ v. IsFirstBlockedAt permitted v operator id slabs piece priority meeting) so_far.same
    (c.in_ok-meeting.ensures.value honest))

pub loop-piece-preserved : goal.loop-piece-preserved
loop-piece-preserved g c =
    let w = g.S.PlanStore.content c.args.store.now in
    let operator = c.args.operator.now in
    let id = c.args.id.now in
    let permitted = c.args.permitted.now in
    let slabs = c.args.slabs.now in
    let priority = c.args.priority in
    let levels = held_at (plans_of operator w) (held w operator) id in
    let so_far = c.loop-piece.invariant in
    let piece = c.loop-piece.piece in
    let meeting = c.in_ok-meeting.meeting in
    record {
      before = λ honest.
          subst (NoneBlockedBefore permitted levels priority slabs) (sym c.next_piece-piece.ensures.begins)
          (passed permitted levels priority slabs c.bounds_of-whole.result piece
          c.bounds_of-whole.ensures.has
          (so_far.before (omega (arith, honest, c.in_ok-meeting.ensures.reads.doubt))) meeting
          (sym c.if-is_some.ensures)
          (subst (λ v. IsFirstBlockedAt permitted v operator id slabs piece priority meeting) so_far.same
          (c.in_ok-meeting.ensures.value honest)));
      same = c.in_ok-meeting.ensures.reads.same ∙ so_far.same;
      crash = λ honest found may.
          so_far.crash (omega (arith, honest, c.in_ok-meeting.ensures.reads.doubt)) found
          (c.in_ok-meeting.ensures.reads.crash honest found may);
      doubt = omega (arith, c.in_ok-meeting.ensures.reads.doubt, so_far.doubt);
      counted = omega (arith, c.in_ok-meeting.ensures.reads.counted, so_far.counted);
      shield = λ s. c.in_ok-meeting.ensures.reads.shield (so_far.shield s);
    }

pub returns-clause-value : goal.returns-clause-value
returns-clause-value g c = λ honest.
    let w = g.S.PlanStore.content c.args.store.now in
    let operator = c.args.operator.now in
    let id = c.args.id.now in
    let permitted = c.args.permitted.now in
    let slabs = c.args.slabs.now in
    let priority = c.args.priority in
    let levels = held_at (plans_of operator w) (held w operator) id in
    let so_far = c.loop-piece.invariant in
    let piece = c.loop-piece.piece in
    IfOk-weaker c.first_at-2.result
    (IsFirstBlockedAt permitted (g.S.PlanStore.content c.loop-piece.store) operator id slabs piece priority)
    (IsFirstAmong permitted w operator id slabs priority)
    (λ meeting first. ended permitted levels priority slabs c.bounds_of-whole.result piece
    c.bounds_of-whole.ensures.has
    (so_far.before (omega (arith, honest, c.first_at-2.ensures.reads.doubt))) c.loop-piece-test.false meeting
    (subst (λ v. IsFirstBlockedAt permitted v operator id slabs piece priority meeting) so_far.same first))
    (c.first_at-2.ensures.value honest)
