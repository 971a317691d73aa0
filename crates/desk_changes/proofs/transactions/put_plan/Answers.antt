use Rattle.std.proofs.Common.{arith, length, map, rules}
use Rattle.sqlite.specs.State.{HasCleanDisk}
use Rattle.sqlite.specs.Held.{state}
use Rattle.desk_changes.specs.RowChanges.{cover_of, span_row_in, volume_row_in, plan_put, AreNewSpans, AreNewVolumes, IsPuttable, TakesRoom}
use Rattle.desk_sql.specs.Effects.{Makes}
use Rattle.desk_sql.specs.Rows.{RemovesPlan}
use Rattle.desk_changes.proofs.PutSteps.{before, plan_in_turn, spans_in_turn, volumes_in_turn}
use Rattle.desk_changes.proofs.transactions.put_plan.Goals as goal

pub returns-in_err-insert_plan : goal.returns-in_err-insert_plan
returns-in_err-insert_plan g c = search (rules, plan_in_turn)

pub returns-in_err-insert_volumes : goal.returns-in_err-insert_volumes
returns-in_err-insert_volumes g c =
    let plan = c.args.plan in
    let volumes = map volume_row_in c.args.volumes.now in
    let covers = map cover_of c.args.volumes.now in
    let spans = map span_row_in c.args.spans.now in
    let begun = c.transaction-tx.result.conn.now in
    let cut = before c.insert_plan.ensures.changed.remembered in
    let planned = c.insert_plan.new.tx.conn.now in
    let removed : HasCleanDisk (state g.S.Store cut)
    → Makes g.S.Store begun cut (RemovesPlan plan.operator.now plan.id.now) = search rules in
    let room : HasCleanDisk (state g.S.Store cut)
    → TakesRoom 0 0 0 (state g.S.Store begun).now.trees (state g.S.Store cut).now.trees = search rules in
    let fits : IsPuttable (plan_put plan c.args.volumes.now c.args.spans.now)
    (state g.S.Store c.args.connection.now).now → HasCleanDisk (state g.S.Store planned)
    → AreNewVolumes volumes covers (state g.S.Store planned).now = λ put clean.
    let early : HasCleanDisk (state g.S.Store cut) =
    omega (arith, c.insert_plan.ensures.changed.remembered.doubt, clean) in
    volumes_in_turn g.S.Store c.args.connection.now begun cut plan.operator.now plan.id.now plan.priority
    plan.usage plan.aircraft volumes covers spans c.transaction-tx.ensures.begun put (removed early)
    (room early)
    planned (c.in_ok-insert_plan.ensures.changed.done clean) (c.in_ok-insert_plan.ensures.changed.room clean)
    in
    search (rules, fits)

pub returns-in_err-insert_spans : goal.returns-in_err-insert_spans
returns-in_err-insert_spans g c =
    let plan = c.args.plan in
    let volumes = map volume_row_in c.args.volumes.now in
    let covers = map cover_of c.args.volumes.now in
    let spans = map span_row_in c.args.spans.now in
    let begun = c.transaction-tx.result.conn.now in
    let cut = before c.insert_plan.ensures.changed.remembered in
    let planned = c.insert_plan.new.tx.conn.now in
    let removed : HasCleanDisk (state g.S.Store cut)
    → Makes g.S.Store begun cut (RemovesPlan plan.operator.now plan.id.now) = search rules in
    let room : HasCleanDisk (state g.S.Store cut)
    → TakesRoom 0 0 0 (state g.S.Store begun).now.trees (state g.S.Store cut).now.trees = search rules in
    let filled = c.insert_volumes.new.tx.conn.now in
    let fits : IsPuttable (plan_put plan c.args.volumes.now c.args.spans.now)
    (state g.S.Store c.args.connection.now).now → HasCleanDisk (state g.S.Store filled)
    → AreNewSpans spans (state g.S.Store filled).now = λ put clean.
    let mid : HasCleanDisk (state g.S.Store planned) =
    omega (arith, c.insert_volumes.ensures.changed.remembered.doubt, clean) in
    let early : HasCleanDisk (state g.S.Store cut) =
    omega (arith, c.insert_plan.ensures.changed.remembered.doubt, mid) in
    spans_in_turn g.S.Store c.args.connection.now begun cut plan.operator.now plan.id.now plan.priority
    plan.usage plan.aircraft volumes covers spans c.transaction-tx.ensures.begun put (removed early)
    (room early)
    planned (c.in_ok-insert_plan.ensures.changed.done mid) (c.in_ok-insert_plan.ensures.changed.room mid)
    (length c.args.volumes.now) filled (c.in_ok-insert_volumes.ensures.changed.done clean)
    (c.in_ok-insert_volumes.ensures.changed.room clean) in
    search (rules, fits)
