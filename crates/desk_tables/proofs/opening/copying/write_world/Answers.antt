use Rattle.std.proofs.Common.{arith, rules}
use Rattle.sqlite.specs.State.{HasCleanDisk}
use Rattle.sqlite.specs.Held.{state}
use Rattle.desk_store.specs.World.{World}
use Rattle.table_load.specs.Opening.{AreNewHeads, AreNewOperators, AreWritable}
use Rattle.desk_tables.proofs.FillLemmas.{heads_new, operators_new, plans_new}
use Rattle.desk_tables.proofs.opening.copying.write_world.Goals as goal

pub returns-in_err-write_operators-clause-cause : goal.returns-in_err-write_operators-clause-cause
returns-in_err-write_operators-clause-cause g c can =
    let w : World = record { operators = c.args.operators.now; plans = c.args.plans.now } in
    let old = c.args.tx.now.conn.now in
    let fits : HasCleanDisk (state g.S.Store old) → AreNewOperators w.operators (state g.S.Store old).now =
    λ clean. operators_new w (state g.S.Store old).now (can clean) in
    search (rules, fits)

pub returns-in_err-write_heads-clause-cause : goal.returns-in_err-write_heads-clause-cause
returns-in_err-write_heads-clause-cause g c can =
    let w : World = record { operators = c.args.operators.now; plans = c.args.plans.now } in
    let old = c.args.tx.now.conn.now in
    let mid = c.write_operators.new.tx.conn.now in
    let fits : HasCleanDisk (state g.S.Store mid) → AreNewHeads w.plans (state g.S.Store mid).now =
    λ clean.
    let early : HasCleanDisk (state g.S.Store old) =
    omega (arith, c.write_operators.ensures.remembered.doubt, clean) in
    heads_new w (state g.S.Store old).now (can early) (state g.S.Store mid).now
    (c.in_ok-write_operators.ensures.done clean).changed in
    search (rules, fits)

pub returns-clause-cause : goal.returns-clause-cause
returns-clause-cause g c can =
    let w : World = record { operators = c.args.operators.now; plans = c.args.plans.now } in
    let old = c.args.tx.now.conn.now in
    let mid = c.write_operators.new.tx.conn.now in
    let next = c.write_heads.new.tx.conn.now in
    let fits : HasCleanDisk (state g.S.Store next) → AreWritable w.plans (state g.S.Store next).now =
    λ clean.
    let later : HasCleanDisk (state g.S.Store mid) =
    omega (arith, c.write_heads.ensures.remembered.doubt, clean) in
    let early : HasCleanDisk (state g.S.Store old) =
    omega (arith, c.write_operators.ensures.remembered.doubt, later) in
    plans_new w (state g.S.Store old).now (can early) (state g.S.Store mid).now
    (c.in_ok-write_operators.ensures.done later).changed c.covers_are_few.ensures (state g.S.Store next).now
    (c.in_ok-write_heads.ensures.done clean).changed in
    search (rules, fits)
