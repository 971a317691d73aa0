use Rattle.std.proofs.Common.{refl, rules, sym, subst}
use Rattle.sqlite.specs.State.{HasCleanDisk}
use Rattle.sqlite.specs.Held.{state}
use Rattle.desk_sql.specs.Effects.{Makes, IsUnderWay, Remembers}
use Rattle.desk_store.specs.World.{World}
use Rattle.desk_tables.specs.Copying.{AddsWorldRows}
use Rattle.desk_tables.proofs.FillLemmas.{can_then}
use Rattle.desk_tables.proofs.opening.copying.fill.Goals as goal

pub write_world-requires : goal.write_world-requires
write_world-requires g c = record {
  under_way = subst (IsUnderWay g.S.Store) (sym c.transaction-tx.ensures.begun) (λ clean.
      let live = c.requires.live clean in
      (live, refl, c.requires.ready.shown clean live, (c.committed_and_sound.ensures.sound live).0));
}

pub returns-in_err-write_world-clause-cause : goal.returns-in_err-write_world-clause-cause
returns-in_err-write_world-clause-cause g c can =
    let w : World = record { operators = c.args.operators.now; plans = c.args.plans.now } in
    let there = can_then g.S.Store w c.args.connection.now c.transaction-tx.result.conn.now
    c.transaction-tx.ensures.begun can c.requires.live in
    search (rules, there)

pub returns-in_err-commit-clause-cause : goal.returns-in_err-commit-clause-cause
returns-in_err-commit-clause-cause g c can =
    let w : World = record { operators = c.args.operators.now; plans = c.args.plans.now } in
    let begun = c.transaction-tx.result.conn.now in
    let mid = c.write_world.new.tx.conn.now in
    let made : HasCleanDisk (state g.S.Store mid) → Makes g.S.Store begun mid (AddsWorldRows w) =
    c.in_ok-write_world.ensures.done in
    let kept : Remembers g.S.Store begun mid = c.write_world.ensures.remembered in
    search (rules, made, kept)
