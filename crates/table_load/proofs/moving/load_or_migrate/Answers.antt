use Rattle.table_load.proofs.lemmas.Cut.{becomes_since, becomes_weaker, spared_becomes}
use Rattle.table_load.specs.OpeningSteps.{IsCompletedAs, IsMovedAs, IsMovedOn}
use Rattle.std.proofs.Common.{Err, inl, true, rules, inr}
use Rattle.desk_sql.specs.Effects.{Holds}
use Rattle.table_load.specs.Moving.{BeginsMoved}
use Rattle.table_load.specs.Opening.{HasRowsOld}
use Rattle.table_load.proofs.lemmas.Opening.{opened_since, refused_as}
use Rattle.table_load.proofs.lemmas.Moving.{begins_unmoved, moved_after, none_unmoved}
use Rattle.table_load.proofs.moving.load_or_migrate.Goals as goal

pub returns-in_err-made-clause-opened : goal.returns-in_err-made-clause-opened
returns-in_err-made-clause-opened g c =
    let old = c.args.connection.now in
    let new = c.find_desk_tables.new.connection in
    let refused = c.in_err-made.ensures in
    refused_as g.S.Store old new c.from_residual.result _ c.from_residual.ensures.1
    (λ is. none_unmoved g.S.Store old new (refused.refused is)) refused.no_old_schema refused.cause
    (λ clean live. inl (refused.reads.kept clean live)) refused.reads.limit refused.reads.doubt
    refused.reads.shield

pub returns-then-old-clause-opened : goal.returns-then-old-clause-opened
returns-then-old-clause-opened g c =
    let mid = c.find_desk_tables.new.connection in
    let rows : Holds g.S.Store mid (HasRowsOld c.in_ok-made.made true) = search rules in
    moved_after g.S.Store c.args.connection.now mid c.migrate_tables.new.connection c.in_ok-made.made
    (λ moved. moved.0.world) (λ moved. moved.2) c.migrate_tables.result c.in_ok-made.ensures.reads
    c.in_ok-made.ensures.part rows c.migrate_tables.ensures.set_up

pub returns-in_err-kept-clause-opened : goal.returns-in_err-kept-clause-opened
returns-in_err-kept-clause-opened g c =
    let old = c.args.connection.now in
    let new = c.load_or_create.new.connection in
    let set_up = c.in_err-kept.ensures.set_up in
    let since = opened_since g.S.Store old c.find_desk_tables.new.connection new (λ found. found.0.world) _
    c.in_ok-made.ensures.reads set_up in
    refused_as g.S.Store old new c.from_residual-in_err-kept.result _ c.from_residual-in_err-kept.ensures.1
    (λ is. none_unmoved g.S.Store old new (since.none is)) set_up.newer since.cause
    (λ clean live. inl (since.kept clean live)) since.limit since.doubt since.shield

pub returns-clause-opened : goal.returns-clause-opened
returns-clause-opened g c =
    let old = c.args.connection.now in
    let new = c.load_or_create.new.connection in
    let since = opened_since g.S.Store old c.find_desk_tables.new.connection new (λ found. found.0.world) _
    c.in_ok-made.ensures.reads c.in_ok-kept.ensures.set_up in
    let begins : BeginsMoved g.S.Store old new c.in_ok-kept.kept.world 0 =
    begins_unmoved g.S.Store old new c.in_ok-kept.kept.world since.begins in
    record {
      begins = begins;
      stands = since.stands;
      live = since.live;
      none = tt;
      older = tt;
      cause = tt;
      kept = tt;
      limit = since.limit;
      doubt = since.doubt;
      shield = since.shield;
    }

pub returns-clause-crash : goal.returns-clause-crash
returns-clause-crash g c =
    let a = c.args.connection.now in
    let b = c.find_desk_tables.new.connection in
    let new = c.load_or_create.new.connection in
    becomes_since g.S.Store IsMovedOn a b new c.find_desk_tables.ensures.reads c.load_or_create.ensures.set_up.doubt
    (becomes_weaker g.S.Store IsMovedOn IsCompletedAs (λ was db it. inl it) b new c.load_or_create.ensures.crash)

pub returns-in_err-kept-clause-crash : goal.returns-in_err-kept-clause-crash
returns-in_err-kept-clause-crash g c =
    let a = c.args.connection.now in
    let b = c.find_desk_tables.new.connection in
    let new = c.load_or_create.new.connection in
    becomes_since g.S.Store IsMovedOn a b new c.find_desk_tables.ensures.reads c.load_or_create.ensures.set_up.doubt
    (becomes_weaker g.S.Store IsMovedOn IsCompletedAs (λ was db it. inl it) b new c.load_or_create.ensures.crash)

pub returns-then-old-clause-crash : goal.returns-then-old-clause-crash
returns-then-old-clause-crash g c =
    let a = c.args.connection.now in
    let b = c.find_desk_tables.new.connection in
    let new = c.migrate_tables.new.connection in
    becomes_since g.S.Store IsMovedOn a b new c.find_desk_tables.ensures.reads c.migrate_tables.ensures.set_up.doubt
    (becomes_weaker g.S.Store IsMovedOn IsMovedAs (λ was db it. inr it) b new c.migrate_tables.ensures.crash)

pub returns-in_err-made-clause-crash : goal.returns-in_err-made-clause-crash
returns-in_err-made-clause-crash g c =
    spared_becomes g.S.Store IsMovedOn c.args.connection.now c.find_desk_tables.new.connection
    c.find_desk_tables.ensures.reads.spared
