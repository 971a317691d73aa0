use Rattle.std.proofs.Common.{sym, subst}
use Rattle.table_load.specs.Moving.{BeginsMoved}
use Rattle.table_load.specs.OpeningSteps.{IsAdopted, IsMovedOn, LeavesShownOr}
use Rattle.table_load.proofs.lemmas.Cut.{shown_leaves}
use Rattle.desk_tables.proofs.LiftLemmas.{doubt_lifted, none_then, shield_lifted, blames_lifted, keeps_lifted, moves_lifted, unmoved_lifted}
use Rattle.desk_tables.proofs.store.SqliteStore.adopt_old.Goals as goal

pub returns-in-Ok-clause-adopted : goal.returns-in-Ok-clause-adopted
returns-in-Ok-clause-adopted g c =
    let opened = c.in-Ok.ensures.opened in
    let is = c.set_step_limit.ensures in
    let old = c.args.connection in
    let mid = c.set_step_limit.new.self in
    let new = c.load_or_migrate.new.connection in
    subst (λ s. IsAdopted g.S.Store old s.held s.world) (sym c.with-store.ensures.value) (record {
      live = opened.live;
      left = c.with-store.ensures.left;
      unlimited = opened.stands.unlimited;
      doubt = doubt_lifted g.S.Store old mid new is opened.doubt;
      shield = shield_lifted g.S.Store old mid new is opened.shield;
    })

pub returns-in-Ok-clause-begins : goal.returns-in-Ok-clause-begins
returns-in-Ok-clause-begins g c =
    subst (λ s. BeginsMoved g.S.Store c.args.connection s.held s.world c.in-Ok.count)
    (sym c.with-store.ensures.value)
    (moves_lifted g.S.Store c.args.connection c.set_step_limit.new.self c.load_or_migrate.new.connection
    c.set_step_limit.ensures _ _ c.in-Ok.ensures.opened.begins)

pub returns-in-Err-clause-refused : goal.returns-in-Err-clause-refused
returns-in-Err-clause-refused g c =
    let opened = c.in-Err.ensures.opened in
    let is = c.set_step_limit.ensures in
    let old = c.args.connection in
    let mid = c.set_step_limit.new.self in
    let new = c.load_or_migrate.new.connection in
    record {
      none = λ reported. unmoved_lifted g.S.Store old mid new is (opened.none reported);
      older = opened.older;
      cause = blames_lifted g.S.Store old mid new is _ opened.cause;
      kept = keeps_lifted g.S.Store old mid new is opened.kept;
      unlimited = none_then g.S.Store old mid new is opened.limit;
      doubt = doubt_lifted g.S.Store old mid new is opened.doubt;
    }

pub returns-in-Ok-clause-cut : goal.returns-in-Ok-clause-cut
returns-in-Ok-clause-cut g c =
    let old = c.args.connection in
    subst (λ s. LeavesShownOr g.S.Store old s.held IsMovedOn) (sym c.with-store.ensures.value)
    (shown_leaves g.S.Store IsMovedOn old c.set_step_limit.new.self c.load_or_migrate.new.connection
    c.set_step_limit.ensures (c.committed_and_sound.ensures.settled c.requires.settled)
    (λ live db may. g.met.S.Store.settled old.store db live may) c.load_or_migrate.ensures.crash)

pub returns-in-Err-clause-cut : goal.returns-in-Err-clause-cut
returns-in-Err-clause-cut g c =
    let old = c.args.connection in
    shown_leaves g.S.Store IsMovedOn old c.set_step_limit.new.self c.load_or_migrate.new.connection
    c.set_step_limit.ensures (c.committed_and_sound.ensures.settled c.requires.settled)
    (λ live db may. g.met.S.Store.settled old.store db live may) c.load_or_migrate.ensures.crash
