use Rattle.std.proofs.Common.{sym, subst}
use Rattle.table_load.specs.Opening.{BeginsWith}
use Rattle.table_load.specs.OpeningSteps.{IsAdopted, IsCompletedAs, LeavesShownOr}
use Rattle.table_load.proofs.lemmas.Cut.{shown_leaves}
use Rattle.desk_tables.proofs.LiftLemmas.{doubt_lifted, none_then, shield_lifted, begins_lifted, blames_lifted, kept_lifted, none_lifted, older_lifted}
use Rattle.desk_tables.proofs.store.SqliteStore.adopt.Goals as goal

pub returns-in-Ok-clause-adopted : goal.returns-in-Ok-clause-adopted
returns-in-Ok-clause-adopted g c =
    let opened = c.in-Ok.ensures.opened in
    let is = c.set_step_limit.ensures in
    let old = c.args.connection in
    let mid = c.set_step_limit.new.self in
    let new = c.load_world.new.connection in
    subst (λ s. IsAdopted g.S.Store old s.held s.world) (sym c.with.ensures.value) (record {
      live = opened.live;
      left = c.with.ensures.left;
      unlimited = opened.stands.unlimited;
      doubt = doubt_lifted g.S.Store old mid new is opened.doubt;
      shield = shield_lifted g.S.Store old mid new is opened.shield;
    })

pub returns-in-Ok-clause-begins : goal.returns-in-Ok-clause-begins
returns-in-Ok-clause-begins g c =
    subst (λ s. BeginsWith g.S.Store c.args.connection s.held s.world) (sym c.with.ensures.value)
    (begins_lifted g.S.Store c.args.connection c.set_step_limit.new.self c.load_world.new.connection
    c.set_step_limit.ensures _ c.in-Ok.ensures.opened.begins)

pub returns-in-Err-clause-refused : goal.returns-in-Err-clause-refused
returns-in-Err-clause-refused g c =
    let opened = c.in-Err.ensures.opened in
    let is = c.set_step_limit.ensures in
    let old = c.args.connection in
    let mid = c.set_step_limit.new.self in
    let new = c.load_world.new.connection in
    record {
      none = λ reported. none_lifted g.S.Store old mid new is (opened.none reported);
      older = λ reported. older_lifted g.S.Store old mid new is (opened.older reported);
      cause = blames_lifted g.S.Store old mid new is _ opened.cause;
      kept = kept_lifted g.S.Store old mid new is opened.kept;
      unlimited = none_then g.S.Store old mid new is opened.limit;
      doubt = doubt_lifted g.S.Store old mid new is opened.doubt;
    }

pub returns-in-Ok-clause-cut : goal.returns-in-Ok-clause-cut
returns-in-Ok-clause-cut g c =
    let old = c.args.connection in
    subst (λ s. LeavesShownOr g.S.Store old s.held IsCompletedAs) (sym c.with.ensures.value)
    (shown_leaves g.S.Store IsCompletedAs old c.set_step_limit.new.self c.load_world.new.connection
    c.set_step_limit.ensures (c.committed_and_sound.ensures.settled c.requires.settled)
    (λ live db may. g.met.S.Store.settled old.store db live may) c.load_world.ensures.crash)

pub returns-in-Err-clause-cut : goal.returns-in-Err-clause-cut
returns-in-Err-clause-cut g c =
    let old = c.args.connection in
    shown_leaves g.S.Store IsCompletedAs old c.set_step_limit.new.self c.load_world.new.connection
    c.set_step_limit.ensures (c.committed_and_sound.ensures.settled c.requires.settled)
    (λ live db may. g.met.S.Store.settled old.store db live may) c.load_world.ensures.crash
