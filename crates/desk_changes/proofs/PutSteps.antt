-- Within the transaction of a put each row fits in its turn.
use Rattle.std.proofs.Common.{◌≡◌, ℕ, List, true, sym, subst}
use Rattle.sqlite.specs.Order.{Row}
use Rattle.sqlite.specs.Store.{Ghosts}
use Rattle.sqlite.specs.Held.{Held, state}
use Rattle.desk_sql.specs.Rows.{plan_row, AddsPlan, RemovesPlan}
use Rattle.desk_changes.specs.RowChanges.{AddsVolumes, AreNewSpans, AreNewVolumes, IsPuttable, TakesRoom}
use Rattle.desk_sql.specs.Changing.{FitsPlan}
use Rattle.desk_sql.specs.Effects.{Makes, Remembers}
use Rattle.desk_changes.proofs.PutStops.{plan_fits, put_of, spans_new, volumes_new}

-- the connection before a call, so that an answer needs no name of the call that came before
abbrev pub before : {S : Type 0} {g : Ghosts S} {old new : Held S} → Remembers g old new → Held S
before {S} {g} {old} {new} remembered = old

module _ {S : Type 0} (g : Ghosts S) (old begun cut : Held S) (operator id : List ℕ)
    (priority usage aircraft : ℕ) (volumes covers spans : List Row)
    (is : begun ≡ record old { in_transaction = true })
    (put : IsPuttable (put_of operator id priority usage aircraft volumes covers spans)
    (state g old).now) (removed : Makes g begun cut (RemovesPlan operator id))
    (room : TakesRoom 0 0 0 (state g begun).now.trees (state g cut).now.trees) where
  start : IsPuttable (put_of operator id priority usage aircraft volumes covers spans) (state g begun).now
  start = subst (λ h. IsPuttable (put_of operator id priority usage aircraft volumes covers spans)
      (state g h).now) (sym is) put

  pub plan_in_turn : FitsPlan operator id (plan_row operator id priority usage aircraft) (state g cut).now
  plan_in_turn = plan_fits operator id priority usage aircraft volumes covers spans (state g begun).now start
      (state g cut).now removed.changed room

  module _ (planned : Held S)
      (added : Makes g cut planned (AddsPlan (plan_row operator id priority usage aircraft)))
      (takes : TakesRoom 1 0 0 (state g cut).now.trees (state g planned).now.trees) where
    pub volumes_in_turn : AreNewVolumes volumes covers (state g planned).now
    volumes_in_turn = volumes_new operator id priority usage aircraft volumes covers spans
        (state g begun).now start (state g cut).now removed.changed room removed.desk removed.sound
        (state g planned).now added.changed takes

    pub spans_in_turn : (count : ℕ) (filled : Held S) → Makes g planned filled (AddsVolumes volumes covers)
        → TakesRoom 0 count 0 (state g planned).now.trees (state g filled).now.trees
        → AreNewSpans spans (state g filled).now
    spans_in_turn count filled more takes_more =
        spans_new operator id priority usage aircraft volumes covers spans (state g begun).now start
        (state g cut).now removed.changed room removed.desk removed.sound (state g planned).now added.changed
        takes count (state g filled).now more.changed takes_more
