use Rattle.std.proofs.Common.{arith, rules}
use Rattle.sqlite.specs.Values.{bound}
use Rattle.sqlite.specs.State.{HasCleanDisk}
use Rattle.sqlite.specs.Held.{state}
use Rattle.desk_changes.specs.RowChanges.{changes, counts, fits, takes, TextCounts, TextTakes}
use Rattle.desk_sql.specs.Effects.{IsUnderWay}
use Rattle.desk_sql.specs.Changing.{IsSureChange}
use Rattle.desk_sql.specs.Statements.{Changes, IsRefusal}
use Rattle.desk_sql.proofs.lemmas.Stop.{refused_change}
use Rattle.desk_sql.proofs.lemmas.Write.{makes, changed}
use Rattle.desk_changes.proofs.RoomTexts.{counted_so, took}
use Rattle.desk_changes.proofs.execute.execute_counted.Goals as goal

pub returns-in_err-count-clause-changed : goal.returns-in_err-count-clause-changed
returns-in_err-count-clause-changed g c =
    let old = c.args.tx.now.conn.now in
    let new = c.run.new.tx.conn.now in
    let known : IsSureChange c.text.result.now (bound c.as_slice.result.now) (fits c.args.change) =
    rw (c.as_slice.ensures, c.params.ensures) c.text.ensures.sure in
    let refused : IsUnderWay g.S.Store old → fits c.args.change (state g.S.Store old).now
    → HasCleanDisk (state g.S.Store new) → IsRefusal g.S.Store old new c.in_err-count.field-0.0 =
    λ way right clean.
    (let early : HasCleanDisk (state g.S.Store old) = omega (arith, c.run.ensures.remembered.doubt, clean) in
    refused_change g.S.Store old new _ _ _ known way early right _
    (c.in_err-count.ensures.stopped clean (way early).1)) in
    search (rules, refused)

pub returns-clause-changed : goal.returns-clause-changed
returns-clause-changed g c =
    let old = c.args.tx.now.conn.now in
    let new = c.run.new.tx.conn.now in
    let change = c.args.change in
    let early : HasCleanDisk (state g.S.Store new) → HasCleanDisk (state g.S.Store old) = λ clean.
    omega (arith, c.run.ensures.remembered.doubt, clean) in
    let known : Changes c.text.result.now (bound c.as_slice.result.now) (changes change) =
    rw (c.as_slice.ensures, c.params.ensures) c.text.ensures.changed in
    let room : TextTakes c.text.result.now (bound c.as_slice.result.now) (takes change) =
    rw (c.as_slice.ensures, c.params.ensures) c.text.ensures.room in record {
      done = λ clean. makes g.S.Store old new c.requires.desk (early clean) (changes change)
          (c.in_ok-count.ensures.shown clean)
          (λ desk. changed _ _ _ known (state g.S.Store old) (state g.S.Store new) desk c.in_ok-count.count
          (c.in_ok-count.ensures.ran clean));
      undone = λ clean. tt;
      cause = λ way right clean. tt;
      room = λ clean. took _ _ _ _ known room (state g.S.Store old) (state g.S.Store new)
          (c.requires.desk (early clean) (c.in_ok-count.ensures.shown clean).was_open)
          c.in_ok-count.count (c.in_ok-count.ensures.ran clean);
      remembered = c.run.ensures.remembered;
    }

pub returns-clause-counted : goal.returns-clause-counted
returns-clause-counted g c = λ clean.
    let old = c.args.tx.now.conn.now in
    let new = c.run.new.tx.conn.now in
    let change = c.args.change in
    let early : HasCleanDisk (state g.S.Store old) = omega (arith, c.run.ensures.remembered.doubt, clean) in
    let known : Changes c.text.result.now (bound c.as_slice.result.now) (changes change) =
    rw (c.as_slice.ensures, c.params.ensures) c.text.ensures.changed in
    let counted : TextCounts c.text.result.now (bound c.as_slice.result.now) (counts change) =
    rw (c.as_slice.ensures, c.params.ensures) c.text.ensures.counted in
    counted_so _ _ _ _ known counted (state g.S.Store old) (state g.S.Store new)
    (c.requires.desk early (c.in_ok-count.ensures.shown clean).was_open)
    c.in_ok-count.count (c.in_ok-count.ensures.ran clean)
