use Rattle.std.proofs.Common.{◌≡◌, ◌<◌, ◌∙◌, arith}
use Rattle.sqlite.specs.State.{HasCleanDisk}
use Rattle.sqlite.specs.Held.{state}
use Rattle.desk_sql.specs.Rows.{PutsOperator, SetsOperators, is_row_by, operator_row}
use Rattle.desk_sql.specs.Changing.{HasRowids, IsShort}
use Rattle.desk_sql.specs.Statements.{IsRefusal}
use Rattle.desk_changes.proofs.BatchLemmas.{HasAdded, all_changed, refused_changed, refused_on, way_on}
use Rattle.desk_changes.proofs.EnrolLemmas.{fits_unlisted, puts_added, puts_set}
use Rattle.desk_sql.proofs.lemmas.Leaving.{remembers_then}
use Rattle.desk_changes.proofs.transactions.set_or_add_operator.Goals as goal

pub returns-then-is_set-clause-changed : goal.returns-then-is_set-clause-changed
returns-then-is_set-clause-changed g c =
    let count = c.in_ok-count in
    let was = count.ensures.changed in
    let some : 0 < count.count = omega (arith, c.if-is_set.true) in record {
      done = λ clean.
          let made = was.done clean in
          record {
            was_open = made.was_open;
            is_open = made.is_open;
            begun = made.begun;
            committed = made.committed;
            desk = made.desk;
            beside = made.beside;
            sound = made.sound;
            changed = puts_set c.args.name.now c.args.ceiling count.count _ (count.ensures.counted clean) some _
                made.changed;
          };
      undone = λ clean. tt;
      cause = λ way fits clean. tt;
      room = λ clean. tt;
      remembered = was.remembered;
    }

pub returns-in_err-insert_operator-clause-changed : goal.returns-in_err-insert_operator-clause-changed
returns-in_err-insert_operator-clause-changed g c =
    let old = c.args.tx.now.conn.now in
    let mid = c.execute_counted.new.tx.conn.now in
    let new = c.insert_operator.new.tx.conn.now in
    let name = c.args.name.now in
    let ceiling = c.args.ceiling in
    let count = c.in_ok-count in
    let was = count.ensures.changed in
    let last = c.in_err-insert_operator.ensures.changed in
    let zero : count.count ≡ 0 = omega (arith, c.if-is_set.false) in
    let added : HasAdded g.S.Store old mid (SetsOperators (is_row_by name) (operator_row name ceiling)) =
    record { remembered = was.remembered; made = was.done } in
    let refused : IsShort name × HasRowids 1 ((state g.S.Store old).now.trees 0)
    → HasCleanDisk (state g.S.Store new) → IsRefusal g.S.Store old new c.in_err-insert_operator.field-0.0 =
    λ fits clean.
    (let early : HasCleanDisk (state g.S.Store mid) = omega (arith, last.remembered.doubt, clean) in
    refused_on g.S.Store old mid new _ added _
    (last.cause (way_on g.S.Store old mid _ added)
    (fits_unlisted name ceiling count.count (state g.S.Store old).now (state g.S.Store mid).now
    (count.ensures.counted early) zero (was.done early).changed (was.room early) fits.0 fits.1) clean)) in
    let reported = c.from_residual-in_err-insert_operator in
    refused_changed g.S.Store old mid new reported.result _ reported.ensures.1 added last.remembered
    last.undone refused

pub returns-clause-changed : goal.returns-clause-changed
returns-clause-changed g c =
    let old = c.args.tx.now.conn.now in
    let mid = c.execute_counted.new.tx.conn.now in
    let new = c.insert_operator.new.tx.conn.now in
    let name = c.args.name.now in
    let ceiling = c.args.ceiling in
    let count = c.in_ok-count in
    let was = count.ensures.changed in
    let then = c.in_ok-insert_operator.ensures.changed in
    let zero : count.count ≡ 0 = omega (arith, c.if-is_set.false) in
    let joined : HasAdded g.S.Store old new (PutsOperator name ceiling) = record {
      remembered = remembers_then g.S.Store old mid new was.remembered then.remembered;
      made = λ clean.
          let early : HasCleanDisk (state g.S.Store mid) = omega (arith, then.remembered.doubt, clean) in
          let first = was.done early in
          let last = then.done clean in
          record {
            was_open = first.was_open;
            is_open = last.is_open;
            begun = last.begun;
            committed = last.committed ∙ first.committed;
            desk = last.desk;
            beside = last.beside ∙ first.beside;
            sound = last.sound;
            changed = puts_added name ceiling count.count _ (count.ensures.counted early) zero _ first.changed _
                last.changed;
          };
    } in
    all_changed g.S.Store old new joined (λ clean. tt)
