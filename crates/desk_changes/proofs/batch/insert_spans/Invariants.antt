use Rattle.std.proofs.Common.{◌≡◌, map, take}
use Rattle.sqlite.specs.State.{HasCleanDisk}
use Rattle.sqlite.specs.Held.{state}
use Rattle.desk_changes.specs.RowChanges.{span_row_in, AddsSpans, TakesRoom}
use Rattle.desk_changes.proofs.BatchLemmas.{HasAdded}
use Rattle.desk_changes.proofs.batch.insert_spans.Given as goal

abbrev pub invariant-rows : goal.invariant-rows
invariant-rows g l = (l.tx.conn.ghost_name ≡ l.fn.tx.conn.ghost_name)
    × HasAdded g.S.Store l.fn.tx.conn.now l.tx.conn.now
    (AddsSpans (map span_row_in (take l.row-index l.rows)))
    × (HasCleanDisk (state g.S.Store l.tx.conn.now) → TakesRoom 0 0 l.row-index
    (state g.S.Store l.fn.tx.conn.now).now.trees (state g.S.Store l.tx.conn.now).now.trees)
