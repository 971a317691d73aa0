use Rattle.std.proofs.Common.{List, IsTrue, IfErr, OnOk, rules, arith}
use Rattle.sqlite.specs.Values.{bound}
use Rattle.sqlite.specs.Order.{Row}
use Rattle.sqlite.specs.State.{HasCleanDisk, Shown}
use Rattle.sqlite.specs.Held.{state}
use Rattle.desk_sql.specs.Effects.{Spares, StaysShown, OnlyReads}
use Rattle.desk_sql.specs.Statements.{IsRefusal}
use Rattle.desk_sql.specs.Queries.{IsTakenInPart}
use Rattle.desk_sql.proofs.AskLemmas.{plain_if, refused_unprepared}
use Rattle.desk_sql.proofs.HandLemmas.{cut_short, refused_begun}
use Rattle.desk_sql.proofs.lemmas.Leaving.{begun_after, plain_text, was_prepared, handed_after, kept_after, kept_refused, spared_handed, reads_unprepared, reads_prepared, reads_handed}
use Rattle.desk_sql.proofs.lemmas.Read.{if_either, unprepared}
use Rattle.desk_sql.proofs.TakingLemmas.{begun, open_on, live_handed, taken_fresh}
use Rattle.desk_sql.proofs.reading.taking.visit_rows.Goals as goal

-- the query is refused
pub returns-in_err-statement-clause-answers : goal.returns-in_err-statement-clause-answers
returns-in_err-statement-clause-answers g c =
    let old = c.args.connection.now in
    let new = c.prepare.new.self in
    let kept : StaysShown g.S.Store old new = λ clean live.
    (if_either g.S.Store old new (c.committed_and_sound.ensures.settled c.requires.ready.settled)
    live (unprepared _ _ _ _ _ (c.in_err-statement.ensures.err clean (bound c.args.params.now)))) in
    let reads : OnlyReads g.S.Store old new =
    reads_unprepared g.S.Store old new kept (c.prepare.ensures.mode c.requires.ready.settled)
    c.prepare.ensures.survives in
    let refused : HasCleanDisk (state g.S.Store new) → IsTrue (state g.S.Store new).is_open
    → IsRefusal g.S.Store old new c.in_err-statement.field-0.0 = λ clean live.
    (refused_unprepared g.S.Store old new c.args.sql.now (bound c.args.params.now) c.requires.ready.shown
    (omega (arith, c.prepare.ensures.survives.clean, clean)) _
    (c.in_err-statement.ensures.err clean (bound c.args.params.now)) live) in
    search (rules, reads, refused)

pub returns-in_err-rows-clause-answers : goal.returns-in_err-rows-clause-answers
returns-in_err-rows-clause-answers g c =
    let old = c.args.connection.now in
    let mid = c.prepare.new.self in
    let new = c.query_prepared.follows.lender-at-none in
    let sql = c.args.sql.now in
    let text = c.in_ok-statement.statement.text in
    let params = bound c.args.params.now in
    let settled = c.committed_and_sound.ensures.settled c.requires.ready.settled in
    let begins = rw c.in_err-rows.was at c.query_prepared.follows.holds-at-none in
    let plain = plain_if g.S.Store old sql params c.requires.ready.shown in
    let kept : StaysShown g.S.Store old new = λ clean live.
    (kept_refused g.S.Store sql text params old mid plain c.in_ok-statement.ensures.ok
    c.prepare.ensures.survives new begins.survives clean settled live _ (begins.err clean)) in
    let reads : OnlyReads g.S.Store old new = reads_prepared g.S.Store old mid new _ kept
    (begins.mode (c.prepare.ensures.mode c.requires.ready.settled))
    (spared_handed g.S.Store sql text params old mid plain c.in_ok-statement.ensures.ok
    c.prepare.ensures.survives new begins.survives) c.prepare.ensures.survives begins.survives in
    let refused : HasCleanDisk (state g.S.Store new) → IsTrue (state g.S.Store new).is_open
    → IsRefusal g.S.Store old new c.in_err-rows.field-0.0 = λ clean live.
    (let early : HasCleanDisk (state g.S.Store mid) = omega (arith, begins.survives.clean, clean) in
    let prepared = c.in_ok-statement.ensures.ok early in
    refused_begun g.S.Store sql params old c.requires.ready.shown mid text prepared.0 prepared.1
    c.prepare.ensures.survives (omega (arith, c.prepare.ensures.survives.clean, early)) new _
    (begins.err clean) live) in
    search (rules, reads, refused)

pub visit_all-requires : goal.visit_all-requires
visit_all-requires g c clean =
    let old = c.args.connection.now in
    let sql = c.args.sql.now in
    let params = bound c.args.params.now in
    (begun_after g.S.Store sql c.in_ok-statement.statement.text params old c.prepare.new.self
    (plain_if g.S.Store old sql params c.requires.ready.shown) c.in_ok-statement.ensures.ok
    c.prepare.ensures.survives c.in_ok-rows.rows.conn.now clean c.in_ok-rows.ensures.survives
    (c.in_ok-rows.ensures.begun clean)).0.is_open

-- its rows are handed over, or not all of them
pub returns-clause-answers : goal.returns-clause-answers
returns-clause-answers g c =
    let old = c.args.connection.now in
    let mid = c.prepare.new.self in
    let first = c.in_ok-rows.rows.conn.now in
    let new = c.visit_all.new.rows.conn.now in
    let sql = c.args.sql.now in
    let text = c.in_ok-statement.statement.text in
    let params = bound c.args.params.now in
    let has = g.T.RowVisitor.has_taken c.visit_all.new.visitor in
    let begins = c.in_ok-rows.ensures in
    let survives = begins.survives in
    let settled = c.committed_and_sound.ensures.settled c.requires.ready.settled in
    let plain = plain_if g.S.Store old sql params c.requires.ready.shown in
    let early : HasCleanDisk (state g.S.Store new) → HasCleanDisk (state g.S.Store first) = λ clean.
    omega (arith, clean, c.visit_all.ensures.handed.remembered.doubt) in
    let start : HasCleanDisk (state g.S.Store new) → HasCleanDisk (state g.S.Store old) = λ clean.
    omega (arith, early clean, survives.clean, c.prepare.ensures.survives.clean) in
    let value : HasCleanDisk (state g.S.Store new) → OnOk c.visit_all.result ((all : List Row)
    × Shown sql params (state g.S.Store old) (state g.S.Store new) all × has all) = λ clean.
    (handed_after g.S.Store sql text params old mid plain c.in_ok-statement.ensures.ok
    c.prepare.ensures.survives first (early clean) survives (begins.begun (early clean)) new
    (g.T.RowVisitor.has_taken c.args.visitor.now) has c.requires.fresh c.visit_all.result
    (c.visit_all.ensures.handed.handed clean)) in
    let cause : HasCleanDisk (state g.S.Store new) → IsTrue (state g.S.Store new).is_open
    → IfErr c.visit_all.result (IsTakenInPart g.S.Store old new
    (Shown sql params (state g.S.Store old) (state g.S.Store new)) g.T.RowVisitor.refuses) = λ clean live.
    (let here : HasCleanDisk (state g.S.Store mid) = omega (arith, early clean, survives.clean) in
    let prepared = c.in_ok-statement.ensures.ok here in
    let given = begun g.S.Store text params mid
    (plain_text g.S.Store sql text params old mid plain c.in_ok-statement.ensures.ok
    c.prepare.ensures.survives here) first (begins.begun (early clean)) in
    cut_short g.S.Store sql params old c.requires.ready.shown mid text prepared.0 prepared.1
    c.prepare.ensures.survives (start clean) first new given.0 given.1 survives.counts survives.limit
    g.T.RowVisitor.refuses live (g.T.RowVisitor.has_taken c.args.visitor.now) c.requires.fresh c.visit_all.result
    (c.visit_all.ensures.handed.cause clean)) in
    let kept : StaysShown g.S.Store old new = λ clean live.
    (kept_after g.S.Store sql text params old mid plain c.in_ok-statement.ensures.ok
    c.prepare.ensures.survives first (early clean) survives
    (begins.begun (early clean)) new settled live (c.visit_all.ensures.handed.left clean)) in
    let spared : Spares g.S.Store old first =
    spared_handed g.S.Store sql text params old mid plain c.in_ok-statement.ensures.ok
    c.prepare.ensures.survives first survives in
    let reads : OnlyReads g.S.Store old new =
    reads_handed g.S.Store old mid first new _ kept
    (c.visit_all.ensures.handed.mode (begins.mode (c.prepare.ensures.mode c.requires.ready.settled))) spared
    c.prepare.ensures.survives survives c.visit_all.ensures.handed.remembered in
    search (rules, value, cause, reads)

pub returns-clause-open : goal.returns-clause-open
returns-clause-open g c =
    let old = c.args.connection.now in
    let first = c.in_ok-rows.rows.conn.now in
    let new = c.visit_all.new.rows.conn.now in
    let sql = c.args.sql.now in
    let params = bound c.args.params.now in
    let it : HasCleanDisk (state g.S.Store new) → OnOk c.visit_all.result
    (IsTrue (state g.S.Store old).is_open) = λ clean.
    (let early : HasCleanDisk (state g.S.Store first) =
    omega (arith, clean, c.visit_all.ensures.handed.remembered.doubt) in
    open_on c.visit_all.result (state g.S.Store old)
    (was_prepared g.S.Store sql c.in_ok-statement.statement.text params old c.prepare.new.self
    (plain_if g.S.Store old sql params c.requires.ready.shown) c.in_ok-statement.ensures.ok
    c.prepare.ensures.survives first early c.in_ok-rows.ensures.survives
    (c.in_ok-rows.ensures.begun early))) in
    search rules

-- the connection is open then
pub returns-clause-live : goal.returns-clause-live
returns-clause-live g c =
    let old = c.args.connection.now in
    let mid = c.prepare.new.self in
    let first = c.in_ok-rows.rows.conn.now in
    let new = c.visit_all.new.rows.conn.now in
    let sql = c.args.sql.now in
    let params = bound c.args.params.now in
    let has = g.T.RowVisitor.has_taken c.visit_all.new.visitor in
    let begins = c.in_ok-rows.ensures in
    let plain = plain_if g.S.Store old sql params c.requires.ready.shown in
    let it : OnOk c.visit_all.result (HasCleanDisk (state g.S.Store new)
    → IsTrue (state g.S.Store new).is_open) =
    live_handed g.S.Store old new sql params has c.visit_all.result (λ clean.
    (let early : HasCleanDisk (state g.S.Store first) =
    omega (arith, clean, c.visit_all.ensures.handed.remembered.doubt) in
    handed_after g.S.Store sql c.in_ok-statement.statement.text params old mid plain
    c.in_ok-statement.ensures.ok c.prepare.ensures.survives first early begins.survives
    (begins.begun early) new (g.T.RowVisitor.has_taken c.args.visitor.now) has c.requires.fresh c.visit_all.result
    (c.visit_all.ensures.handed.handed clean))) in
    search (rules, it)

-- and the taker has taken some rows, whatever the disk did
pub returns-clause-taken : goal.returns-clause-taken
returns-clause-taken g c =
    taken_fresh (g.T.RowVisitor.has_taken c.args.visitor.now) (g.T.RowVisitor.has_taken c.visit_all.new.visitor)
    c.requires.fresh c.visit_all.result c.visit_all.ensures.taken
