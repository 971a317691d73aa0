use Rattle.std.proofs.Common.{◌∙◌, arith, refl, rules, IsTrue}
use Rattle.sqlite.specs.Held.{state}
use Rattle.sqlite.specs.Effect.{IsDatabase}
use Rattle.sqlite.specs.State.{HasCleanDisk}
use Rattle.desk_sql.specs.Effects.{Holds}
use Rattle.desk_sql.specs.Schema.{packed_schema, old_table_schema}
use Rattle.desk_sql.specs.Statements.{IsRefusal}
use Rattle.desk_sql.specs.Changing.{loose_schema, spanless_schema, Unpacks}
use Rattle.desk_sql.proofs.DropLemmas.{shrinks, unpacked}
use Rattle.desk_sql.proofs.DropStops.{drop_refused, old_first_drops, spans_drop, volumes_drop}
use Rattle.desk_sql.proofs.opening.unpacking.unpack.Goals as goal

pub returns-in_err-run-clause-ran : goal.returns-in_err-run-clause-ran
returns-in_err-run-clause-ran g c =
    let h0 = c.args.tx.now.conn.now in
    let h1 = c.run.new.tx.conn.now in
    let refused : Holds g.S.Store h0 IsDatabase × IsTrue h0.in_transaction → HasCleanDisk (state g.S.Store h1)
    → IsTrue (state g.S.Store h0).is_open → IsRefusal g.S.Store h0 h1 c.in_err-run.field-0.0 =
    λ fits clean live.
    let at0 : HasCleanDisk (state g.S.Store h0) = omega (arith, c.run.ensures.remembered.doubt, clean) in
    drop_refused g.S.Store packed_schema loose_schema h0 h0 h1 _ old_first_drops (omega arith)
    refl live (c.requires.at at0 live).schema (fits.0 at0 live) fits.1 _
    (c.in_err-run.ensures.stopped clean) in
    search (rules, refused)

pub returns-in_err-run-2-clause-ran : goal.returns-in_err-run-2-clause-ran
returns-in_err-run-2-clause-ran g c =
    let h0 = c.args.tx.now.conn.now in
    let h1 = c.run.new.tx.conn.now in
    let h2 = c.run-2.new.tx.conn.now in
    let first = c.run.ensures.remembered in
    let refused : Holds g.S.Store h0 IsDatabase × IsTrue h0.in_transaction → HasCleanDisk (state g.S.Store h2)
    → IsTrue (state g.S.Store h0).is_open → IsRefusal g.S.Store h0 h2 c.in_err-run-2.field-0.0 =
    λ fits clean live.
    let at1 : HasCleanDisk (state g.S.Store h1) = omega (arith, c.run-2.ensures.remembered.doubt, clean) in
    let at0 : HasCleanDisk (state g.S.Store h0) = omega (arith, first.doubt, at1) in
    let one = shrinks g.S.Store packed_schema loose_schema h0 h1 _ old_first_drops
    (λ clean live. (c.requires.at clean live).schema) at0 (c.in_ok-run.ensures.shown at1) _
    (c.in_ok-run.ensures.ran at1) in
    drop_refused g.S.Store loose_schema spanless_schema h0 h1 h2 _ spans_drop first.faults
    first.limit one.is_open one.schema one.sound one.begun _ (c.in_err-run-2.ensures.stopped clean) in
    search (rules, refused)

pub returns-in_err-run-3-clause-ran : goal.returns-in_err-run-3-clause-ran
returns-in_err-run-3-clause-ran g c =
    let h0 = c.args.tx.now.conn.now in
    let h1 = c.run.new.tx.conn.now in
    let h2 = c.run-2.new.tx.conn.now in
    let h3 = c.run-3.new.tx.conn.now in
    let first = c.run.ensures.remembered in
    let second = c.run-2.ensures.remembered in
    let refused : Holds g.S.Store h0 IsDatabase × IsTrue h0.in_transaction → HasCleanDisk (state g.S.Store h3)
    → IsTrue (state g.S.Store h0).is_open → IsRefusal g.S.Store h0 h3 c.in_err-run-3.field-0.0 =
    λ fits clean live.
    let at2 : HasCleanDisk (state g.S.Store h2) = omega (arith, c.run-3.ensures.remembered.doubt, clean) in
    let at1 : HasCleanDisk (state g.S.Store h1) = omega (arith, second.doubt, at2) in
    let at0 : HasCleanDisk (state g.S.Store h0) = omega (arith, first.doubt, at1) in
    let one = shrinks g.S.Store packed_schema loose_schema h0 h1 _ old_first_drops
    (λ clean live. (c.requires.at clean live).schema) at0 (c.in_ok-run.ensures.shown at1) _
    (c.in_ok-run.ensures.ran at1) in
    let two = shrinks g.S.Store loose_schema spanless_schema h1 h2 _ spans_drop
    (λ _ _. one.schema) at1 (c.in_ok-run-2.ensures.shown at2) _ (c.in_ok-run-2.ensures.ran at2) in
    drop_refused g.S.Store spanless_schema old_table_schema h0 h2 h3 _ volumes_drop
    (omega (arith, first.faults, second.faults)) (second.limit ∙ first.limit) two.is_open two.schema two.sound
    two.begun _ (c.in_err-run-3.ensures.stopped clean) in
    search (rules, refused)

pub returns-clause-ran : goal.returns-clause-ran
returns-clause-ran g c =
    let h0 = c.args.tx.now.conn.now in
    let h1 = c.run.new.tx.conn.now in
    let h2 = c.run-2.new.tx.conn.now in
    let h3 = c.run-3.new.tx.conn.now in
    let done : HasCleanDisk (state g.S.Store h3) → Unpacks g.S.Store h0 h3 = λ clean.
    let at2 : HasCleanDisk (state g.S.Store h2) = omega (arith, c.run-3.ensures.remembered.doubt, clean) in
    let at1 : HasCleanDisk (state g.S.Store h1) = omega (arith, c.run-2.ensures.remembered.doubt, at2) in
    let at0 : HasCleanDisk (state g.S.Store h0) = omega (arith, c.run.ensures.remembered.doubt, at1) in
    let one = shrinks g.S.Store packed_schema loose_schema h0 h1 _ old_first_drops
    (λ clean live. (c.requires.at clean live).schema) at0 (c.in_ok-run.ensures.shown at1) _
    (c.in_ok-run.ensures.ran at1) in
    let two = shrinks g.S.Store loose_schema spanless_schema h1 h2 _ spans_drop
    (λ _ _. one.schema) at1 (c.in_ok-run-2.ensures.shown at2) _ (c.in_ok-run-2.ensures.ran at2) in
    let three = shrinks g.S.Store spanless_schema old_table_schema h2 h3 _ volumes_drop
    (λ _ _. two.schema) at2 (c.in_ok-run-3.ensures.shown clean) _ (c.in_ok-run-3.ensures.ran clean) in
    unpacked g.S.Store h0 h1 h2 h3 c.requires.at at0 one two three in
    search (rules, done)
