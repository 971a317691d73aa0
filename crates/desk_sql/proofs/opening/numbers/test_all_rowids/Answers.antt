use Rattle.std.proofs.Common.{rules, OnOk}
use Rattle.std.proofs.lemmas.Result.{on_ok_weaker}
use Rattle.desk_sql.specs.Effects.{Holds}
use Rattle.desk_sql.specs.Rows.{AreNumberedTo}
use Rattle.desk_sql.specs.Schema.{IsSchemaOf}
use Rattle.desk_sql.proofs.lemmas.Leaving.{still_held}
use Rattle.desk_sql.proofs.opening.numbers.test_all_rowids.Goals as goal

pub returns-clause-numbered : goal.returns-clause-numbered
returns-clause-numbered g c =
    let Is = IsSchemaOf c.args.made in
    let one = still_held g.S.Store _ _ Is c.test_rowids_if_made.ensures.reads c.requires.ready.shown in
    let two = still_held g.S.Store _ _ Is c.test_rowids_if_made-2.ensures.reads one in
    let three = still_held g.S.Store _ _ Is c.test_rowids_if_made-3.ensures.reads two in
    let four = still_held g.S.Store _ _ Is c.test_rowids_if_made-4.ensures.reads three in
    let five = still_held g.S.Store _ _ Is c.test_rowids_if_made-5.ensures.reads four in
    let six = still_held g.S.Store _ _ Is c.test_rowids_if_made-6.ensures.reads five in
    let seven = still_held g.S.Store _ _ Is c.test_rowids_if_made-7.ensures.reads six in
    let schema : Holds g.S.Store c.test_rowids_if_made-8.new.connection
    (λ db. IsSchemaOf c.args.made db.schema) =
    still_held g.S.Store _ _ Is c.test_rowids_if_made-8.ensures.reads seven in
    let rows : OnOk c.test_rowids_if_made-8.result
    (Holds g.S.Store c.test_rowids_if_made-8.new.connection (λ db. AreNumberedTo c.args.made db.trees)) =
    search rules in
    on_ok_weaker c.test_rowids_if_made-8.result
    (λ all clean live. record { schema = schema clean live; rows = all clean live }) rows
