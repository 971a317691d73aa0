use Rattle.std.proofs.Common.{◌+◌, take, subst, sym}
use Rattle.row_codec.specs.RowsRead.{is_asked}
use Rattle.desk_tables.proofs.AskingLemmas.{IsAsking, asking_begins, asking_on}
use Rattle.desk_tables.proofs.tables.DeskTables.query_all.Goals as goal

pub loop-query-init : goal.loop-query-init
loop-query-init g c =
    asking_begins g.S.Store (is_asked c.args.wanted.now c.args.extent.now) c.args.self.now
    c.new-helds.result.items c.allocator.ensures c.new-helds.ensures.items

pub loop-query-preserved : goal.loop-query-preserved
loop-query-preserved g c =
    let want = is_asked c.args.wanted.now c.args.extent.now in
    let read = c.in_ok-more.ensures.read in
    subst (IsAsking g.S.Store c.args.self.now c.query_one.new.self want
    (take (c.loop-query.query-index + 1) c.args.queries.now)) (sym c.in_ok-append.ensures.items)
    (asking_on g.S.Store want c.args.self.now c.loop-query.self c.query_one.new.self c.args.queries.now
    c.loop-query.query-index (record { first = 0; last = 0 }) c.loop-query.helds.items
    c.in_ok-more.more.items c.loop-query.invariant read.same read.reads c.loop-query-test.true
    c.in_ok-more.ensures.open read.value)
