use Rattle.std.proofs.Common.{◌<◌, List, length, sym, subst, arith}
use Rattle.sqlite.specs.Held.{state}
use Rattle.s2_cover.specs.declared.spans.Span.{Span}
use Rattle.desk_sql.specs.Rows.{tables_of}
use Rattle.row_codec.specs.RowsRead.{HaveTakenAll, is_asked}
use Rattle.desk_tables.proofs.AskingLemmas.{both_ok}
use Rattle.desk_tables.proofs.HeldLemmas.{are_wanted}
use Rattle.desk_tables.proofs.tables.DeskTables.wanted_in_tables.Goals as goal

pub returns : goal.returns
returns g c =
    let read = c.query_all.ensures.read in
    record {
      value = λ clean.
          both_ok c.query_all.result (c.query_all.ensures.open clean) (read.value clean)
          (λ helds opened taken.
          (let wanted = c.args.wanted.now in
          let extent = c.args.extent.now in
          let queries = c.in_ok-queries.queries.items in
          let tables = tables_of (state g.S.Store c.args.self.now.held).now.trees in
          let live = opened (subst (λ (qs : List Span). 0 < length qs) (sym c.deref.ensures.value)
          c.in_ok-queries.ensures.not_empty) in
          let standing = c.allocator.ensures.standing (omega (arith, read.reads.doubt, clean)) live in
          let mine = subst (λ qs. HaveTakenAll (is_asked wanted extent) qs tables.spans helds.items)
          c.deref.ensures.value taken in
          are_wanted tables c.args.self.now.world wanted.operator wanted.id wanted.least extent
          c.args.span_bounds.now queries helds.items c.id_is_valid.ensures
          standing.content standing.tables c.requires
          c.in_ok-queries.ensures.complete c.in_ok-queries.ensures.within mine));
      cause = read.cause;
      same = read.same;
      reads = read.reads;
    }
