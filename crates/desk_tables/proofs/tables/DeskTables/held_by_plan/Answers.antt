use Rattle.std.proofs.Common.{refl, subst, sym, arith, filter, map, IsPermutation}
use Rattle.sqlite.specs.Held.{state}
use Rattle.desk_sql.specs.Rows.{tables_of, columns_from_first, is_plan_span}
use Rattle.desk_store.proofs.lemmas.Parse.{parsed_id}
use Rattle.desk_tables.specs.Store.{BlamesSpans}
use Rattle.row_codec.specs.RowsRead.{HasTakenHelds, span_filter_of}
use Rattle.row_codec.proofs.lemmas.Result.{weaker}
use Rattle.table_load.proofs.lemmas.Store.{still_stands, on_whole}
use Rattle.desk_tables.proofs.CauseLemmas.{err_weaker, spans_blamed}
use Rattle.desk_tables.proofs.tables.DeskTables.held_by_plan.Goals as goal

pub returns-clause-read : goal.returns-clause-read
returns-clause-read g c =
    let old = c.self.inside.connection in
    let new = c.plan_spans-queried.new.connection in
    let answers = c.plan_spans-queried.ensures.answers in
    rw (← c.self.view_is) (record {
      value = λ clean.
          on_whole _ c.plan_spans-queried.result c.slabs_if_read.result c.slabs_if_read.ensures.whole
          (answers.value clean) (λ handed.
          (let (rows, by_texts, taken) = handed in
          let spans = (tables_of (state g.S.Store old).now.trees).spans in
          let reach = span_filter_of c.args.extent.now c.args.least in
          let reached = subst (λ r. IsPermutation (map columns_from_first (filter (is_plan_span c.as_str.result.now
          c.encode-id.result.now r) spans)) rows) c.span_filter_of-span_filter.ensures by_texts in
          let named = subst (λ name. IsPermutation (map columns_from_first
          (filter (is_plan_span name c.encode-id.result.now reach) spans)) rows) c.as_str.ensures.value reached in
          let mine = subst (λ id. IsPermutation (map columns_from_first
          (filter (is_plan_span c.args.key.now.operator id reach) spans)) rows) c.encode-id.ensures.text named in
          weaker c.slabs_if_read.result
          (λ helds are. (rows, mine, subst (λ hs. HasTakenHelds hs rows) (sym are) taken))
          c.slabs_if_read.ensures.value));
      -- the rows of spans are read
      cause = err_weaker c.slabs_if_read.result (BlamesSpans g.S.Store old new) c.slabs_if_read.ensures.refused
          (λ e why clean live is.
          (let standing = c.self.invariant.standing (omega (arith, answers.reads.doubt, clean))
          (answers.reads.kept clean live).was_open in
          spans_blamed g.S.Store old new c.self.invariant.unlimited _ c.self.inside.kept.world
          standing.content standing.tables c.plan_spans-queried.result (why is)
          (answers.cause clean live)));
      same = refl;
      reads = answers.reads;
    })

pub returns-clause-id : goal.returns-clause-id
returns-clause-id g c = parsed_id c.encode-id.result.now c.args.key.now.id c.encode-id.ensures.parsed

pub invariant_of-self : goal.invariant_of-self
invariant_of-self g c =
    still_stands g.S.Store c.self.inside.connection c.plan_spans-queried.new.connection
    c.self.inside.kept.world c.self.invariant c.plan_spans-queried.ensures.answers.reads
