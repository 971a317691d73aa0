use mir.Syntax.{w64}
use mir.Val.{to_z, of_z}
use Rattle.std.proofs.lemmas.Int.{to_z_pos}
use Rattle.std.proofs.Common.{IfOk, pos, refl, subst, sym, arith, filter, map, IsPermutation}
use Rattle.sqlite.specs.Held.{state}
use Rattle.desk_sql.specs.Rows.{tables_of, columns_from_first, is_rival_from, is_others_from}
use Rattle.desk_tables.specs.Store.{BlamesSpans}
use Rattle.row_codec.specs.RowsRead.{HasTakenHelds, HaveTaken, is_another_from, span_filter_from}
use Rattle.row_codec.proofs.lemmas.Result.{weaker}
use Rattle.table_load.proofs.lemmas.Store.{still_stands, on_whole}
use Rattle.desk_tables.proofs.CauseLemmas.{err_weaker, spans_blamed}
use Rattle.desk_tables.proofs.tables.DeskTables.query_one.Goals as goal

pub returns-in-Some-clause-read : goal.returns-in-Some-clause-read
returns-in-Some-clause-read g c =
    let old = c.self.inside.connection in
    let new = c.rival_spans-queried.new.connection in
    let answers = c.rival_spans-queried.ensures.answers in
    let query = c.args.query.now in
    let wanted = c.args.wanted.now in
    let spans = (tables_of (state g.S.Store old).now.trees).spans in
    let reach = span_filter_from query c.args.extent.now wanted.least in
    let first = pos query.first in
    rw (← c.self.view_is) (record {
      value = λ clean.
          subst (λ own. IfOk c.slabs_if_read.result (λ helds. HaveTaken
          (is_another_from wanted.operator own reach first) spans helds.items)) (sym c.in-Some.is)
          (on_whole _ c.rival_spans-queried.result c.slabs_if_read.result c.slabs_if_read.ensures.whole
          (answers.value clean) (λ handed.
          (let (rows, by_texts, taken) = handed in
          let name = c.as_str-operator.result.now in
          let text = c.encode-text.result.now in
          let reached = subst (λ r. IsPermutation (map columns_from_first (filter (is_rival_from name text r
          (to_z w64 (of_z w64 first))) spans)) rows) c.span_filter_from-span_filter.ensures by_texts in
          let begun = subst (λ l. IsPermutation (map columns_from_first (filter
          (is_rival_from name text reach l) spans)) rows)
          (to_z_pos w64 query.first (omega (arith, c.requires.0))) reached in
          let named = subst (λ own. IsPermutation (map columns_from_first
          (filter (is_rival_from own text reach first) spans)) rows) c.as_str-operator.ensures.value begun in
          let mine = subst (λ id. IsPermutation (map columns_from_first (filter
          (is_rival_from wanted.operator id reach first) spans)) rows) c.encode-text.ensures.text named in
          weaker c.slabs_if_read.result
          (λ helds are. (rows, mine, subst (λ hs. HasTakenHelds hs rows) (sym are) taken))
          c.slabs_if_read.ensures.value)));
      cause = err_weaker c.slabs_if_read.result (BlamesSpans g.S.Store old new) c.slabs_if_read.ensures.refused
          (λ e why clean live is.
          (let standing = c.self.invariant.standing (omega (arith, answers.reads.doubt, clean))
          (answers.reads.kept clean live).was_open in
          spans_blamed g.S.Store old new c.self.invariant.unlimited _ c.self.inside.kept.world
          standing.content standing.tables c.rival_spans-queried.result (why is)
          (answers.cause clean live)));
      same = refl;
      reads = answers.reads;
    })

pub invariant_of-self : goal.invariant_of-self
invariant_of-self g c =
    still_stands g.S.Store c.self.inside.connection c.rival_spans-queried.new.connection
    c.self.inside.kept.world c.self.invariant c.rival_spans-queried.ensures.answers.reads

pub returns-in-None-clause-read : goal.returns-in-None-clause-read
returns-in-None-clause-read g c =
    let old = c.self.inside.connection in
    let new = c.other_spans-queried.new.connection in
    let answers = c.other_spans-queried.ensures.answers in
    let query = c.args.query.now in
    let wanted = c.args.wanted.now in
    let spans = (tables_of (state g.S.Store old).now.trees).spans in
    let reach = span_filter_from query c.args.extent.now wanted.least in
    let first = pos query.first in
    rw (← c.self.view_is) (record {
      value = λ clean.
          subst (λ own. IfOk c.slabs_if_read-in-None.result (λ helds. HaveTaken
          (is_another_from wanted.operator own reach first) spans helds.items)) (sym c.in-None.is)
          (on_whole _ c.other_spans-queried.result c.slabs_if_read-in-None.result c.slabs_if_read-in-None.ensures.whole
          (answers.value clean) (λ handed.
          (let (rows, by_texts, taken) = handed in
          let name = c.as_str-operator.result.now in
          let reached = subst (λ r. IsPermutation (map columns_from_first (filter (is_others_from name r
          (to_z w64 (of_z w64 first))) spans)) rows) c.span_filter_from-span_filter.ensures by_texts in
          let begun = subst (λ l. IsPermutation (map columns_from_first (filter
          (is_others_from name reach l) spans)) rows)
          (to_z_pos w64 query.first (omega (arith, c.requires.0))) reached in
          let mine = subst (λ own. IsPermutation (map columns_from_first
          (filter (is_others_from own reach first) spans)) rows) c.as_str-operator.ensures.value begun in
          weaker c.slabs_if_read-in-None.result
          (λ helds are. (rows, mine, subst (λ hs. HasTakenHelds hs rows) (sym are) taken))
          c.slabs_if_read-in-None.ensures.value)));
      cause = err_weaker c.slabs_if_read-in-None.result (BlamesSpans g.S.Store old new)
          c.slabs_if_read-in-None.ensures.refused
          (λ e why clean live is.
          (let standing = c.self.invariant.standing (omega (arith, answers.reads.doubt, clean))
          (answers.reads.kept clean live).was_open in
          spans_blamed g.S.Store old new c.self.invariant.unlimited _ c.self.inside.kept.world
          standing.content standing.tables c.other_spans-queried.result (why is)
          (answers.cause clean live)));
      same = refl;
      reads = answers.reads;
    })

pub invariant_of-self-in-None : goal.invariant_of-self-in-None
invariant_of-self-in-None g c =
    still_stands g.S.Store c.self.inside.connection c.other_spans-queried.new.connection
    c.self.inside.kept.world c.self.invariant c.other_spans-queried.ensures.answers.reads
