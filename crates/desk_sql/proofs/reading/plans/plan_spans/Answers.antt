use Rattle.std.proofs.Common.{[], filter, map, IsPermutation}
use Rattle.sqlite.specs.Held.{state}
use Rattle.desk_sql.specs.Rows.{columns_from_first, tables_of, Lists, is_plan_span}
use Rattle.desk_sql.proofs.HandLemmas.{cut_short_of}
use Rattle.desk_sql.proofs.TakingLemmas.{handed_as}
use Rattle.desk_sql.proofs.reading.plans.plan_spans.Goals as goal

pub returns-clause-answers : goal.returns-clause-answers
returns-clause-answers g c =
    let wanted = map columns_from_first
    (filter (is_plan_span c.args.operator.now c.args.id.now c.args.span_filter)
    (tables_of (state g.S.Store c.args.connection.now).now.trees).spans) in record {
      value = λ clean. handed_as (Lists [] wanted) (IsPermutation wanted)
          (g.T.RowVisitor.has_taken c.for_each_row.new.visitor) (λ rows lists. lists.same) c.for_each_row.result
          (c.for_each_row.ensures.answers.value clean);
      cause = λ clean live. cut_short_of g.S.Store c.args.connection.now c.for_each_row.new.connection
          (Lists [] wanted) (IsPermutation wanted) g.T.RowVisitor.refuses (λ rows lists. lists.same)
          c.for_each_row.result (c.for_each_row.ensures.answers.cause clean live);
      reads = c.for_each_row.ensures.answers.reads;
    }
