use Rattle.std.proofs.Common.{[], refl, subst, arith}
use Rattle.std.specs.List.{filter}
use Rattle.sqlite.specs.Held.{state}
use Rattle.desk_sql.specs.Rows.{is_of, tables_of, Lists}
use Rattle.desk_store.proofs.lemmas.Parse.{parsed_id}
use Rattle.desk_tables.proofs.AskingLemmas.{both_ok}
use Rattle.desk_tables.proofs.ListingLemmas.{heads_are}
use Rattle.desk_tables.proofs.CauseLemmas.{reported_cause, reported_value}
use Rattle.desk_tables.proofs.tables.DeskTables.head_rows.Goals as goal

pub returns : goal.returns
returns g c =
    let old = c.self.inside.connection in
    let new = c.plan_of-answer.new.connection in
    let answer = c.plan_of-answer.result in
    let answers = c.plan_of-answer.ensures.answers in
    let tables = tables_of (state g.S.Store old).now.trees in
    let operator = c.args.operator.now in
    let id = c.args.id.now in
    let text = c.encode-text.result.now in
    rw (← c.self.view_is) (record {
      value = λ clean.
          reported_value _ answer c.or_fault.result c.or_fault.ensures
          (both_ok answer (c.plan_of-answer.ensures.open clean) (answers.value clean) (λ rows live lists.
          (let standing = c.self.invariant.standing (omega (arith, answers.reads.doubt, clean)) live in
          let by_name = subst (λ name. Lists [] (filter (is_of name text) tables.plans) rows.items)
          c.as_str.ensures.value lists in
          let mine = subst (λ id. Lists [] (filter (is_of operator id) tables.plans) rows.items)
          c.encode-text.ensures.text by_name in (
            standing.content,
            heads_are tables c.self.inside.kept.world operator id rows.items
                (parsed_id text id c.encode-text.ensures.parsed) standing.content standing.tables mine,
          ))));
      cause = reported_cause g.S.Store old new answer c.or_fault.result c.self.invariant.unlimited
          c.or_fault.ensures answers.cause;
      same = refl;
      reads = answers.reads;
    })
