use Rattle.std.proofs.Common.{◌≤◌, [], rules, refl, sym, true≢false}
use Rattle.desk_rules.specs.Limits.{max_priority}
use Rattle.row_codec.specs.RowsRead.{plan_with}
use Rattle.table_load.proofs.NamingLemmas.{head_is, not_keyed}
use Rattle.table_load.proofs.naming.check_plan_row.Goals as goal

pub returns-then-is_keyed-clause-valid : goal.returns-then-is_keyed-clause-valid
returns-then-is_keyed-clause-valid c =
    let (is, numbers) = c.in_ok-head_in.ensures.valid in
    let few : c.in_ok-head_in.field-0.priority ≤ max_priority = search rules in
    head_is c.args.head.now c.in-Some.operator c.as_str.result.now c.in_ok-id.id c.encode.result.now
    c.as_str.ensures.value c.encode.ensures.text (plan_with c.in_ok-head_in.field-0 []) c.in-Some.ensures.0
    c.in_ok-id.ensures.valid few numbers (c.if-is_keyed.ensures.0 refl)

pub returns-else-is_keyed-clause-refused : goal.returns-else-is_keyed-clause-refused
returns-else-is_keyed-clause-refused c = λ _. not_keyed c.args.head.now c.in-Some.operator c.as_str.result.now
    c.in_ok-id.id c.encode.result.now c.as_str.ensures.value c.encode.ensures.text c.in-Some.ensures.1
    c.in_ok-id.ensures.value (λ keyed. true≢false (sym (c.if-is_keyed.ensures.1 keyed)))
