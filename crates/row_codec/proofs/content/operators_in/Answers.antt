use Rattle.std.proofs.Common.{subst, sym, rules}
use Rattle.row_codec.proofs.OperatorLemmas.{AreListed, goes_on, refused}
use Rattle.row_codec.proofs.content.operators_in.Goals as goal

pub returns-in_err-listed_in-clause-refused : goal.returns-in_err-listed_in-clause-refused
returns-in_err-listed_in-clause-refused c =
    let none = refused c.args.rows.now c.loop-row.operators.items c.loop-row.left.now c.in-Some.later.now
    c.in-Some.row.now c.loop-row.invariant c.in-Some.ensures.cases.0 in
    search (rules, none, c.in_err-listed_in.ensures.refused)

pub loop-row-preserved : goal.loop-row-preserved
loop-row-preserved c =
    subst (λ ls. AreListed c.args.rows.now ls c.in-Some.later.now) (sym c.in_ok-push.ensures.items)
    (goes_on c.args.rows.now c.loop-row.operators.items c.loop-row.left.now c.in-Some.later.now
    c.in-Some.row.now c.in_ok-listed_in.field-0 c.loop-row.invariant c.in-Some.ensures.cases.0
    c.in_ok-listed_in.ensures.ok.0 c.in_ok-listed_in.ensures.ok.1)
