use Rattle.std.proofs.Common.{subst, sym, rules}
use Rattle.row_codec.proofs.lemmas.Plan.{AreFiled, goes_on, refused}
use Rattle.row_codec.proofs.content.plans_in.Goals as goal

pub returns-in_err-filed_in-clause-refused : goal.returns-in_err-filed_in-clause-refused
returns-in_err-filed_in-clause-refused c =
    let none = refused c.loop-head.left.now c.in-Some.later.now c.loop-head.rest.now c.split_at.result.0.now
    c.split_at.result.1.now c.in-Some.head.now c.count_own_volumes.result c.in-Some.ensures.cases.0
    c.count_own_volumes.ensures.of c.split_at.ensures.front c.split_at.ensures.back c.args.head_rows.now
    c.args.volumes.now c.loop-head.plans.items c.loop-head.invariant in
    search (rules, none, c.in_err-filed_in.ensures.refused)

pub loop-head-preserved : goal.loop-head-preserved
loop-head-preserved c =
    subst (λ ps. AreFiled c.args.head_rows.now c.args.volumes.now ps c.in-Some.later.now
    c.split_at.result.1.now)
    (sym c.in_ok-push.ensures.items)
    (goes_on c.loop-head.left.now c.in-Some.later.now c.loop-head.rest.now c.split_at.result.0.now
    c.split_at.result.1.now c.in-Some.head.now c.count_own_volumes.result c.in-Some.ensures.cases.0
    c.count_own_volumes.ensures.of c.split_at.ensures.front c.split_at.ensures.back
    c.args.head_rows.now c.args.volumes.now c.loop-head.plans.items c.in_ok-filed_in.field-0
    c.loop-head.invariant
    c.in_ok-filed_in.ensures.ok.0 c.in_ok-filed_in.ensures.ok.1)
