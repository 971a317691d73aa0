use Rattle.std.proofs.Common.{◌≡◌, ◌++◌, ◌∙◌, ap, sym}
use Rattle.operator_index.specs.Roll.{listed_in}
use Rattle.operator_index.proofs.ListedLemmas.{all_listed, listed_are, listed_first}
use Rattle.operator_index.proofs.roll.OperatorIndex.listed.Goals as goal

pub loop-operator-init : goal.loop-operator-init
loop-operator-init c =
    let start : c.into_iter-operator-iterator.result ≡ c.args.self.now.accounts.entries =
    c.into_iter-operator-iterator.ensures.into_iter_gives.0 in
    λ k. c.new-listed.ensures.items k ++ listed_in (start k)

pub loop-operator-preserved : goal.loop-operator-preserved
loop-operator-preserved c =
    let before = c.loop-operator.listed.items in
    ap (λ ls. ls ++ listed_in c.next.new.self) c.in_ok-push_listed.ensures
    ∙ listed_first before (listed_in c.args.self.now.accounts.entries) c.in-Some.operator.now
    c.in-Some.account.now c.next.new.self
    (ap (λ es. before ++ listed_in es) (sym c.in-Some.ensures.steps) ∙ c.loop-operator.invariant)

pub returns : goal.returns
returns c = λ w h ascend.
    all_listed c.loop-operator.listed.items (listed_in c.args.self.now.accounts.entries)
    c.loop-operator.operator-iterator c.in-None.ensures.steps.0 c.loop-operator.invariant
    ∙ listed_are w.operators w.plans c.args.self.now.accounts.entries
    c.into_iter-operator-iterator.ensures.into_iter_gives.5 h ascend
