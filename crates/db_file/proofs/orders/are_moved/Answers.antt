use Rattle.std.proofs.Common.{◌≡◌, ◌<◌, ◌≤◌, ◌∙◌, true, false, sym, rules}
use Rattle.db_file.specs.Orders as spec
use Rattle.db_file.proofs.OrderLemmas.{moved_all, moved_not, moved_on}
use Rattle.db_file.proofs.orders.are_moved.Goals as goal

pub returns-then-not-is_moved_by_name : goal.returns-then-not-is_moved_by_name
returns-then-not-is_moved_by_name c =
    let less : c.loop-to.to < c.args.count = search rules in
    let is : spec.is_moved_by_name c.args.is_packed c.args.old.now c.args.page.now c.loop-to.to ≡ false =
    search rules in
    sym (moved_not c.args.is_packed c.args.old.now c.args.page.now c.loop-to.to c.args.count less is)
    ∙ c.loop-to.invariant

pub loop-to-preserved : goal.loop-to-preserved
loop-to-preserved c =
    let less : c.loop-to.to < c.args.count = search rules in
    let is : spec.is_moved_by_name c.args.is_packed c.args.old.now c.args.page.now c.loop-to.to ≡ true =
    search rules in
    sym (moved_on c.args.is_packed c.args.old.now c.args.page.now c.loop-to.to c.args.count less is)
    ∙ c.loop-to.invariant

pub returns : goal.returns
returns c =
    let most : c.args.count ≤ c.loop-to.to = search rules in
    sym (moved_all c.args.is_packed c.args.old.now c.args.page.now c.loop-to.to c.args.count most)
    ∙ c.loop-to.invariant
