use Rattle.std.proofs.Common.{◌≡◌, ◌<◌, ◌≤◌, ◌∙◌, true, false, sym, rules}
use Rattle.db_file.specs.Orders as spec
use Rattle.db_file.proofs.OrderLemmas.{found_here, found_later, found_nowhere}
use Rattle.db_file.proofs.orders.slot_of.Goals as goal

pub returns-then-is_named-clause-value : goal.returns-then-is_named-clause-value
returns-then-is_named-clause-value c =
    let less : c.loop-slot.slot < c.count_of-count.result = search rules in
    let is : spec.is_slot_named c.args.page.now c.loop-slot.slot c.args.name.now ≡ true = search rules in
    let all : spec.slot_from c.args.page.now c.args.name.now 0 c.count_of-count.result
    ≡ spec.slot_of c.args.page.now c.args.name.now = search rules in
    sym (found_here c.args.page.now c.args.name.now c.loop-slot.slot c.count_of-count.result less is)
    ∙ c.loop-slot.invariant ∙ all

pub loop-slot-preserved : goal.loop-slot-preserved
loop-slot-preserved c =
    let less : c.loop-slot.slot < c.count_of-count.result = search rules in
    let is : spec.is_slot_named c.args.page.now c.loop-slot.slot c.args.name.now ≡ false = search rules in
    sym (found_later c.args.page.now c.args.name.now c.loop-slot.slot c.count_of-count.result less is)
    ∙ c.loop-slot.invariant

pub returns-clause-value : goal.returns-clause-value
returns-clause-value c =
    let most : c.count_of-count.result ≤ c.loop-slot.slot = search rules in
    let all : spec.slot_from c.args.page.now c.args.name.now 0 c.count_of-count.result
    ≡ spec.slot_of c.args.page.now c.args.name.now = search rules in
    sym (found_nowhere c.args.page.now c.args.name.now c.loop-slot.slot c.count_of-count.result most)
    ∙ c.loop-slot.invariant ∙ all
