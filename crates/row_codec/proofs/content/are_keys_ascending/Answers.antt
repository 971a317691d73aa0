use Rattle.std.proofs.Common.{sym}
use Rattle.desk_store.specs.World.{filed_cmp}
use Rattle.row_codec.proofs.lemmas.Order.{filed_total}
use Rattle.row_codec.proofs.AscendLemmas.{goes_on, stops, ends, empty}
use Rattle.row_codec.proofs.content.are_keys_ascending.Goals as goal

pub loop-first-preserved : goal.loop-first-preserved
loop-first-preserved c =
    goes_on filed_cmp filed_total c.args.plans.now c.loop-first.left.now c.in-Some.later.now
    c.in-Some.first.now c.loop-first.invariant c.in-Some.ensures.cases.0
    (sym c.if-not-key_is_below.ensures)

pub returns-then-not-key_is_below : goal.returns-then-not-key_is_below
returns-then-not-key_is_below c =
    stops filed_cmp filed_total c.args.plans.now c.loop-first.left.now c.in-Some.later.now c.in-Some.first.now
    c.loop-first.invariant c.in-Some.ensures.cases.0 (sym c.if-not-key_is_below.ensures)

pub returns : goal.returns
returns c = ends filed_cmp filed_total c.args.plans.now c.loop-first.left.now c.loop-first.invariant
    (empty c.loop-first.left.now c.in_default.ensures.cases)
