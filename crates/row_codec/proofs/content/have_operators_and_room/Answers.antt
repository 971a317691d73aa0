use Rattle.std.proofs.Common.{◌∙◌, sym, ap, length, arith, true≢false}
use Rattle.std.specs.List.{prefix_len}
use Rattle.std.proofs.lemmas.Bool.Decides.{nat_tests}
use Rattle.desk_store.specs.World.{Listed, is_by}
use Rattle.row_codec.proofs.lemmas.Share.{begin, goes_on, stops, ends}
use Rattle.row_codec.proofs.AscendLemmas.{empty}
use Rattle.row_codec.proofs.content.have_operators_and_room.Goals as goal

pub loop-listed-init : goal.loop-listed-init
loop-listed-init c = begin c.args.operators.now c.args.plans.now c.requires.names c.requires.keys

pub returns-then-not-is_within_limit : goal.returns-then-not-is_within_limit
returns-then-not-is_within_limit c =
    stops c.args.operators.now c.args.plans.now c.loop-listed.others.now c.in-Some.later.now
    c.in-Some.listed.now c.loop-listed.left.now c.loop-listed.left.now c.count_own-count.result
    c.loop-listed.invariant c.in-Some.ensures.cases.0 (c.count_own-count.ensures.value
    ∙ ap (λ (l : Listed). prefix_len (is_by l.name) c.loop-listed.left.now) c.listed.view_is)
    (λ few. true≢false (sym (c.is_within_limit.ensures.1 few) ∙ c.if-not-is_within_limit.true))

pub loop-listed-preserved : goal.loop-listed-preserved
loop-listed-preserved c =
    goes_on c.args.operators.now c.args.plans.now c.loop-listed.others.now c.in-Some.later.now
    c.in-Some.listed.now c.loop-listed.left.now c.split_at.result.1.now c.count_own-count.result
    c.loop-listed.invariant c.in-Some.ensures.cases.0 (c.count_own-count.ensures.value
    ∙ ap (λ (l : Listed). prefix_len (is_by l.name) c.loop-listed.left.now) c.listed.view_is)
    (c.is_within_limit.ensures.0 c.if-not-is_within_limit.false) c.split_at.ensures.back

pub returns : goal.returns
returns c = ends c.args.operators.now c.args.plans.now c.loop-listed.others.now c.loop-listed.left.now
    c.loop-listed.invariant (empty c.loop-listed.others.now c.in_default.ensures.cases) c.is_empty.result
    (λ t. empty c.loop-listed.left.now (grind (arith, nat_tests, c.is_empty.ensures, t)))
    (λ e. grind (arith, nat_tests, c.is_empty.ensures, ap length e))
