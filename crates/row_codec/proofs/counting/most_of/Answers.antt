use Rattle.std.proofs.Common.{◌∙◌, ap}
use Rattle.std.specs.List.{prefix_len}
use Rattle.desk_store.specs.World.{Filed, is_by}
use Rattle.row_codec.specs.SpanBounds.{count_of}
use Rattle.row_codec.proofs.CountingLemmas.{begin, ends, goes_on, mine_few}
use Rattle.row_codec.proofs.AscendLemmas.{empty}
use Rattle.row_codec.proofs.counting.most_of.Goals as goal

pub loop-first-init : goal.loop-first-init
loop-first-init c = begin (count_of c.args.counted) c.args.plans.now c.requires.keys c.requires.few

pub sum_of-requires : goal.sum_of-requires
sum_of-requires c =
    mine_few (count_of c.args.counted) c.args.plans.now c.loop-first.left.now c.split_at.result.1.now c.split_at.result.0.now
    c.in-Some.others.now c.in-Some.first.now c.loop-first.most c.count_own.result c.loop-first.invariant
    c.in-Some.ensures.cases.0 (c.count_own.ensures.value
    ∙ ap (λ (f : Filed). prefix_len (is_by f.operator) c.in-Some.others.now) c.first.view_is)
    c.split_at.ensures.front c.split_at.ensures.back

pub loop-first-preserved : goal.loop-first-preserved
loop-first-preserved c =
    goes_on (count_of c.args.counted) c.args.plans.now c.loop-first.left.now c.split_at.result.1.now c.split_at.result.0.now
    c.in-Some.others.now c.in-Some.first.now c.loop-first.most c.count_own.result c.loop-first.invariant
    c.in-Some.ensures.cases.0 (c.count_own.ensures.value
    ∙ ap (λ (f : Filed). prefix_len (is_by f.operator) c.in-Some.others.now) c.first.view_is)
    c.split_at.ensures.front c.split_at.ensures.back
    c.max_of-most.result c.sum_of.result c.sum_of.ensures c.max_of-most.ensures.no_less.0
    c.max_of-most.ensures.no_less.1 c.max_of-most.ensures.which

pub returns : goal.returns
returns c = ends (count_of c.args.counted) c.args.plans.now c.loop-first.left.now c.loop-first.most c.loop-first.invariant
    (empty c.loop-first.left.now (c.in_default.ensures.cases))
