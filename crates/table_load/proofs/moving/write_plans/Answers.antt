use Rattle.std.proofs.Common.{◌≡◌, drop, take, [], ◌∷◌, ◌++◌, refl, ap, arith, subst, sym, ◌+◌, ◌∙◌}
use Rattle.std.proofs.lemmas.List.{drop_more, take_more}
use Rattle.sqlite.specs.State.{HasCleanDisk}
use Rattle.sqlite.specs.Held.{state}
use Rattle.table_load.specs.Moving.{AddsPlanRows, AddsPlansRows}
use Rattle.table_load.specs.Opening.{BlamesReading, AreWritable}
use Rattle.table_load.proofs.lemmas.Moving.{begins, goes_on, no_plans, more_plans, way_on}
use Rattle.table_load.proofs.lemmas.Opening.{blames_since, reported_as}
use Rattle.table_load.proofs.moving.write_plans.Goals as goal

pub plans-init : goal.plans-init
plans-init g c = (
  refl,
  begins g.S.Store c.args.tx.now.conn.now (AddsPlansRows (take 0 c.args.plans.now)) no_plans
      c.requires.under_way,
  λ all clean. all,
)

pub write_plan-requires : goal.write_plan-requires
write_plan-requires g c = record {
  under_way = way_on g.S.Store c.args.tx.now.conn.now c.plans.tx.conn.now
      (AddsPlansRows (take c.plans.plan-index c.args.plans.now)) c.plans.invariant.1;
}

pub plans-preserved : goal.plans-preserved
plans-preserved g c =
    let plans = c.args.plans.now in
    let at = c.plans.plan-index in
    let plan = c.plan-item.result in
    let mid = c.plans.tx.conn.now in
    let new = c.write_plan.new.tx.conn.now in
    let parted : drop at plans ≡ plan ∷ drop (at + 1) plans =
    drop_more plans at plan c.plans-test.true ∙ ap (λ p. p ∷ drop (at + 1) plans) (sym c.plan-item.is) in (
      c.write_plan.ensures.same_reference ∙ c.plans.invariant.0,
      goes_on g.S.Store c.args.tx.now.conn.now mid new
          (AddsPlansRows (take at plans)) (AddsPlanRows plan) (AddsPlansRows (take (at + 1) plans))
          (more_plans (take at plans) plan (take (at + 1) plans)
          (take_more plans at plan c.plans-test.true
          ∙ ap (λ p. take at plans ++ p ∷ []) (sym c.plan-item.is)))
          c.plans.invariant.1 c.write_plan.ensures.added.remembered c.in_ok-write_plan.ensures.added.done,
      λ all clean.
          let early : HasCleanDisk (state g.S.Store mid) =
          omega (arith, c.write_plan.ensures.added.remembered.doubt, clean) in
          c.in_ok-write_plan.ensures.left (drop (at + 1) plans)
          (subst (λ ps. AreWritable ps (state g.S.Store mid).now) parted (c.plans.invariant.2 all early))
          clean,
    )

pub returns-in_err-write_plan-clause-cause : goal.returns-in_err-write_plan-clause-cause
returns-in_err-write_plan-clause-cause g c all =
    let plans = c.args.plans.now in
    let at = c.plans.plan-index in
    let plan = c.plan-item.result in
    let old = c.args.tx.now.conn.now in
    let mid = c.plans.tx.conn.now in
    let new = c.write_plan.new.tx.conn.now in
    let so_far = c.plans.invariant.1.remembered in
    let parted : drop at plans ≡ plan ∷ drop (at + 1) plans =
    drop_more plans at plan c.plans-test.true ∙ ap (λ p. p ∷ drop (at + 1) plans) (sym c.plan-item.is) in
    reported_as (BlamesReading g.S.Store old new) c.from_residual.result _ c.from_residual.ensures.1
    (λ clean live reported.
    let early : HasCleanDisk (state g.S.Store mid) =
    omega (arith, c.write_plan.ensures.added.remembered.doubt, clean) in
    blames_since g.S.Store old mid new so_far.faults so_far.limit c.in_err-write_plan.field-0.0
    (c.in_err-write_plan.ensures.cause (drop (at + 1) plans)
    (subst (λ ps. AreWritable ps (state g.S.Store mid).now) parted (c.plans.invariant.2 all early)))
    clean live reported)
