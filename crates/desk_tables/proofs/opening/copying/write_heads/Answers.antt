use Rattle.std.proofs.Common.{◌≡◌, drop, take, [], ◌∷◌, ◌++◌, refl, ap, arith, subst, sym, ◌+◌, ◌∙◌}
use Rattle.std.proofs.lemmas.List.{drop_more, take_more}
use Rattle.sqlite.specs.State.{HasCleanDisk}
use Rattle.sqlite.specs.Held.{state}
use Rattle.desk_sql.specs.Rows.{AddsPlan}
use Rattle.desk_tables.specs.Copying.{AddsHeadRows}
use Rattle.table_load.specs.Opening.{BlamesReading, AreNewHeads}
use Rattle.row_codec.specs.Tables.{row_of_plan}
use Rattle.desk_tables.proofs.CopyLemmas.{no_heads, more_heads}
use Rattle.table_load.proofs.lemmas.Moving.{begins, goes_on, way_on}
use Rattle.table_load.proofs.lemmas.Opening.{blames_since, reported_as}
use Rattle.desk_tables.proofs.opening.copying.write_heads.Goals as goal

pub plans-init : goal.plans-init
plans-init g c = (
  refl,
  begins g.S.Store c.args.tx.now.conn.now (AddsHeadRows (take 0 c.args.plans.now)) no_heads
      c.requires.under_way,
  λ all clean. all,
)

pub write_head-requires : goal.write_head-requires
write_head-requires g c = record {
  under_way = way_on g.S.Store c.args.tx.now.conn.now c.plans.tx.conn.now
      (AddsHeadRows (take c.plans.plan-index c.args.plans.now)) c.plans.invariant.1;
}

pub plans-preserved : goal.plans-preserved
plans-preserved g c =
    let all = c.args.plans.now in
    let at = c.plans.plan-index in
    let one = c.plan-item.result in
    let mid = c.plans.tx.conn.now in
    let new = c.write_head.new.tx.conn.now in
    let parted : drop at all ≡ one ∷ drop (at + 1) all =
    drop_more all at one c.plans-test.true ∙ ap (λ p. p ∷ drop (at + 1) all) (sym c.plan-item.is) in (
      c.write_head.ensures.same_reference ∙ c.plans.invariant.0,
      goes_on g.S.Store c.args.tx.now.conn.now mid new
          (AddsHeadRows (take at all)) (AddsPlan (row_of_plan one)) (AddsHeadRows (take (at + 1) all))
          (more_heads (take at all) one (take (at + 1) all)
          (take_more all at one c.plans-test.true
          ∙ ap (λ p. take at all ++ p ∷ []) (sym c.plan-item.is)))
          c.plans.invariant.1 c.write_head.ensures.remembered c.in_ok-write_head.ensures.done,
      λ can clean.
          let early : HasCleanDisk (state g.S.Store mid) =
          omega (arith, c.write_head.ensures.remembered.doubt, clean) in
          c.in_ok-write_head.ensures.left (drop (at + 1) all)
          (subst (λ ps. AreNewHeads ps (state g.S.Store mid).now) parted (c.plans.invariant.2 can early))
          clean,
    )

pub returns-in_err-write_head-clause-cause : goal.returns-in_err-write_head-clause-cause
returns-in_err-write_head-clause-cause g c can =
    let all = c.args.plans.now in
    let at = c.plans.plan-index in
    let one = c.plan-item.result in
    let old = c.args.tx.now.conn.now in
    let mid = c.plans.tx.conn.now in
    let new = c.write_head.new.tx.conn.now in
    let so_far = c.plans.invariant.1.remembered in
    let parted : drop at all ≡ one ∷ drop (at + 1) all =
    drop_more all at one c.plans-test.true ∙ ap (λ p. p ∷ drop (at + 1) all) (sym c.plan-item.is) in
    reported_as (BlamesReading g.S.Store old new) c.from_residual.result _ c.from_residual.ensures.1
    (λ clean live reported.
    let early : HasCleanDisk (state g.S.Store mid) =
    omega (arith, c.write_head.ensures.remembered.doubt, clean) in
    blames_since g.S.Store old mid new so_far.faults so_far.limit c.in_err-write_head.field-0.0
    (c.in_err-write_head.ensures.cause (drop (at + 1) all)
    (subst (λ ps. AreNewHeads ps (state g.S.Store mid).now) parted (c.plans.invariant.2 can early)))
    clean live reported)
