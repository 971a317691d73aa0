use Rattle.std.proofs.Common.{◌≡◌, drop, take, [], ◌∷◌, ◌++◌, refl, ap, arith, subst, sym, ◌+◌, ◌∙◌}
use Rattle.std.proofs.lemmas.List.{drop_more, take_more}
use Rattle.sqlite.specs.State.{HasCleanDisk}
use Rattle.sqlite.specs.Held.{state}
use Rattle.desk_sql.specs.Rows.{AddsOperator}
use Rattle.desk_tables.specs.Copying.{AddsOperatorRows}
use Rattle.table_load.specs.Opening.{BlamesReading, AreNewOperators}
use Rattle.row_codec.specs.Tables.{row_of_operator}
use Rattle.desk_tables.proofs.CopyLemmas.{no_operators, more_operators}
use Rattle.table_load.proofs.lemmas.Moving.{begins, goes_on, way_on}
use Rattle.table_load.proofs.lemmas.Opening.{blames_since, reported_as}
use Rattle.desk_tables.proofs.opening.copying.write_operators.Goals as goal

pub operators-init : goal.operators-init
operators-init g c = (
  refl,
  begins g.S.Store c.args.tx.now.conn.now (AddsOperatorRows (take 0 c.args.operators.now)) no_operators
      c.requires.under_way,
  λ all clean. all,
)

pub write_operator-requires : goal.write_operator-requires
write_operator-requires g c = record {
  under_way = way_on g.S.Store c.args.tx.now.conn.now c.operators.tx.conn.now
      (AddsOperatorRows (take c.operators.listed-index c.args.operators.now)) c.operators.invariant.1;
}

pub operators-preserved : goal.operators-preserved
operators-preserved g c =
    let all = c.args.operators.now in
    let at = c.operators.listed-index in
    let one = c.listed-item.result in
    let mid = c.operators.tx.conn.now in
    let new = c.write_operator.new.tx.conn.now in
    let parted : drop at all ≡ one ∷ drop (at + 1) all =
    drop_more all at one c.operators-test.true ∙ ap (λ p. p ∷ drop (at + 1) all) (sym c.listed-item.is) in (
      c.write_operator.ensures.same_reference ∙ c.operators.invariant.0,
      goes_on g.S.Store c.args.tx.now.conn.now mid new
          (AddsOperatorRows (take at all)) (AddsOperator (row_of_operator one))
          (AddsOperatorRows (take (at + 1) all))
          (more_operators (take at all) one (take (at + 1) all)
          (take_more all at one c.operators-test.true
          ∙ ap (λ p. take at all ++ p ∷ []) (sym c.listed-item.is)))
          c.operators.invariant.1 c.write_operator.ensures.remembered c.in_ok-write_operator.ensures.done,
      λ can clean.
          let early : HasCleanDisk (state g.S.Store mid) =
          omega (arith, c.write_operator.ensures.remembered.doubt, clean) in
          c.in_ok-write_operator.ensures.left (drop (at + 1) all)
          (subst (λ ps. AreNewOperators ps (state g.S.Store mid).now) parted
          (c.operators.invariant.2 can early))
          clean,
    )

pub returns-in_err-write_operator-clause-cause : goal.returns-in_err-write_operator-clause-cause
returns-in_err-write_operator-clause-cause g c can =
    let all = c.args.operators.now in
    let at = c.operators.listed-index in
    let one = c.listed-item.result in
    let old = c.args.tx.now.conn.now in
    let mid = c.operators.tx.conn.now in
    let new = c.write_operator.new.tx.conn.now in
    let so_far = c.operators.invariant.1.remembered in
    let parted : drop at all ≡ one ∷ drop (at + 1) all =
    drop_more all at one c.operators-test.true ∙ ap (λ p. p ∷ drop (at + 1) all) (sym c.listed-item.is) in
    reported_as (BlamesReading g.S.Store old new) c.from_residual.result _ c.from_residual.ensures.1
    (λ clean live reported.
    let early : HasCleanDisk (state g.S.Store mid) =
    omega (arith, c.write_operator.ensures.remembered.doubt, clean) in
    blames_since g.S.Store old mid new so_far.faults so_far.limit c.in_err-write_operator.field-0.0
    (c.in_err-write_operator.ensures.cause (drop (at + 1) all)
    (subst (λ ps. AreNewOperators ps (state g.S.Store mid).now) parted (c.operators.invariant.2 can early)))
    clean live reported)
