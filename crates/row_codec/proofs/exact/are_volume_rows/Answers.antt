use Rattle.std.proofs.Common.{refl, sym, true≢false}
use Rattle.row_codec.proofs.lemmas.Exact.{placing_on, placing_stops}
use Rattle.row_codec.proofs.exact.are_volume_rows.Goals as goal

pub returns-then-not-is_volume_row : goal.returns-then-not-is_volume_row
returns-then-not-is_volume_row c = (
  (λ t. absurd (true≢false (sym t))),
  λ h. absurd (placing_stops c.args.plan.now c.args.rows.now c.args.plan.now.row.area c.loop-place.place
      c.index-rows-place.result c.loop-place-test.true c.index-rows-place.is
      (λ v at e. true≢false (sym ((c.if-not-is_volume_row.ensures v at).1 e))) c.loop-place.invariant h),
)

pub loop-place-preserved : goal.loop-place-preserved
loop-place-preserved c =
    placing_on c.args.plan.now c.args.rows.now c.args.plan.now.row.area c.loop-place.place
    c.index-rows-place.result c.loop-place-test.true c.index-rows-place.is
    (λ v at. (c.if-not-is_volume_row.ensures v at).0 refl) c.loop-place.invariant
