use Rattle.std.proofs.Common.{◌≡◌, ℕ, ◌≤◌, ap, ◌∙◌, take, arith}
use Rattle.row_codec.proofs.ReadingLemmas.{all_read, area_is}
use Rattle.row_codec.proofs.lemmas.Unread.{on_err, no_row, reads_more, all_stand}
use Rattle.row_codec.proofs.values.area_in.Goals as goal

pub loop-row-preserved : goal.loop-row-preserved
loop-row-preserved c =
    reads_more c.args.at c.args.rows.now c.loop-row.row-index c.row-item.result c.loop-row.volumes.items
    c.push.new.self.items c.in_ok-volume_in.field-0
    c.loop-row-test.true c.row-item.is c.in_ok-volume_in.ensures.value c.in_ok-volume_in.ensures.valid
    c.in_ok-push.ensures.items c.loop-row.invariant

ended : {m n : ℕ} → m ≤ n → n ≤ m → n ≡ m
ended h k = omega (arith, h, k)

pub returns-in-Some-clause-value : goal.returns-in-Some-clause-value
returns-in-Some-clause-value c =
    λ vs hv h. area_is c.loop-row.volumes.items c.in-Some.area c.in-Some.ensures
    ∙ c.loop-row.invariant.read vs hv h ∙ ap (λ n. take n vs)
    (ended c.loop-row-test.false c.loop-row.auto.row-index-end) ∙ all_read c.args.at c.args.rows.now vs h

pub returns-in-Some-clause-valid : goal.returns-in-Some-clause-valid
returns-in-Some-clause-valid c =
    all_stand c.args.at c.args.rows.now c.loop-row.row-index c.loop-row.volumes.items c.in-Some.area
    (ended c.loop-row-test.false c.loop-row.auto.row-index-end)
    (area_is c.loop-row.volumes.items c.in-Some.area c.in-Some.ensures) c.loop-row.invariant

pub returns-in_err-volume_in-clause-refused : goal.returns-in_err-volume_in-clause-refused
returns-in_err-volume_in-clause-refused c =
    on_err c.from_residual.result c.in_err-volume_in.field-0.0 _ c.from_residual.ensures.1
    (λ e vs limits. no_row c.args.at c.args.rows.now c.loop-row.row-index c.row-item.result c.row-item.result
    c.loop-row-test.true c.row-item.is (c.in_err-volume_in.ensures.refused e) vs)
