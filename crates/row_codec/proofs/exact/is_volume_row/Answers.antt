use Rattle.std.proofs.Common.{refl, ap, ◌∙◌}
use Rattle.row_codec.proofs.lemmas.Exact.{volume_row_is}
use Rattle.row_codec.proofs.exact.is_volume_row.Goals as goal

pub returns : goal.returns
returns c =
    λ v. volume_row_is c.args.plan.now c.as_str.result.now c.args.id.now
    (c.as_str.ensures.value ∙ ap (λ p. p.operator) c.plan.view_is) c.requires.id
    c.args.place v c.args.row.now c.is_count_at.result (c.if-not-is_keyed.ensures.0 refl)
    c.is_count_at.ensures
