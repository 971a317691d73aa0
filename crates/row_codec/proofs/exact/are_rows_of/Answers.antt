use Rattle.std.proofs.Common.{refl, ap, ◌∙◌}
use Rattle.row_codec.specs.Tables.{id_text}
use Rattle.row_codec.proofs.lemmas.Exact.{rows_are}
use Rattle.row_codec.proofs.exact.are_rows_of.Goals as goal

pub returns : goal.returns
returns c =
    rows_are c.args.plan.now c.as_str.result.now c.encode-id.result.now
    (c.as_str.ensures.value ∙ ap (λ p. p.operator) c.plan.view_is)
    (c.encode-id.ensures.text ∙ ap (λ p. id_text p.row.id) c.plan.view_is)
    c.args.head.now c.args.volumes.now c.are_volume_rows.result (c.if-not-is_keyed.ensures.0 refl)
    c.requires.numbers c.are_volume_rows.ensures
