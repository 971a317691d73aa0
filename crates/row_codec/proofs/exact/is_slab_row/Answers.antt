use Rattle.std.proofs.Common.{pos, refl, sym, ap, ◌∙◌}
use Rattle.sqlite_value.specs.Order.{column}
use Rattle.sqlite_value.specs.declared.value.Value.TheVariants.{Int}
use Rattle.row_codec.proofs.lemmas.Exact.{slab_row_is}
use Rattle.row_codec.proofs.exact.is_slab_row.Goals as goal

pub returns : goal.returns
returns c =
    let priority = c.from.ensures ∙ ap (λ p. p.row.priority) c.plan.view_is in (
      (λ t. slab_row_is c.args.plan.now c.as_str.result.now c.args.id.now
          (c.as_str.ensures.value ∙ ap (λ p. p.operator) c.plan.view_is) c.requires.id
          c.args.place c.args.slab.now c.args.row.now (c.if-not-is_keyed.ensures.0 refl)
          (c.if-not-is_count_at.ensures.0 refl) (c.if-not-has_leaves_of.ensures.0 refl).0
          (c.if-not-has_leaves_of.ensures.0 refl).1 (c.if-not-is_window_at.ensures.0 refl)
          (c.is_count_at-2.ensures.0 t ∙ ap (λ n. Int (pos n)) priority)),
      λ e. c.is_count_at-2.ensures.1 (ap (λ r. column r 9) e ∙ ap (λ n. Int (pos n)) (sym priority)),
    )
