use Rattle.std.proofs.Common.{w32, w64, SFits, refl, ap, ◌∙◌, rules}
use Rattle.std.proofs.lemmas.Int.{to_z-of_z}
use Rattle.sqlite_value.specs.declared.value.Value.TheVariants.{Int}
use Rattle.row_codec.proofs.exact.is_window_at.Goals as goal

pub returns : goal.returns
returns c =
    let lower : SFits w64 c.from.result = search rules in
    let upper : SFits w64 c.from-2.result = search rules in
    let start : SFits w64 c.args.slab.now.start = search rules in
    let end : SFits w64 c.args.slab.now.end = search rules in
    let lower_is = simp to_z-of_z at (c.if-not-is_number_at.ensures.0 refl) in
    let upper_is = simp to_z-of_z at (c.if-not-is_number_at-2.ensures.0 refl) in
    let start_is = simp to_z-of_z at (c.if-not-is_number_at-3.ensures.0 refl) in
    let end_is = simp to_z-of_z at c.is_number_at-4.ensures in
    let low : SFits w32 c.args.slab.now.lower = search rules in
    let high : SFits w32 c.args.slab.now.upper = search rules in
    let from_lower = simp to_z-of_z at c.from.ensures in
    let from_upper = simp to_z-of_z at c.from-2.ensures in (
      (λ t. record {
        lower = lower_is ∙ ap Int from_lower;
        upper = upper_is ∙ ap Int from_upper;
        start = start_is;
        end = end_is.0 t;
      }),
      λ h. end_is.1 h.end,
    )
