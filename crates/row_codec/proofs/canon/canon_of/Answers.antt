use Rattle.std.proofs.Common.{◌∙◌, ap}
use Rattle.std.specs.List.{flat_map}
use Rattle.std.specs.Int.{w64, to_be_bytes}
use Rattle.row_codec.proofs.lemmas.Result.{weaker}
use Rattle.row_codec.proofs.canon.canon_of.Goals as goal

pub returns : goal.returns
returns c =
    weaker c.ids_of.result
    (λ bytes are. are ∙ ap (flat_map (λ id. to_be_bytes w64 id)) (c.cells.ensures.value
    ∙ c.one_canonical_list.ensures _ _ _ c.in_ok-cover.ensures (c.canonical_list_is.ensures _)))
    c.ids_of.ensures
