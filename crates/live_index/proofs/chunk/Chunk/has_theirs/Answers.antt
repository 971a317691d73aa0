use Rattle.std.proofs.Common.{◌&&◌, ◌∙◌, ap, rules, sym, tests}
use Rattle.std.proofs.lemmas.Iterator.{YieldsList-from_slice}
use Rattle.std.proofs.lemmas.Iterator.Search.{any_from_yields_List}
use Rattle.std.specs.List.{list_any}
use Rattle.live_index.specs.Live.{is_theirs}
use Rattle.live_index.proofs.chunk.Chunk.has_theirs.Goals as goal

pub returns : goal.returns
returns c =
    let test = is_theirs c.args.operator.now c.args.extent.now in
    any_from_yields_List test _ _ c.any.result c.any.ensures.ran
    (YieldsList-from_slice c.deref.result.now (cc)) (λ x b q k. search (rules, tests))
    ∙ ap (list_any test) c.deref.ensures.value
    ∙ ap (λ b. b && list_any test c.args.self.now.volumes.items)
    (sym (sym c.overlaps.ensures ∙ c.if-not-overlaps.false))
