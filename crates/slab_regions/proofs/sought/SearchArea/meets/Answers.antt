use Rattle.std.proofs.Common.{◌&&◌, ◌∙◌, ap, rules, sym, tests}
use Rattle.std.proofs.lemmas.Iterator.{YieldsList-from_slice}
use Rattle.std.proofs.lemmas.Iterator.Search.{any_from_yields_List}
use Rattle.std.specs.List.{list_any}
use Rattle.volume4d.specs.Slab.{overlap}
use Rattle.slab_regions.proofs.sought.SearchArea.meets.Goals as goal

pub returns : goal.returns
returns c =
    let test = overlap c.args.slab.now in
    any_from_yields_List test _ _ c.any.result c.any.ensures.ran
    (YieldsList-from_slice c.args.self.now.parts.now (cc)) (λ x b q k. search (rules, tests))
    ∙ ap (λ b. b && list_any test c.args.self.now.parts.now)
    (sym (sym c.overlaps.ensures ∙ c.if-not-overlaps.false))
