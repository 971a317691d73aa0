use Rattle.std.proofs.Common.{◌∙◌, ap}
use Rattle.std.specs.List.{list_any}
use Rattle.std.specs.Ordering.{is_eq}
use Rattle.live_index.specs.Live.{key_cmp}
use Rattle.live_index.proofs.NearLemmas.{listed_among}
use Rattle.live_index.proofs.near.NearPlans.has.Goals as goal

pub returns : goal.returns
returns c =
    let keys = c.args.self.now.keys.keys in
    c.contains.ensures ∙ ap (λ key. list_any (λ k. is_eq (key_cmp key k)) keys) c.key.ensures
    ∙ listed_among keys c.args.live.now
