use Rattle.std.proofs.Common.{◌≡◌, ◌++◌, ◌<◌, ◌∙◌, List, ap, length, subst, sym}
use Rattle.live_index.specs.declared.group.Group.{Group}
use Rattle.live_index.specs.Live.{volumes_in, volumes_under}
use Rattle.live_index.proofs.GatherLemmas.{insert_after}
use Rattle.live_index.proofs.group.cut.Goals as goal

pub returns-clause-same : goal.returns-clause-same
returns-clause-same c =
    let mid = c.reserve.new.self.items in
    let left = c.halve.new.self in
    let later = c.in_ok-later.later in
    let below : c.args.at < length mid =
    subst (λ (gs : List Group). c.args.at < length gs) (sym c.reserve.ensures.items) c.requires in
    ap volumes_under c.insert_after.ensures
    ∙ insert_after (λ g. volumes_in g.chunks.items) mid c.args.at c.index_mut.result.now left later below
    (subst (λ (g : Group). volumes_in g.chunks.items
    ≡ volumes_in left.chunks.items ++ volumes_in later.chunks.items) c.index_mut.ensures.value
    c.in_ok-later.ensures.same)
    ∙ ap volumes_under c.reserve.ensures.items
