use Rattle.std.proofs.Common.{◌∙◌, ap, sym}
use Rattle.live_index.specs.declared.group.Group.{Group}
use Rattle.live_index.specs.Live.{volumes_in, volumes_under}
use Rattle.live_index.proofs.GatherLemmas.{removed}
use Rattle.live_index.proofs.group.drop_if_empty.Goals as goal

pub returns-then-is_empty-clause-same : goal.returns-then-is_empty-clause-same
returns-then-is_empty-clause-same c =
    ap volumes_under c.remove-empty.ensures.items
    ∙ removed (λ g. volumes_in g.chunks.items) c.args.groups.now.items c.args.at c.index.result.now c.requires
    (ap (λ (g : Group). volumes_in g.chunks.items) (sym c.index.ensures)
    ∙ ap volumes_in (c.is_empty.ensures c.if-is_empty.true))
