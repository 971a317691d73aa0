use Rattle.std.proofs.Common.{◌∙◌, ◌∷◌, [], ap}
use Rattle.volume4d.specs.Slab.{slabs_have}
use Rattle.desk_run.proofs.pending.clear.shares_point.Goals as goal

pub returns : goal.returns
returns c = λ extent slabs.
    c.share_a_point.ensures (extent ∷ []) c.args.row.now.area slabs
    (λ x. ap (λ s. slabs_have s x) c.deref.ensures.value ∙ c.in_ok-slabs.ensures.points x)
