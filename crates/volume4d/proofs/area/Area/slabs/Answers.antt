use Rattle.std.proofs.Common.{◌≡◌, ◌∙◌, subst}
use Rattle.std.specs.Prelude.{IfOk}
use Rattle.std.proofs.lemmas.Result.{IfOk-weaker}
use Rattle.volume4d.specs.Volume.{Point, area_has}
use Rattle.volume4d.specs.Slab.{slabs_have}
use Rattle.volume4d.proofs.SlabPoints.{sorted_points}
use Rattle.volume4d.proofs.area.Area.slabs.Goals as goal

pub returns-clause-points : goal.returns-clause-points
returns-clause-points c =
    subst
    (λ area. IfOk c.sorted_slabs.result
    (λ slabs. (x : Point) → slabs_have slabs.items x ≡ area_has area x))
    (c.deref.ensures.value ∙ c.self.view_is)
    (IfOk-weaker c.sorted_slabs.result _ _
    (λ slabs are. sorted_points c.deref.result.now slabs.items are) c.sorted_slabs.ensures.ranges)
