use Rattle.std.proofs.Common.{◌≡◌, true}
use Rattle.volume4d.specs.Volume.{Point}
use Rattle.volume4d.specs.Slab.{slabs_have, top_held, greater}
use Rattle.desk_rules.specs.Conflict.{at_least}
use Rattle.desk_store.specs.World.{rivals_top, filed_all}
use Rattle.desk_store.proofs.list.rivals_of.Given as goal

-- at points of the extents, the levels so far and those of the plans that are left are the levels of all
abbrev pub invariant-loop-key : goal.invariant-loop-key
invariant-loop-key l = (x : Point) → slabs_have l.extents x ≡ true
    → greater (top_held l.helds.items x) (at_least l.least
    (rivals_top l.operator l.id (filed_all l.key-iterator) x))
    ≡ at_least l.least (rivals_top l.operator l.id (filed_all l.plans.entries) x)
