use Rattle.std.proofs.Common.{◌≡◌}
use Rattle.volume4d.specs.Volume.{Point}
use Rattle.volume4d.specs.Slab.{top_held, greater}
use Rattle.desk_store.specs.World.{others_top, filed_all}
use Rattle.desk_store.proofs.list.others_in.Given as goal

-- the levels so far and those of the plans that are left are the levels of all
abbrev pub invariant-loop-key : goal.invariant-loop-key
invariant-loop-key l = (x : Point)
    → greater (top_held l.helds.items x) (others_top l.operator (filed_all l.key-iterator) x)
    ≡ others_top l.operator (filed_all l.plans.entries) x
