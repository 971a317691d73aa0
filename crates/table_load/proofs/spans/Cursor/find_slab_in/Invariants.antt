use Rattle.std.proofs.Common.{◌≡◌, ◌∷◌, List, ◌-◌, drop, length}
use Rattle.std.specs.Prelude.{◌↔◌}
use Rattle.sqlite_value.specs.Order.{Row}
use Rattle.desk_store.specs.World.{Filed}
use Rattle.table_load.specs.SpanChecks.{AreAwaited}
use Rattle.table_load.proofs.spans.Cursor.find_slab_in.Given as goal

abbrev pub invariant-loop-self : goal.invariant-loop-self
invariant-loop-self l =
    (l.self-inside.plan ≡ l.fn.self.plan)
    × ((later : List Filed) (rows : List Row)
    → AreAwaited (l.plan ∷ later) (drop l.fn.self.next l.fn.self.slabs) l.fn.self.shown l.fn.self.place rows
    ↔ AreAwaited (l.plan ∷ later) (drop l.self-inside.next l.self-inside.slabs.items) l.self-inside.shown
    l.self-inside.place rows)

abbrev pub decreases-loop-self : goal.decreases-loop-self
decreases-loop-self l = length l.plan.row.area - l.self-inside.place
