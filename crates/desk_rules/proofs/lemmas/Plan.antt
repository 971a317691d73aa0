-- Laws of the greatest priority of plans, with their proofs.
use Rattle.std.specs.Prelude.{◌≡◌, List, [], ◌∷◌, None, refl}
use Rattle.volume4d.specs.Volume.{Point}
use Rattle.volume4d.specs.Slab.{greater, level_where}
use Rattle.volume4d.proofs.lemmas.Level.{top_by-cons}
use Rattle.desk_rules.specs.declared.plan.PlanRow.{PlanRow}
use Rattle.desk_rules.specs.Outcome.{row_holds, top_priority}

-- the greatest priority with one more plan
pub top_priority-cons :
    (row : PlanRow) (rows : List PlanRow) (x : Point)
    → top_priority (row ∷ rows) x ≡ greater (level_where (row_holds row x) row.priority) (top_priority rows x)
unfolding top_priority
top_priority-cons row rows x = top_by-cons (λ r. row_holds r x) (λ r. r.priority) row rows

pub top_priority-nil : (x : Point) → top_priority [] x ≡ None
unfolding top_priority
top_priority-nil x = refl
