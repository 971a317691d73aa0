use Rattle.desk_store.specs.Changes.{IsHonest}
use Rattle.desk_store.proofs.lemmas.Fault.{was_honest}
use Rattle.desk_examples.proofs.DeskLemmas.{listed_after}
use Rattle.desk_examples.proofs.desks.plan_and_list.Goals as goal

pub returns : goal.returns
returns g c = λ honest other planned.
    let before : IsHonest (g.S.PlanStore.doubt c.call.new.self.store)
    = was_honest c.call-2.ensures.leaves.remembered.doubt honest in
    listed_after _ _ _ _ _ _ _ other (c.in_ok-planned.ensures.reported before)
    (rw (c.in_ok-planned.ensures.ok before) at c.in_ok-call.ensures.reported honest) planned
