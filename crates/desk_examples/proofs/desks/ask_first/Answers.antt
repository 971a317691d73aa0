use Rattle.std.proofs.Common.{refl}
use Rattle.desk_examples.proofs.DeskLemmas.{nothing_changed, unchanged}
use Rattle.desk_examples.proofs.desks.ask_first.Goals as goal

pub returns : goal.returns
returns g c = λ honest. unchanged c.call.result (c.call.ensures.ok honest) c.call.ensures.leaves.same
    (nothing_changed _ _ _ _ refl)
