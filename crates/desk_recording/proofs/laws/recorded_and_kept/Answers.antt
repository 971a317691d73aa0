use Rattle.desk_store.specs.Changes.{IsHonest}
use Rattle.desk_recording.proofs.EndLemmas.{taken_found}
use Rattle.desk_recording.proofs.laws.recorded_and_kept.Goals as goal

pub returns : goal.returns
returns g doubt = λ count done port w left n s found honest taken is was now.
    taken_found (IsHonest doubt) honest g.request_ends.ensures done count port w left n s found taken is
    was now
