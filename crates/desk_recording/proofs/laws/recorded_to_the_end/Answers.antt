use Rattle.desk_store.specs.Changes.{IsHonest}
use Rattle.desk_recording.proofs.EndLemmas.{taken_end}
use Rattle.desk_recording.proofs.laws.recorded_to_the_end.Goals as goal

pub returns : goal.returns
returns g doubt = λ count done port w left n s honest taken was now.
    taken_end (IsHonest doubt) honest g.request_ends.ensures done count port w left n s taken was now
