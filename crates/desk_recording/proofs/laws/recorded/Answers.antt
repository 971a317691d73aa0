use Rattle.desk_store.specs.Changes.{IsHonest}
use Rattle.desk_recording.proofs.RecordLemmas.{taken_added}
use Rattle.desk_recording.proofs.laws.recorded.Goals as goal

pub returns : goal.returns
returns g doubt = λ count port w left n s honest taken was now.
    taken_added (IsHonest doubt) honest g.request_ends.ensures count port w left n s taken was now
