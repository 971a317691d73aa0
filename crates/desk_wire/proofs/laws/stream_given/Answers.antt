use Rattle.desk_store.specs.Changes.{IsHonest}
use Rattle.desk_wire.proofs.StreamGivenLemmas.{play_given, given_same, play_quiet}
use Rattle.desk_wire.proofs.laws.stream_given.Goals as goal

pub returns : goal.returns
returns c = record {
  first = λ ended doubt. play_given (IsHonest doubt) ended;
  decided = given_same;
  quiet = λ ended doubt. play_quiet (IsHonest doubt) ended;
}
