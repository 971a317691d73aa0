use Rattle.desk_wire.proofs.GivenLemmas.{first_given, given_alike, given_quiet}
use Rattle.desk_wire.proofs.laws.answers_given.Goals as goal

pub returns : goal.returns
returns c = record {
  first = first_given;
  decided = given_alike;
  quiet = λ end w after requests answers given operator.
      given_quiet end w after requests answers operator given;
}
