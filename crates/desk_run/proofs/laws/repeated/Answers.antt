use Rattle.desk_run.proofs.lemmas.Repeat.{enrolled_again, step_again}
use Rattle.desk_run.proofs.laws.repeated.Goals as goal

pub returns : goal.returns
returns c = record {
  call = λ w operator moment call. step_again w operator moment call;
  enrolment = λ w name ceiling. enrolled_again w name ceiling;
}
