use Rattle.std.proofs.Common.{refl}
use Rattle.uss_desk.proofs.laws.a_file_has_a_past.Goals as goal

pub returns : goal.returns
returns g c = record { fair = λ _. refl; clean = λ _. refl }
