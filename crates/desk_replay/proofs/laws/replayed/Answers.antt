use Rattle.desk_replay.proofs.LawLemmas.{is_replayed}
use Rattle.desk_replay.proofs.laws.replayed.Goals as goal

pub returns : goal.returns
returns c = λ s requests begun none low. is_replayed s requests begun none low
