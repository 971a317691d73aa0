use Rattle.desk_wire.proofs.HeadlineLemmas as lemma
use Rattle.desk_wire.proofs.laws.headline.Goals as goal

pub returns : goal.returns
returns c = lemma.headline
