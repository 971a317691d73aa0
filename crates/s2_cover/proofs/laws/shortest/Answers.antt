use Rattle.s2_cover.proofs.Shortest.{no_shorter}
use Rattle.s2_cover.proofs.laws.shortest.Goals as goal

pub returns : goal.returns
returns c = no_shorter
