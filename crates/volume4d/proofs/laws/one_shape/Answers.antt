use Rattle.volume4d.proofs.RectReadings.{same_from_bytes}
use Rattle.volume4d.proofs.laws.one_shape.Goals as goal

pub returns : goal.returns
returns c = same_from_bytes
