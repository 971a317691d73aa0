use Rattle.s2_cellid.proofs.LowestBits.{lowest_bit_at}
use Rattle.s2_cellid.proofs.family.lowest_bit_for.Goals as goal

pub returns : goal.returns
returns c = lowest_bit_at c.args.level _ c.requires
