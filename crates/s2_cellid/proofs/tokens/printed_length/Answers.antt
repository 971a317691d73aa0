use Rattle.s2_cellid.proofs.Spellings.{kept_of-id}
use Rattle.s2_cellid.proofs.tokens.printed_length.Goals as goal

pub returns : goal.returns
returns c = kept_of-id c.args.id c.requires
