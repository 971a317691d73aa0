use Rattle.std.proofs.Common.{◌-◌, ◌*◌, ◌∙◌, sym, arith}
use Rattle.std.proofs.lemmas.Nat.{one_shl}
use Rattle.s2_hilbert.proofs.lemmas.Place.{power_of_four}
use Rattle.s2_hilbert.proofs.squares.leaf_count.Goals as goal

pub returns : goal.returns
returns c = one_shl (2 * (30 - c.args.level)) 64 (omega arith) ∙ sym (power_of_four (30 - c.args.level))
