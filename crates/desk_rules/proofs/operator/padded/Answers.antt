use Rattle.std.proofs.Common.{ℕ, length}
use Rattle.std.proofs.lemmas.List.{drop-replicate}
use Rattle.desk_rules.specs.Limits.{max_name_length}
use Rattle.desk_rules.proofs.operator.padded.Goals as goal

pub returns : goal.returns
returns c = rw (
  c.copy_from_slice.ensures.after,
  drop-replicate {X = ℕ} (length c.args.name.now)
      max_name_length 0,
)
