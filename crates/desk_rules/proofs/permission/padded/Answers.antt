use Rattle.std.proofs.Common.{ℕ, length}
use Rattle.std.proofs.lemmas.List.{drop-replicate}
use Rattle.desk_rules.specs.Limits.{max_permitted}
use Rattle.desk_rules.proofs.permission.padded.Goals as goal

pub returns : goal.returns
returns c = rw (
  c.copy_from_slice.ensures.after,
  drop-replicate {X = ℕ} (length c.args.priorities.now)
      max_permitted 0,
)
