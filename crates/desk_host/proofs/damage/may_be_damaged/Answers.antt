use Rattle.std.proofs.Common.{inl, inr, ◌∙◌, arith, sym}
use Rattle.std.proofs.lemmas.Bool.{true≢false}
use Rattle.std.proofs.lemmas.Bool.Decides.{leb_tells}
use Rattle.db_file.specs.Wal.{least_damaged}
use Rattle.desk_host.proofs.damage.may_be_damaged.Goals as goal

pub returns-clause-none : goal.returns-clause-none
returns-clause-none c short log len frame commits damaged =
    let long = c.damaged_is_long.ensures log frame commits damaged in
    elim (leb_tells least_damaged c.args.size) [
      | inl h ↦ absurd (true≢false (sym h.0 ∙ short))
      | inr h ↦ omega (arith, h.1, len, long)
    ]
