use Rattle.std.proofs.Common.{inl, inr, ◌∙◌, arith, sym}
use Rattle.std.proofs.lemmas.Bool.{true≢false}
use Rattle.std.proofs.lemmas.Bool.Decides.{leb_tells}
use Rattle.db_file.specs.Wal.{least_with_commit}
use Rattle.desk_host.proofs.damage.may_have_commit.Goals as goal

pub returns-clause-none : goal.returns-clause-none
returns-clause-none c short log len has =
    let long = c.commits_are_long.ensures log has in
    elim (leb_tells least_with_commit c.args.size) [
      | inl h ↦ absurd (true≢false (sym h.0 ∙ short))
      | inr h ↦ omega (arith, h.1, len, long)
    ]
