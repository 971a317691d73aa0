use Rattle.std.proofs.Common.{inl, inr, rules}
use Rattle.desk_program.proofs.EndLemmas.{ends_unwritten}
use Rattle.desk_program.proofs.looking.print_line.Goals as goal

-- the write failed
pub returns : goal.returns
returns g c = λ line text. inr (inl (
  ends_unwritten _ _ c.from.ensures
      (c.report_exit-in-Err.ensures.status, c.report_exit-in-Err.ensures.reported),
  search rules,
))
