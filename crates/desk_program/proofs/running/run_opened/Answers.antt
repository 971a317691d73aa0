use Rattle.desk_program.proofs.running.run_opened.Goals as goal

pub returns-in-Ok-clause-opened : goal.returns-in-Ok-clause-opened
returns-in-Ok-clause-opened g c = rw c.in-Ok.is c.carry_out-exit.ensures
