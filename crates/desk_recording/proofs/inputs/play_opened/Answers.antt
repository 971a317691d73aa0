use Rattle.desk_recording.proofs.inputs.play_opened.Goals as goal

pub returns-in-Ok-clause-opened : goal.returns-in-Ok-clause-opened
returns-in-Ok-clause-opened g c = rw c.in-Ok.is c.play_recorded-exit.ensures
