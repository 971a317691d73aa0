use Rattle.std.proofs.Common.{w8, w16, arith, ◌∙◌}
use Rattle.std.proofs.lemmas.Int.{to_z_pos}
use Rattle.request_parser.proofs.TimeLemmas.{civil_test, same_when_ok}
use Rattle.request_parser.proofs.times.to_date_time.Goals as goal

pub returns-clause-exists : goal.returns-clause-exists
returns-clause-exists c =
    let w = c.args.civil in
    let short = c.requires in
    let year = to_z_pos w16 w.year (omega arith) in
    let month = to_z_pos w8 w.month (omega arith) in
    let day = to_z_pos w8 w.day (omega arith) in
    let hour = to_z_pos w8 w.hour (omega arith) in
    let minute = to_z_pos w8 w.minute (omega arith) in
    let second = to_z_pos w8 w.second (omega arith) in
    let taken = simp (year, month, day, hour, minute, second) at c.new.ensures.succeeds in
    c.ok.ensures.variant ∙ same_when_ok c.new.result _ taken (civil_test w short)
