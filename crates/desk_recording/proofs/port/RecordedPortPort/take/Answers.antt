use Rattle.std.proofs.Common.{Some, subst, true}
use Rattle.desk_program.specs.Serving.{AddsNothingNew, TakesArrival, arrived}
use Rattle.desk_recording.specs.Inputs.{reported_by}
use Rattle.desk_recording.proofs.StepLemmas.{none_taken, takes_one}
use Rattle.desk_recording.proofs.port.RecordedPortPort.take.Goals as goal

pub returns-in-Ok-append_request-clause-taken : goal.returns-in-Ok-append_request-clause-taken
returns-in-Ok-append_request-clause-taken g c =
    let old = c.args.self.now.journal in
    let new = c.append_request.new.self in
    let moment = c.in-Ok.taken.moment in
    let request = c.in-Ok-receive_or_empty.received.request.items in
    rw (c.new.ensures.position, c.new.ensures.inner)
    (subst (λ b. TakesArrival (reported_by g.R.Record old b) (reported_by g.R.Record new b)
    (arrived moment.second (Some request))) c.if-is_some.ensures
    (takes_one (g.R.Record.steps old) (g.R.Record.steps new) (g.R.Record.noted old) (g.R.Record.noted new)
    moment.second request (rw c.deref.ensures.value at c.in-Ok-append_request.ensures.steps)
    (rw c.deref.ensures.value at c.in-Ok-append_request.ensures.noted)
    moment.in_range
    (λ some. (c.in-Ok-receive_or_empty.ensures.whole some).whole)))

pub returns-in-Err-append_request-clause-same : goal.returns-in-Err-append_request-clause-same
returns-in-Err-append_request-clause-same g c =
    let old = c.args.self.now.journal in
    let new = c.append_request.new.self in
    subst (λ b. AddsNothingNew (reported_by g.R.Record old b) (reported_by g.R.Record new true)) c.if-is_some.ensures
    (none_taken (g.R.Record.steps old) (g.R.Record.steps new) (g.R.Record.noted old) (g.R.Record.noted new)
    c.in-Ok.taken.moment.second c.deref.result.now c.in-Err-append_request.ensures.steps
    c.in-Err-append_request.ensures.noted)
