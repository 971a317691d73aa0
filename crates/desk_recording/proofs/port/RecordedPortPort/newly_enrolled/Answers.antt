use Rattle.std.proofs.Common.{true, subst}
use Rattle.desk_program.specs.Serving.{BringsEnrolments, AddsNothingNew}
use Rattle.desk_recording.specs.Inputs.{reported_by}
use Rattle.desk_recording.proofs.StepLemmas.{brings_enrolments, no_news}
use Rattle.desk_recording.proofs.port.RecordedPortPort.newly_enrolled.Goals as goal

pub returns-in-Ok-append_new_enrolments-clause-brings : goal.returns-in-Ok-append_new_enrolments-clause-brings
returns-in-Ok-append_new_enrolments-clause-brings g c =
    let old = c.args.self.now.journal in
    let new = c.append_new_enrolments.new.self in
    subst (λ b. BringsEnrolments (reported_by g.R.Record old b) (reported_by g.R.Record new b) c.in-Ok.newly_enrolled.items)
    c.if-is_some.ensures
    (brings_enrolments (g.R.Record.steps old) (g.R.Record.steps new) (g.R.Record.noted old) (g.R.Record.noted new)
    c.in-Ok.newly_enrolled.items (rw c.deref.ensures.value at c.in-Ok-append_new_enrolments.ensures.steps)
    (rw c.deref.ensures.value at c.in-Ok-append_new_enrolments.ensures.noted) c.in-Ok.ensures.small
    (rw c.deref.ensures.value at c.in-Ok-append_new_enrolments.ensures.named))

pub returns-in-Err-append_new_enrolments-clause-same : goal.returns-in-Err-append_new_enrolments-clause-same
returns-in-Err-append_new_enrolments-clause-same g c =
    let old = c.args.self.now.journal in
    let new = c.append_new_enrolments.new.self in
    subst (λ b. AddsNothingNew (reported_by g.R.Record old b) (reported_by g.R.Record new true)) c.if-is_some.ensures
    (no_news (g.R.Record.steps old) (g.R.Record.steps new) (g.R.Record.noted old) (g.R.Record.noted new)
    c.deref.result.now c.in-Err-append_new_enrolments.ensures.steps c.in-Err-append_new_enrolments.ensures.noted)
