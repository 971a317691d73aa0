use Rattle.std.proofs.Common.{◌≡◌, ◌∙◌, subst}
use Rattle.desk_program.specs.Enrolling.{IsWrittenAsFarAsPossible}
use Rattle.desk_program.specs.Serving.{port_line}
use Rattle.desk_program.proofs.local.report_port.Goals as goal

pub returns-in-Ok : goal.returns-in-Ok
returns-in-Ok g c =
    let said : c.deref.result.now ≡ port_line c.args.number c.args.cause.now = c.deref.ensures ∙ c.in-Ok.ensures in
    subst (λ it. IsWrittenAsFarAsPossible it (g.E.Write.contents c.args.errors.now)
    (g.E.Write.contents c.report_line.new.errors)) said c.report_line.ensures
