use Rattle.std.proofs.Common.{◌≡◌, rules, subst}
use Rattle.desk_program.specs.Enrolling.{IsWrittenAsFarAsPossible}
use Rattle.desk_program.proofs.LineLemmas.{noted}
use Rattle.desk_program.proofs.local.report_line.Goals as goal

pub returns : goal.returns
returns g c =
    let same : c.as_bytes.result.now ≡ c.args.line.now = search rules in
    subst (λ it. IsWrittenAsFarAsPossible it (g.E.Write.contents c.args.errors.now)
    (g.E.Write.contents c.write_whole.new.output)) same
    (noted _ _ _ c.write_whole.result c.write_whole.ensures.ok c.write_whole.ensures.err)
