use Rattle.clap.specs.Matches.{found_of}
use Rattle.clap.specs.Walk.{rows_of}
use Rattle.desk_cli.specs.Grammar.{AreTermsOf, IsDeskGiven}
use Rattle.desk_cli.proofs.LackLemmas.{lacks_part}
use Rattle.desk_cli.proofs.line.read_desk.Goals as goal

pub returns-in_err-read_terms-clause-refused : goal.returns-in_err-read_terms-clause-refused
returns-in_err-read_terms-clause-refused c =
    let rows = rows_of (found_of c.args.given.now) in
    lacks_part (AreTermsOf rows) (IsDeskGiven rows _) c.read_terms.result
    c.from_residual-in_err-read_terms.result c.in_err-read_terms.field-0.0
    c.in_err-read_terms.was c.from_residual-in_err-read_terms.ensures.1
    (λ desk h. (desk.terms, h.terms)) c.read_terms.ensures.refused
