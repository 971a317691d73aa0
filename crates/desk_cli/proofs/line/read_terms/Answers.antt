use Rattle.std.proofs.Common.{codes}
use Rattle.clap.specs.Matches.{found_of}
use Rattle.clap.specs.Walk.{first_of, rows_of}
use Rattle.desk_cli.specs.Grammar.{ArePermittedBy, AreTermsOf}
use Rattle.desk_cli.proofs.LackLemmas.{lacks_part}
use Rattle.desk_cli.proofs.line.read_terms.Goals as goal

pub returns-in_err-read_permitted-clause-refused : goal.returns-in_err-read_permitted-clause-refused
returns-in_err-read_permitted-clause-refused c =
    let rows = rows_of (found_of c.args.given.now) in
    lacks_part (ArePermittedBy (first_of (codes "equal") rows)) (AreTermsOf rows) c.read_permitted.result
    c.from_residual.result c.in_err-read_permitted.field-0.0 c.in_err-read_permitted.was
    c.from_residual.ensures.1 (λ terms h. (terms.permitted, h.permitted)) c.read_permitted.ensures.refused
