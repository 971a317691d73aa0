use Rattle.std.specs.Str.Parse.{ExplainsSignedError, HasSignedDigitsIfOk}
use Rattle.clap.specs.Matches.{found_of}
use Rattle.desk_cli.proofs.GivenLemmas.{second_none, second_read}
use Rattle.desk_cli.proofs.line.read_i64.Goals as goal

pub returns-clause-given : goal.returns-clause-given
returns-clause-given c =
    second_read (λ t r. ExplainsSignedError 10 t r) (λ t r. HasSignedDigitsIfOk t r)
    (found_of c.args.given.now) c.args.id.now c.get_one.result c.get_one.ensures.none c.get_one.ensures.value

pub returns-clause-refused : goal.returns-clause-refused
returns-clause-refused c =
    second_none (λ t r. ExplainsSignedError 10 t r) (λ t r. HasSignedDigitsIfOk t r)
    (found_of c.args.given.now) c.args.id.now c.get_one.result c.get_one.ensures.value
