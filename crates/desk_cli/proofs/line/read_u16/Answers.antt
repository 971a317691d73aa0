use Rattle.std.specs.Str.Parse.{ExplainsUnsignedError, HasUnsignedDigitsIfOk}
use Rattle.clap.specs.Matches.{found_of}
use Rattle.desk_cli.proofs.GivenLemmas.{number_none, number_read}
use Rattle.desk_cli.proofs.line.read_u16.Goals as goal

pub returns-clause-given : goal.returns-clause-given
returns-clause-given c =
    number_read (λ t r. ExplainsUnsignedError 10 t r) (λ t r. HasUnsignedDigitsIfOk t r) 16
    (found_of c.args.given.now) c.args.id.now c.get_one.result c.get_one.ensures.none c.get_one.ensures.value

pub returns-clause-refused : goal.returns-clause-refused
returns-clause-refused c =
    number_none (λ t r. ExplainsUnsignedError 10 t r) (λ t r. HasUnsignedDigitsIfOk t r) 16
    (found_of c.args.given.now) c.args.id.now c.get_one.result c.get_one.ensures.value
