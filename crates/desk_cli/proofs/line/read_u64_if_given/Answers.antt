use Rattle.std.specs.Str.Parse.{ExplainsUnsignedError, HasUnsignedDigitsIfOk}
use Rattle.clap.specs.Matches.{found_of}
use Rattle.desk_cli.proofs.GivenLemmas.{tried_none, tried_read}
use Rattle.desk_cli.proofs.line.read_u64_if_given.Goals as goal

pub returns-clause-given : goal.returns-clause-given
returns-clause-given c =
    tried_read (λ t r. ExplainsUnsignedError 10 t r) (λ t r. HasUnsignedDigitsIfOk t r) 64
    (found_of c.args.given.now) c.args.id.now c.try_get_one.result c.ok.result c.ok.ensures.value
    c.try_get_one.ensures.none c.try_get_one.ensures.value

pub returns-clause-refused : goal.returns-clause-refused
returns-clause-refused c =
    tried_none (λ t r. ExplainsUnsignedError 10 t r) (λ t r. HasUnsignedDigitsIfOk t r) 64
    (found_of c.args.given.now) c.args.id.now c.try_get_one.result c.ok.result c.ok.ensures.value
    c.try_get_one.ensures.none c.try_get_one.ensures.value
