use Rattle.std.proofs.Common.{◌∙◌}
use Rattle.clap.specs.Matches.{found_of}
use Rattle.desk_cli.proofs.GivenLemmas.{flag_read}
use Rattle.desk_cli.proofs.line.is_flag_set.Goals as goal

pub returns : goal.returns
returns c =
    c.unwrap_or.ensures
    ∙ flag_read _ (found_of c.args.given.now) c.args.id.now c.get_one.result
    c.get_one.ensures.none c.get_one.ensures.value
