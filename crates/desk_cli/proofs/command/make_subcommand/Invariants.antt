use Rattle.std.proofs.Common.{◌≡◌, map, take}
use Rattle.clap.specs.Simple.{shape_of}
use Rattle.desk_cli.specs.Malformed.{rule_of_row}
use Rattle.desk_cli.specs.Grammar.{line_shape}
use Rattle.desk_cli.proofs.command.make_subcommand.Given as goal

abbrev pub invariant-loop-word : goal.invariant-loop-word
invariant-loop-word l =
    shape_of l.command ≡ line_shape l.form.name.now (map rule_of_row (take l.word-index l.form.words.now))
