use Rattle.std.proofs.Common.{◌≡◌, map, take}
use Rattle.clap.specs.Simple.{app_of}
use Rattle.desk_cli.specs.Malformed.{shape_of_form}
use Rattle.desk_cli.specs.Grammar as spec
use Rattle.desk_cli.proofs.command.add_subcommands.Given as goal

abbrev pub invariant-loop-form : goal.invariant-loop-form
invariant-loop-form l = app_of l.command ≡ spec.with_lines (map shape_of_form (take l.form-index l.forms))
