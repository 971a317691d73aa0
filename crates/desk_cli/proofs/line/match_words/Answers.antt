use Rattle.std.proofs.Common.{◌≡◌, ◌∙◌, ap, map, string_bytes}
use Rattle.clap.specs.Simple.{App, app_of, is_simple, subcommand_of}
use Rattle.desk_cli.specs.Grammar.{program}
use Rattle.desk_cli.proofs.CommandLemmas.{program_is_simple}
use Rattle.desk_cli.proofs.LackLemmas.{untaken}
use Rattle.desk_cli.proofs.line.match_words.Goals as goal

pub returns-clause-found : goal.returns-clause-found
returns-clause-found c =
    let app_is : app_of c.in_ok-make_command.field-0 ≡ program = c.in_ok-make_command.ensures in
    (c.in_ok-try_get_matches_from.ensures.matches (ap is_simple app_is ∙ program_is_simple)).1
    ∙ ap (λ (a : App). subcommand_of a (map string_bytes c.args.words.now)) app_is

pub returns-in_err-try_get_matches_from-clause-refused :
    goal.returns-in_err-try_get_matches_from-clause-refused
returns-in_err-try_get_matches_from-clause-refused c =
    untaken (map string_bytes c.args.words.now) (app_of c.in_ok-make_command.field-0) _ _
    c.in_ok-make_command.ensures c.from_residual-in_err-try_get_matches_from.ensures.1
    c.in_err-try_get_matches_from.ensures.passes
