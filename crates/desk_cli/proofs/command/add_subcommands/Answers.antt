use Rattle.std.proofs.Common.{◌≡◌, ◌∙◌, ap, ap₂, sym, true}
use Rattle.clap.specs.Simple.{Shape, shape_of, with_subcommand}
use Rattle.desk_cli.proofs.CommandLemmas.{lines_more, plain_local}
use Rattle.desk_cli.proofs.command.add_subcommands.Goals as goal

pub loop-form-preserved : goal.loop-form-preserved
loop-form-preserved c =
    let plain : (shape_of c.in_ok-make_subcommand.field-0).is_plain ≡ true =
    ap (λ (s : Shape). s.is_plain) c.in_ok-make_subcommand.ensures in
    c.in_ok-command.ensures.shape (plain_local _ _ _ _ plain)
    ∙ (ap₂ with_subcommand c.loop-form.invariant c.in_ok-make_subcommand.ensures
    ∙ sym (lines_more c.args.forms.now c.loop-form.form-index _ c.loop-form-test.true))
