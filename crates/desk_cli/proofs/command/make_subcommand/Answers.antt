use Rattle.std.proofs.Common.{◌≡◌, ◌∙◌, ◌++◌, ◌∷◌, [], ap, ap₂, refl, sym, true, false, not, is_some}
use Rattle.clap.specs.Simple.{App, Shape}
use Rattle.clap.specs.Walk.{Rule, is_empty, rule_of}
use Rattle.desk_cli.proofs.CommandLemmas.{simple_local, simple_kind, words_more}
use Rattle.desk_cli.proofs.command.make_subcommand.Goals as goal

pub loop-word-preserved : goal.loop-word-preserved
loop-word-preserved c =
    let a = c.make_arg.result in
    let simple : (rule_of a).is_simple ≡ true =
    ap (λ (r : Rule). r.is_simple) c.make_arg.ensures ∙ simple_kind _ _ refl in
    let local : a.global ≡ false =
    simple_local (is_empty a.overrides.items) (is_empty a.default_vals_ifs.items)
    (is_empty a.groups.items) (not (is_some a.val_delim)) (not (is_some a.terminator))
    (not a.allow_hyphen_values) (not a.allow_negative_numbers) (not a.require_equals)
    (not a.last) a.global simple in
    ap (λ (p : App). p.top) (c.in_ok-command.ensures.shape local)
    ∙ (ap₂ (λ (s : Shape) (r : Rule). record s { rules = s.rules ++ r ∷ [] }) c.loop-word.invariant
    c.make_arg.ensures
    ∙ sym (words_more c.args.form.now.name.now c.args.form.now.words.now c.loop-word.word-index _
    c.loop-word-test.true))
