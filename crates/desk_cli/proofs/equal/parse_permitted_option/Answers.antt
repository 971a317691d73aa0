use Rattle.std.proofs.Common.{◌∙◌, ap, map, option_map, subst}
use Rattle.desk_rules.specs.Limits.{permitted_in}
use Rattle.desk_cli.specs.Grammar.{ArePermittedBy, priority_in}
use Rattle.desk_cli.proofs.LackLemmas.{not_permitted}
use Rattle.desk_cli.proofs.equal.parse_permitted_option.Goals as goal

pub returns-in_default-try_new-clause-refused : goal.returns-in_default-try_new-clause-refused
returns-in_default-try_new-clause-refused c = λ ps h.
    not_permitted c.in-Some.word.now ps c.in_ok-priorities.priorities.items c.try_new.result c.in_default-try_new.field-0
    (c.try_new.ensures ∙ ap permitted_in c.deref-2.ensures.value) c.in_default-try_new.is
    (c.in_ok-priorities.ensures.given
    ∙ (ap (λ xs. map priority_in (map (λ part. part.now) xs)) c.deref.ensures.value
    ∙ ap (map priority_in) c.in_ok-split_at_commas.ensures))
    (subst (λ word. ArePermittedBy (option_map (λ word. word.now) word) ps) c.in-Some.is h)
