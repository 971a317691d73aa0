use Rattle.std.proofs.Common.{◌≡◌, ◌∙◌, inl, inr, rules, string_bytes}
use Rattle.host_files.specs.Naming.{ChangesOwn, GivesNoName}
use Rattle.host_files.proofs.lemmas.Naming.{takes_both, takes_one}
use Rattle.desk_admin.proofs.keeping.report_and_discard.Goals as goal

pub returns-then-is_free-clause-gone : goal.returns-then-is_free-clause-gone
returns-then-is_free-clause-gone g c to are =
    takes_one (λ step. ChangesOwn to step × GivesNoName step) _ _ c.is_free.result _ c.is_free.ensures
    (tt, tt) (tt, tt)

pub returns-clause-gone : goal.returns-clause-gone
returns-clause-gone g c to are =
    let part : c.deref-2.result.now ≡ string_bytes c.args.names.now.part = search rules in
    let log : c.deref-3.result.now ≡ string_bytes c.args.names.now.part_log = search rules in
    takes_both (takes_one (λ step. ChangesOwn to step × GivesNoName step) _ _ c.is_free.result _
    c.is_free.ensures (tt, tt) (tt, tt))
    (takes_both (takes_one (λ step. ChangesOwn to step × GivesNoName step) _ _ c.remove.result _
    c.remove.ensures (inl (part ∙ are.part_is), tt) (tt, tt))
    (takes_one (λ step. ChangesOwn to step × GivesNoName step) _ _ c.remove-2.result _
    c.remove-2.ensures (inr (log ∙ are.part_log_is), tt) (tt, tt)))
