use Rattle.std.proofs.Common.{◌≡◌, ◌∙◌, false, inr, rules, true}
use Rattle.std.specs.Prelude.{string_bytes}
use Rattle.host_files.specs.Naming.{ChangesOwn}
use Rattle.host_files.proofs.lemmas.Naming.{failed_after, failed_if, made_if, takes_both, takes_one}
use Rattle.host_files.proofs.naming.publish.Goals as goal

pub returns-then-not-remove-clause-own : goal.returns-then-not-remove-clause-own
returns-then-not-remove-clause-own g c to are =
    let log : c.deref.result.now ≡ string_bytes c.args.names.now.part_log = search rules in
    takes_one (ChangesOwn to) _ _ c.remove.result _ c.remove.ensures (inr (log ∙ are.part_log_is)) tt

pub returns-then-not-remove-clause-failed : goal.returns-then-not-remove-clause-failed
returns-then-not-remove-clause-failed g c is =
    let failed : c.remove.result ≡ false = search rules in
    failed_if _ _ _ c.remove.result c.remove.ensures failed

pub returns-then-not-rename-clause-own : goal.returns-then-not-rename-clause-own
returns-then-not-rename-clause-own g c to are =
    let log : c.deref.result.now ≡ string_bytes c.args.names.now.part_log = search rules in
    let part : c.deref-2.result.now ≡ string_bytes c.args.names.now.part = search rules in
    let new : c.deref-3.result.now ≡ string_bytes c.args.names.now.to = search rules in
    takes_both (takes_one (ChangesOwn to) _ _ c.remove.result _ c.remove.ensures (inr (log ∙ are.part_log_is))
    tt)
    (takes_one (ChangesOwn to) _ _ c.rename.result _ c.rename.ensures (part ∙ are.part_is, new ∙ are.to_is)
    tt)

pub returns-then-not-rename-clause-failed : goal.returns-then-not-rename-clause-failed
returns-then-not-rename-clause-failed g c is =
    let removed : c.remove.result ≡ true = search rules in
    let failed : c.rename.result ≡ false = search rules in
    failed_after _ _ _ _ (made_if _ _ _ c.remove.result c.remove.ensures removed)
    (failed_if _ _ _ c.rename.result c.rename.ensures failed)

pub returns-clause-own : goal.returns-clause-own
returns-clause-own g c to are =
    let log : c.deref.result.now ≡ string_bytes c.args.names.now.part_log = search rules in
    let part : c.deref-2.result.now ≡ string_bytes c.args.names.now.part = search rules in
    let new : c.deref-3.result.now ≡ string_bytes c.args.names.now.to = search rules in
    takes_both (takes_one (ChangesOwn to) _ _ c.remove.result _ c.remove.ensures (inr (log ∙ are.part_log_is))
    tt)
    (takes_both (takes_one (ChangesOwn to) _ _ c.rename.result _ c.rename.ensures
    (part ∙ are.part_is, new ∙ are.to_is) tt)
    (takes_one (ChangesOwn to) _ _ c.sync_parent.result _ c.sync_parent.ensures tt tt))

pub returns-clause-failed : goal.returns-clause-failed
returns-clause-failed g c is =
    let removed : c.remove.result ≡ true = search rules in
    let renamed : c.rename.result ≡ true = search rules in
    failed_after _ _ _ _ (made_if _ _ _ c.remove.result c.remove.ensures removed)
    (failed_after _ _ _ _ (made_if _ _ _ c.rename.result c.rename.ensures renamed)
    (failed_if _ _ _ c.sync_parent.result c.sync_parent.ensures is))
