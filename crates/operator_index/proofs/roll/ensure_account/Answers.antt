use Rattle.std.proofs.Common.{◌∙◌, None, ap, sym}
use Rattle.std.specs.Option.{option_and_then}
use Rattle.operator_index.specs.declared.account.OperatorEntry.{OperatorEntry}
use Rattle.operator_index.specs.Roll.{account_in, plans_or_none}
use Rattle.operator_index.proofs.lemmas.Roll.{absent, written_same}
use Rattle.operator_index.proofs.roll.ensure_account.Goals as goal

pub returns-clause-kept : goal.returns-clause-kept
returns-clause-kept c = λ ls ps h.
    let o = c.args.operator.now in
    let old = c.args.accounts.now.entries in
    let none = absent (account_in o old) c.if-contains_key.ensures in
    let made : OperatorEntry = record { ceiling = None; plans = c.new.result } in
    written_same o old c.insert.new.self.entries made ls ps
    (record { each = c.in_ok-insert.ensures.updates.0 })
    h (sym (ap (option_and_then (λ (a : OperatorEntry). a.ceiling)) none))
    (c.new.ensures.items ∙ sym (ap plans_or_none none))
