use Rattle.std.proofs.Common.{◌∙◌, IsSome, ap, refl, subst, sym}
use Rattle.operator_index.specs.Roll.{HasRoomIn, account_in}
use Rattle.operator_index.proofs.lemmas.Roll.{AreWritten, followed}
use Rattle.operator_index.proofs.roll.OperatorIndex.update_after.Goals as goal

pub apply_change-requires : goal.apply_change-requires
apply_change-requires c =
    subst HasRoomIn (sym (c.in-Some.ensures.value
    ∙ ap (λ name. account_in name c.args.self.now.accounts.entries) c.changed_operator.ensures)) c.requires

pub returns-in-Some : goal.returns-in-Some
returns-in-Some c = λ w h.
    let old = c.args.self.now.accounts.entries in
    let new = (c.get_mut.follows.lender c.apply_change.new.self).entries in
    let some = subst IsSome c.in-Some.ensures.value refl in
    followed c.args.change.now w old new c.in-Some.account.now c.apply_change.new.self
    (subst (λ name. AreWritten name old new c.apply_change.new.self) c.changed_operator.ensures
    (record { each = ((c.get_mut.follows.holds _).3 some).0 }))
    (c.in-Some.ensures.value ∙ ap (λ name. account_in name old) c.changed_operator.ensures) h
    c.apply_change.ensures.ceiling c.apply_change.ensures.plans
