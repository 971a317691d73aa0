use Rattle.std.proofs.Common.{◌∙◌, IsSome, ap, refl, subst}
use Rattle.std.specs.Option.{option_and_then}
use Rattle.operator_index.specs.declared.account.OperatorEntry.{OperatorEntry}
use Rattle.operator_index.specs.Roll.{plans_or_none}
use Rattle.operator_index.proofs.lemmas.Roll.{written_same}
use Rattle.operator_index.proofs.roll.make_room.Goals as goal

pub returns-in-Some-clause-kept : goal.returns-in-Some-clause-kept
returns-in-Some-clause-kept c = λ ls ps h.
    let some = subst IsSome c.in-Some.ensures.value refl in
    written_same c.args.operator.now c.args.accounts.now.entries _ c.make_room.new.self ls ps
    (record { each = ((c.get_mut.follows.holds _).3 some).0 }) h
    (c.make_room.ensures.ceiling
    ∙ ap (option_and_then (λ (a : OperatorEntry). a.ceiling)) c.in-Some.ensures.value)
    (c.make_room.ensures.plans ∙ ap plans_or_none c.in-Some.ensures.value)
