use Rattle.std.proofs.Common.{◌∙◌, ap}
use Rattle.std.specs.Option.{option_and_then}
use Rattle.operator_index.specs.declared.account.OperatorEntry.{OperatorEntry}
use Rattle.operator_index.proofs.lemmas.Roll.{ceiling_is}
use Rattle.operator_index.proofs.roll.OperatorIndex.ceiling.Goals as goal

pub returns-in_err-account : goal.returns-in_err-account
returns-in_err-account c = λ w h.
    c.from_residual.ensures ∙ ap (option_and_then (λ (a : OperatorEntry). a.ceiling)) c.in_err-account.ensures.value
    ∙ ceiling_is c.args.operator.now w c.args.self.now.accounts.entries h

pub returns : goal.returns
returns c = λ w h.
    ap (option_and_then (λ (a : OperatorEntry). a.ceiling)) c.in_ok-account.ensures.value
    ∙ ceiling_is c.args.operator.now w c.args.self.now.accounts.entries h
