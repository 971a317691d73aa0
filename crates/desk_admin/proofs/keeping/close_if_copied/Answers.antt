use Rattle.std.proofs.Common.{IfErr, IfOk, subst}
use Rattle.desk_tables.specs.Copying.{AreNotCopied}
use Rattle.desk_admin.proofs.KeepLemmas.{refused_copy}
use Rattle.desk_admin.specs.ScratchCopies.{IsStoredAs}
use Rattle.desk_admin.proofs.keeping.close_if_copied.Goals as goal

pub returns-in-Ok-clause-made : goal.returns-in-Ok-clause-made
returns-in-Ok-clause-made g c = λ image other stored.
    c.close_copy.ensures.made image other
    (subst (λ r. IfOk r (IsStoredAs image other)) c.in-Ok.is stored)

pub returns-in-Ok-clause-fault : goal.returns-in-Ok-clause-fault
returns-in-Ok-clause-fault g c = λ image other stored are.
    c.close_copy.ensures.fault image other
    (subst (λ r. IfOk r (IsStoredAs image other)) c.in-Ok.is stored)

pub returns-in-Err-clause-fault : goal.returns-in-Err-clause-fault
returns-in-Err-clause-fault g c = λ image other stored are.
    refused_copy image other c.refused_copy.result c.in-Err.refused c.refused_copy.ensures
    (subst (λ r. IfErr r (AreNotCopied image other)) c.in-Err.is are)
