use Rattle.std.proofs.Common.{inl, inr, subst}
use Rattle.desk_admin.specs.FilesReported.{FailsUntried}
use Rattle.host_files.proofs.lemmas.Naming.{gone_changes, gone_unnamed}
use Rattle.desk_admin.proofs.keeping.publish_or_discard.Goals as goal

pub returns-in-Err-clause-fault : goal.returns-in-Err-clause-fault
returns-in-Err-clause-fault g c = inl c.in-Err.is

pub returns-in-Err-clause-named : goal.returns-in-Err-clause-named
returns-in-Err-clause-named g c = λ to are. gone_unnamed (c.report_and_discard.ensures.gone to are)

pub returns-in-Err-clause-own : goal.returns-in-Err-clause-own
returns-in-Err-clause-own g c = λ to are. gone_changes (c.report_and_discard.ensures.gone to are)

pub returns-in-Err-publish_copy-clause-fault : goal.returns-in-Err-publish_copy-clause-fault
returns-in-Err-publish_copy-clause-fault g c =
    let failed = c.in-Err-publish_copy.ensures.failed in
    inr (failed.1, subst (λ f. FailsUntried f c.untried.result) failed.0 c.untried.ensures)

pub returns-in-Err-publish_copy-clause-named : goal.returns-in-Err-publish_copy-clause-named
returns-in-Err-publish_copy-clause-named g c = λ to are. c.in-Err-publish_copy.ensures.unnamed to are
