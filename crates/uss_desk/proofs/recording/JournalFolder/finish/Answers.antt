use Rattle.std.proofs.Common.{Err, Ok, subst}
use Rattle.sqlite.specs.Files.{over_files}
use Rattle.uss_desk.specs.Finishing.{Finishes, pending_at}
use Rattle.uss_desk.proofs.FinishLemmas.{finished, still_unfinished}
use Rattle.uss_desk.proofs.RunLemmas.{tested_anew}
use Rattle.uss_desk.proofs.recording.JournalFolder.finish.Goals as goal

pub returns-in-Ok-clause-finishes : goal.returns-in-Ok-clause-finishes
returns-in-Ok-clause-finishes g c =
    subst (λ left. Finishes over_files left c.args.roll.now c.args.desk (Ok c.opened_anew.result))
    c.in-Some.ensures.value
    (finished over_files (pending_at c.in-Some.undone c.args.roll.now) c.args.desk c.recover.new.desk
    c.opened_anew.result c.in-Ok.ensures.done c.in-Ok.ensures.kept c.opened_anew.ensures.same)

pub returns-in-Ok-clause-tested : goal.returns-in-Ok-clause-tested
returns-in-Ok-clause-tested g c =
    tested_anew c.args.desk c.recover.new.desk c.opened_anew.result c.recover.ensures.remembered
    c.opened_anew.ensures.same

pub returns-in-Err-clause-finishes : goal.returns-in-Err-clause-finishes
returns-in-Err-clause-finishes g c =
    subst (λ left. Finishes over_files left c.args.roll.now c.args.desk (Err c.close_failed.result))
    c.in-Some.ensures.value
    (still_unfinished c.in-Some.undone.tail.asked c.recover.new.desk c.in-Err.failure c.close_failed.result
    c.close_failed.ensures c.in-Err.ensures.cause)
