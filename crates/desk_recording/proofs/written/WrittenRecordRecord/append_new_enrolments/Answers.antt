use Rattle.std.proofs.Common.{refl, map}
use Rattle.std.specs.Result.{is_ok}
use Rattle.desk_record.specs.Record.{entries}
use Rattle.desk_program.specs.Enrolling.{operator_entry, with_news}
use Rattle.desk_recording.proofs.WritingLemmas.{notes_synced}
use Rattle.desk_recording.proofs.written.WrittenRecordRecord.append_new_enrolments.Goals as goal

pub returns-clause-noted : goal.returns-clause-noted
returns-clause-noted g c =
    notes_synced c.args.self.now.second c.append_enrolments.new.self.second
    (g.J.Journal.writes c.args.self.now.journal) (entries (map operator_entry c.args.newly_enrolled.now))
    (λ n. with_news n c.args.newly_enrolled.now) (λ text. rw c.append_enrolments.ensures.second refl)
    (g.J.Journal.writes c.append_enrolments.new.self.journal) (g.J.Journal.writes c.sync_to.new.journal)
    (is_ok c.sync_to.result) c.in_ok-append_enrolments.ensures.text c.sync_to.ensures.done
