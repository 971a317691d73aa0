use Rattle.std.proofs.Common.{◌≡◌, ◌∙◌, ◌++◌, ap, nat_abs, subst, sym, true}
use Rattle.std.specs.Result.{is_ok}
use Rattle.io_ends.proofs.lemmas.Moment.{same_moment}
use Rattle.desk_record.specs.Record.{entry}
use Rattle.desk_program.specs.Enrolling.{request_entry, with_request}
use Rattle.desk_recording.specs.RecordWrites.{AppendsKnown}
use Rattle.desk_recording.proofs.WritingLemmas.{notes_synced, request_noted}
use Rattle.desk_recording.proofs.written.WrittenRecordRecord.append_request.Goals as goal

pub returns-clause-noted : goal.returns-clause-noted
returns-clause-noted g c =
    let before = g.J.Journal.writes c.args.self.now.journal in
    let mid = g.J.Journal.writes c.append.new.self.journal in
    let bytes = c.args.bytes.now in
    let text = entry (request_entry (nat_abs c.args.moment.second) bytes) in
    let second : c.unsigned_abs-self.result ≡ nat_abs c.args.moment.second =
    c.unsigned_abs-self.ensures.value
    ∙ ap nat_abs (same_moment c.args.moment.second c.args.moment.in_range) in
    notes_synced c.args.self.now.second c.append.new.self.second before text
    (λ n. with_request n c.args.moment.second bytes)
    (λ old. request_noted (record { text = old; second = c.args.self.now.second }) c.args.moment.second bytes
    c.if-is_empty.ensures ∙ ap (λ s. record { text = old ++ text; second = s })
    (sym (c.append.ensures.second ∙ second))) mid (g.J.Journal.writes c.sync_to.new.journal)
    (is_ok c.sync_to.result)
    (subst (λ s. AppendsKnown before mid true (entry (request_entry s bytes))) second
    c.in_ok-append.ensures.text)
    c.sync_to.ensures.done
