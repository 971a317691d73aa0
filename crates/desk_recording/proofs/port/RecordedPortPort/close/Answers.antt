use Rattle.std.proofs.Common.{refl}
use Rattle.std.specs.Option.{is_some}
use Rattle.desk_recording.proofs.StepLemmas.{closes_so}
use Rattle.desk_recording.proofs.port.RecordedPortPort.close.Goals as goal

pub returns-clause-closed : goal.returns-clause-closed
returns-clause-closed g c =
    let old = c.args.self.now.journal in
    let new = c.record_and_send-broken.new.journal in
    let kept = rw (c.unread_bytes.ensures, c.deref.ensures.value) at c.record_and_send-broken.ensures in
    closes_so (g.R.Record.steps old) (g.R.Record.steps new) (g.R.Record.noted old) (g.R.Record.noted new)
    (is_some c.args.self.now.broken) (is_some c.record_and_send-broken.result.0) _ _
    (g.P.Output.Write.contents c.args.output.to)
    (g.P.Output.Write.contents c.record_and_send-broken.new.client) c.record_and_send-broken.result.1
    kept.sends refl kept.noted kept.whole
