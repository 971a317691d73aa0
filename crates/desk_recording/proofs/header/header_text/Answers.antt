use Rattle.desk_recording.proofs.BeginningLemmas.{is_header}
use Rattle.desk_recording.proofs.header.header_text.Goals as goal

pub returns : goal.returns
returns c =
    is_header c.args.number c.args.terms.now c.args.operators.now c.new-text.result.items _ _ _ _ _
    c.new-text.ensures.items c.in_ok-write_entry.ensures.ok c.in_ok-write_permitted.ensures
    c.in_ok-write_limit.ensures c.in_ok-write_limit-2.ensures c.in_ok-write_operators.ensures.text
