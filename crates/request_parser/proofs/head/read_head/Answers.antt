use Rattle.std.proofs.Common.{◌≡◌, ap, ◌∙◌, arith}
use Rattle.httparse.specs.declared.spans.RequestSpans.{RequestSpans}
use Rattle.request_parser.proofs.HeadLemmas.{parts_at-whole, no_parts}
use Rattle.request_parser.proofs.head.read_head.Goals as goal
use Rattle.request_parser.proofs.head.read_head.Goals.{in_default-via-in-Ok+in_default, in_default-via-in_default}

pub returns-in_default : goal.returns-in_default
returns-in_default c =
    no_parts c.args.text.now c.parse_request.new.headers c.parse_request.result
    c.parse_request.ensures.found
    (λ spans is all. elim c.in_default.branch [
      | in_default-via-in-Ok+in_default w ↦ cc
      | in_default-via-in_default w ↦ cc
    ])

pub returns-then-spans-text : goal.returns-then-spans-text
returns-then-spans-text c =
    no_parts c.args.text.now c.parse_request.new.headers c.parse_request.result
    c.parse_request.ensures.found
    (λ spans is all.
    let same : c.in-Ok-Complete.spans ≡ spans = cc in
    c.if-spans-text.true (ap (λ (r : RequestSpans). r.len) same ∙ all))

pub returns : goal.returns
returns c =
    parts_at-whole c.args.text.now c.parse_request.new.headers c.in-Ok-Complete.spans
    (rw c.in-Ok-Complete.field-0-is at c.in-Ok-Complete.ensures.complete) (omega arith)
    c.if-spans-text.false
