use Rattle.std.proofs.Common.{◌≡◌, true, ◌∙◌, sym, true≢false}
use Rattle.serde_json.specs.View.{view}
use Rattle.request_parser.proofs.JsonLemmas.{body_value-read, body_value-refused}
use Rattle.request_parser.proofs.json_in.read_json.Goals as goal

pub returns-in-Ok : goal.returns-in-Ok
returns-in-Ok c = body_value-read c.args.body.now (view c.in-Ok.value) c.in-Ok.ensures.ok.0
    c.in-Ok.ensures.ok.1

pub returns-in-Err-2 : goal.returns-in-Err-2
returns-in-Err-2 c =
    body_value-refused c.args.body.now (c.in-Err.ensures.err (λ memory.
    let yes : c.is_memory.result ≡ true = c.is_memory.ensures.1 memory in
    true≢false (sym yes ∙ c.if-is_memory.false)))
