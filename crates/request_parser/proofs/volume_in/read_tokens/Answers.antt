use Rattle.std.proofs.Common.{◌≡◌, ◌∙◌, sym, ap}
use Rattle.serde_json.specs.View.{view}
use Rattle.request_parser.specs.Requests.{token_of}
use Rattle.request_parser.proofs.EachLemmas.{read_from-start, read_from-more, read_from-stop, read_from-end}
use Rattle.request_parser.proofs.JsonLemmas.{gives_fault}
use Rattle.request_parser.proofs.volume_in.read_tokens.Goals as goal

pub loop-item-init : goal.loop-item-init
loop-item-init c = rw c.new-cells.ensures.items (read_from-start token_of c.args.items.now)

pub returns-in_err-read_cell : goal.returns-in_err-read_cell
returns-in_err-read_cell c =
    let item = c.item-item.result in
    let fault = c.in_err-read_cell.field-0.0 in
    let at : token_of (view item) ≡ token_of (view _) = ap (λ v. token_of (view v)) c.item-item.is in
    let stop = read_from-stop token_of c.loop-item.cells.items c.args.items.now c.loop-item.item-index item
    fault c.loop-item-test.true (sym at ∙ sym c.in_err-read_cell.ensures) in
    gives_fault (λ v. v.items) c.from_residual.result fault _ c.from_residual.ensures.1
    (c.loop-item.invariant ∙ stop)

pub loop-item-preserved : goal.loop-item-preserved
loop-item-preserved c =
    let item = c.item-item.result in
    let at : token_of (view item) ≡ token_of (view _) = ap (λ v. token_of (view v)) c.item-item.is in
    let more = read_from-more token_of c.loop-item.cells.items c.args.items.now c.loop-item.item-index item
    c.in_ok-read_cell.field-0 c.loop-item-test.true (sym at ∙ sym c.in_ok-read_cell.ensures) in
    rw c.in_ok-push.ensures.items (c.loop-item.invariant ∙ more)

pub returns : goal.returns
returns c =
    c.loop-item.invariant ∙ read_from-end token_of c.loop-item.cells.items c.args.items.now
    c.loop-item.item-index c.loop-item-test.false
