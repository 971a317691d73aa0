use Rattle.std.proofs.Common.{◌≡◌, ◌∙◌, sym, ap, Err}
use Rattle.serde_json.specs.View.{view}
use Rattle.request_parser.specs.Requests.{volume_of}
use Rattle.request_parser.specs.declared.wire_fault.WireFault.{WireFault}
use Rattle.request_parser.proofs.EachLemmas.{read_from-start, read_from-more, read_from-stop, read_from-end}
use Rattle.request_parser.proofs.JsonLemmas.{gives_again}
use Rattle.request_parser.proofs.volume_in.read_volumes.Goals as goal

pub loop-item-init : goal.loop-item-init
loop-item-init c = rw c.new-volumes.ensures.items (read_from-start volume_of c.args.items.now)

pub returns-in_err-read_volume : goal.returns-in_err-read_volume
returns-in_err-read_volume c =
    let item = c.item-item.result in
    let at : volume_of (view item) ≡ volume_of (view _) = ap (λ v. volume_of (view v)) c.item-item.is in
    let stop = λ (fault : WireFault) (is : volume_of (view item) ≡ Err fault). read_from-stop volume_of
    c.loop-item.volumes.items c.args.items.now c.loop-item.item-index item fault c.loop-item-test.true
    (sym at ∙ is) in
    gives_again (λ volume. volume) c.in_err-read_volume.field-0.0 (volume_of (view item)) (λ v. v.items)
    c.from_residual.result _ c.from_residual.ensures.1 c.in_err-read_volume.ensures
    (λ fault is. c.loop-item.invariant ∙ stop fault is)

pub loop-item-preserved : goal.loop-item-preserved
loop-item-preserved c =
    let item = c.item-item.result in
    let at : volume_of (view item) ≡ volume_of (view _) = ap (λ v. volume_of (view v)) c.item-item.is in
    let more = read_from-more volume_of c.loop-item.volumes.items c.args.items.now c.loop-item.item-index item
    c.in_ok-read_volume.field-0 c.loop-item-test.true (sym at ∙ c.in_ok-read_volume.ensures) in
    rw c.in_ok-push.ensures.items (c.loop-item.invariant ∙ more)

pub returns : goal.returns
returns c =
    c.loop-item.invariant ∙ read_from-end volume_of c.loop-item.volumes.items c.args.items.now
    c.loop-item.item-index c.loop-item-test.false
