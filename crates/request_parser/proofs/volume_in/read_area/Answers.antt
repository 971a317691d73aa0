use Rattle.std.proofs.Common.{◌∙◌, sym, Vec, Global}
use Rattle.volume4d.specs.declared.volume.Volume.{Volume}
use Rattle.serde_json.specs.View.{items_view}
use Rattle.request_parser.specs.Requests.{each, volume_of}
use Rattle.request_parser.proofs.AreaLemmas.{area_of-uncounted, area_of-counted, made}
use Rattle.request_parser.proofs.JsonLemmas.{gives_again}
use Rattle.request_parser.proofs.volume_in.read_area.Goals as goal

pub returns-then-not-is_volume_count : goal.returns-then-not-is_volume_count
returns-then-not-is_volume_count c = area_of-uncounted c.args.items.now (sym c.if-not-is_volume_count.ensures)

pub returns-in_err-volumes : goal.returns-in_err-volumes
returns-in_err-volumes c =
    let items = c.args.items.now in
    gives_again (λ (v : Vec Volume Global). v.items) c.in_err-volumes.field-0.0
    (each volume_of (items_view items)) (λ area. area) c.from_residual.result _ c.from_residual.ensures.1
    c.in_err-volumes.ensures
    (λ fault is. area_of-counted items (sym c.if-not-is_volume_count.ensures) ∙ is)

pub returns : goal.returns
returns c =
    let items = c.args.items.now in
    let count = sym c.if-not-is_volume_count.ensures in
    let area = rw (made items c.in_ok-volumes.volumes.items count c.in_ok-volumes.ensures) at
    c.try_new.ensures in
    rw (c.ok_or.ensures.value, area) (area_of-counted items count ∙ c.in_ok-volumes.ensures)
