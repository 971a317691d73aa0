-- The volumes of an area, and their number.
use Rattle.std.proofs.Common.{◌≡◌, ◌∙◌, List, true, false, length, Ok, Err, ap}
use Rattle.std.specs.Int.{is_in_range}
use Rattle.volume4d.specs.VolumeLimits.{max_volumes}
use Rattle.volume4d.specs.Volume.{Block, is_area}
use Rattle.serde_json.proofs.Views.{items_len-items_view}
use Rattle.serde_json.specs.View.{items_view}
use Rattle.serde_json.specs.declared.value.Value.{Value}
use Rattle.request_parser.proofs.EachLemmas.{length-each}
use Rattle.request_parser.specs.Requests.{each, volume_of, area_of}
use Rattle.request_parser.specs.declared.wire_fault.WireFault.TheVariants.{BadVolume}

pub area_of-uncounted : (vs : List Value) → is_in_range 1 max_volumes (length vs) ≡ false
    → area_of (items_view vs) ≡ Err BadVolume
unfolding area_of
area_of-uncounted vs count = rw (items_len-items_view vs, count)

pub area_of-counted : (vs : List Value) → is_in_range 1 max_volumes (length vs) ≡ true
    → area_of (items_view vs) ≡ each volume_of (items_view vs)
unfolding area_of
area_of-counted vs count = rw (items_len-items_view vs, count)

-- so many volumes make an area
pub made : (vs : List Value) (blocks : List Block) → is_in_range 1 max_volumes (length vs) ≡ true
    → each volume_of (items_view vs) ≡ Ok blocks → is_area blocks ≡ true
made vs blocks count read =
    let len = length-each volume_of (items_view vs) blocks read ∙ items_len-items_view vs in
    ap (is_in_range 1 max_volumes) len ∙ count
