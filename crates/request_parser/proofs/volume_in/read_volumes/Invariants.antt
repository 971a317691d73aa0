use Rattle.std.proofs.Common.{◌≡◌}
use Rattle.serde_json.specs.View.{items_view}
use Rattle.request_parser.specs.Requests.{each, volume_of}
use Rattle.request_parser.proofs.EachLemmas.{read_from}
use Rattle.request_parser.proofs.volume_in.read_volumes.Given as goal

abbrev pub invariant-loop-item : goal.invariant-loop-item
invariant-loop-item l = each volume_of (items_view l.items)
    ≡ read_from volume_of l.volumes.items l.items l.item-index
