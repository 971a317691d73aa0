use Rattle.std.proofs.Common.{◌≡◌}
use Rattle.serde_json.specs.View.{items_view}
use Rattle.request_parser.specs.Requests.{each, token_of}
use Rattle.request_parser.proofs.EachLemmas.{read_from}
use Rattle.request_parser.proofs.volume_in.read_tokens.Given as goal

abbrev pub invariant-loop-item : goal.invariant-loop-item
invariant-loop-item l = each token_of (items_view l.items)
    ≡ read_from token_of l.cells.items l.items l.item-index
