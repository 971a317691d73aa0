use Rattle.std.proofs.Common.{◌≡◌, map, take}
use Rattle.httparse.specs.Spans.{header_bytes}
use Rattle.request_parser.specs.Heads.{count_in, count_shown}
use Rattle.request_parser.proofs.fields.find_field.Given as goal

-- what was found among the headers so far
abbrev pub invariant-loop-header : goal.invariant-loop-header
invariant-loop-header l =
    count_shown l.found ≡ count_in l.name (map (header_bytes l.text) (take l.header-index l.headers))
