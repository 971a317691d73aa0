use Rattle.std.proofs.Common.{w64, SFits, rules}
use Rattle.std.proofs.lemmas.Int.{to_z-of_z}
use Rattle.request_parser.specs.Requests.{window_of}
use Rattle.request_parser.proofs.volume_in.read_window.Goals as goal

pub returns : goal.returns
unfolding window_of
returns c =
    let lower : SFits w64 c.in_ok-lower.lower = search rules in
    let upper : SFits w64 c.in_ok-upper.upper = search rules in
    let start : SFits w64 c.in_ok-start.start = search rules in
    let stop : SFits w64 c.in_ok-end.end = search rules in
    let window = simp to_z-of_z at c.checked_window.ensures in
    search (rules, window)
