use Rattle.std.proofs.Common.{◌∙◌, ap, w32, w64, SFits, rules}
use Rattle.std.specs.Result.{result_ok}
use Rattle.std.proofs.lemmas.Int.{to_z-of_z}
use Rattle.volume4d.specs.Volume.{window_or_fault}
use Rattle.request_parser.proofs.WindowLemmas.{converted_is}
use Rattle.request_parser.proofs.volume_in.checked_window.Goals as goal

pub returns : goal.returns
returns c =
    let lower_fits : SFits w32 c.in_ok-lower.lower = search rules in
    let upper_fits : SFits w32 c.in_ok-upper.upper = search rules in
    let start_fits : SFits w64 c.args.start = c.ranges.start in
    let stop_fits : SFits w64 c.args.end = c.ranges.end in
    let lower = converted_is c.try_from.result _ _ c.in_ok-lower.lower c.try_from.ensures
    c.in_ok-lower.ensures.value ∙ to_z-of_z w64 c.args.lower c.ranges.lower in
    let upper = converted_is c.try_from-2.result _ _ c.in_ok-upper.upper c.try_from-2.ensures
    c.in_ok-upper.ensures.value ∙ to_z-of_z w64 c.args.upper c.ranges.upper in
    let window = simp to_z-of_z at c.try_new.ensures in
    c.ok-3.ensures.value ∙ (ap result_ok window
    ∙ (λ i. result_ok (window_or_fault (record
    { lower = lower i; upper = upper i; start = c.args.start; end = c.args.end }))))
