use Rattle.std.proofs.Common.{◌≡◌, ◌∙◌, pos, sym, ap, int_div, w32, w64, SFits, rules}
use Rattle.std.proofs.lemmas.Int.{to_z-of_z}
use Rattle.request_parser.specs.Times.{utc_second}
use Rattle.request_parser.proofs.TimeLemmas.{div_back, instant_test, nanos_shown, offset_fits, second_found, second_missing, value_at}
use Rattle.request_parser.proofs.times.unix_second.Goals as goal

pub returns-in_err-instant-clause-second : goal.returns-in_err-instant-clause-second
returns-in_err-instant-clause-second c =
    let t = c.args.time in
    let there = c.in_ok-shown.ensures.exists in
    let offset = value_at c.from_seconds.result (λ o. o.seconds ≡ _) c.in_ok-offset.offset
    c.in_ok-offset.ensures.value c.from_seconds.ensures.value in
    let same : c.in_ok-offset.offset.seconds ≡ t.offset = offset
    ∙ to_z-of_z w32 t.offset (offset_fits t.offset c.requires.offset) in
    let nanos = nanos_shown t c.in_ok-shown.shown _ c.in_ok-shown.ensures.as_written same in
    let test = instant_test c.to_timestamp.result (utc_second t) _ nanos c.to_timestamp.ensures.succeeds
    in
    c.from_residual-in_err-instant.ensures ∙ second_missing t (sym there)
    (sym test ∙ sym c.in_err-instant.ensures.variant)

pub returns-clause-second : goal.returns-clause-second
returns-clause-second c =
    let t = c.args.time in
    let there = c.in_ok-shown.ensures.exists in
    let offset = value_at c.from_seconds.result (λ o. o.seconds ≡ _) c.in_ok-offset.offset
    c.in_ok-offset.ensures.value c.from_seconds.ensures.value in
    let same : c.in_ok-offset.offset.seconds ≡ t.offset = offset
    ∙ to_z-of_z w32 t.offset (offset_fits t.offset c.requires.offset) in
    let nanos = nanos_shown t c.in_ok-shown.shown _ c.in_ok-shown.ensures.as_written same in
    let test = instant_test c.to_timestamp.result (utc_second t) _ nanos c.to_timestamp.ensures.succeeds
    in
    let value = value_at c.to_timestamp.result (λ t. t.nanosecond ≡ _) c.in_ok-instant.instant
    c.in_ok-instant.ensures.value c.to_timestamp.ensures.value in
    let fits : SFits w64 c.as_second.result = search rules in
    second_found t _ (sym there) (sym test ∙ sym c.in_ok-instant.ensures.variant)
    (to_z-of_z w64 c.as_second.result fits ∙ (c.as_second.ensures
    ∙ (ap (λ n. int_div n (pos 1_000_000_000)) (value ∙ nanos) ∙ div_back (utc_second t))))
