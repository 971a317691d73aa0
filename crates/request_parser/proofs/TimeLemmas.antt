-- The calendar's test against the library's, and seconds against nanoseconds.
use Rattle.std.proofs.Common.{◌≡◌, ℕ, ◌+◌, ◌*◌, ◌<◌, ℤ, pos, negsuc, ◌+ℤ◌, ◌-ℤ◌, ◌*ℤ◌, ◌&&◌, ◌↔◌, Bool, true, false, nat_le, int_div, IsOk, IfOk, is_ok, Result, Ok, Err, ap, arith, ◌≤◌, Some, None, SFits, w32}
use Rattle.std.proofs.lemmas.Bool.Decides.{nat_tests, same_from_decides}
use Rattle.std.proofs.lemmas.Int.{ints, quot-rem, rem_below}
use Rattle.std.specs.Int.{is_in_range}
use Rattle.std.specs.Result.{result_ok}
use Rattle.jiff.proofs.SpanFacts.{signed_arith}
use Rattle.jiff.specs.Types.{DateTime}
use Rattle.jiff_core.specs.Calendar.{IsBetween, IsDate, days_in_month, days_from_civil}
use Rattle.jiff_core.specs.DateTime.{civil_nanos}
use Rattle.jiff_core.specs.Time.{IsTime}
use Rattle.jiff_core.specs.Timestamp.{IsTimestampNanos}
use Rattle.request_parser.specs.declared.times.CivilTime.{CivilTime}
use Rattle.request_parser.specs.declared.times.WrittenTime.{WrittenTime}
use Rattle.request_parser.specs.Times.{is_civil, is_instant, civil_second, utc_second, second_of, IsInDigits, IsShownBy, IsOffset}

abbrev Tests : ℕ → ℕ → ℕ → ℕ → ℕ → ℕ → Bool
Tests m limit d h i s =
    is_in_range 1 12 m && is_in_range 1 limit d && nat_le h 23 && nat_le i 59 && nat_le s 59

abbrev Ranges : ℕ → ℕ → ℕ → ℕ → ℕ → ℕ → Type 0
Ranges m limit d h i s =
    IsBetween (pos 1) (pos 12) (pos m) × IsBetween (pos 1) (pos limit) (pos d)
    × IsBetween (pos 0) (pos 23) (pos h) × IsBetween (pos 0) (pos 59) (pos i)
    × IsBetween (pos 0) (pos 59) (pos s)

tests_from_ranges : (m limit d h i s : ℕ) → Ranges m limit d h i s → Tests m limit d h i s ≡ true
tests_from_ranges m limit d h i s r = grind (arith, nat_tests, ints)

ranges_from_tests : (m limit d h i s : ℕ) → Tests m limit d h i s ≡ true → Ranges m limit d h i s
ranges_from_tests m limit d h i s r =
    let month : (1 ≤ m) × (m ≤ 12) = (grind (arith, nat_tests), grind (arith, nat_tests)) in
    let day : (1 ≤ d) × (d ≤ limit) = (grind (arith, nat_tests), grind (arith, nat_tests)) in
    let hour : h ≤ 23 = grind (arith, nat_tests) in
    let minute : i ≤ 59 = grind (arith, nat_tests) in
    let second : s ≤ 59 = grind (arith, nat_tests) in (
      (omega (arith, ints), omega (arith, ints)),
      (omega (arith, ints), omega (arith, ints)),
      (omega (arith, ints), omega (arith, ints)),
      (omega (arith, ints), omega (arith, ints)),
      (omega (arith, ints), omega (arith, ints)),
    )

-- the library's constructor takes just the dates and times that there are
pub civil_test : (w : CivilTime) → IsInDigits w
    → (IsDate (pos w.year) (pos w.month) (pos w.day)
    × IsTime (pos w.hour) (pos w.minute) (pos w.second) (pos 0)) ↔ (is_civil w ≡ true)
unfolding is_civil
civil_test w short = (
  λ r. tests_from_ranges w.month (days_in_month (pos w.year) w.month) w.day w.hour w.minute w.second
      (r.0.1, r.0.2, r.1.0, r.1.1, r.1.2),
  λ t. let r = ranges_from_tests w.month (days_in_month (pos w.year) w.month) w.day w.hour w.minute
      w.second t
      in
      let year = short.year in (
        ((omega (arith, ints), omega (arith, ints)), r.0, r.1),
        (r.2, r.3, r.4, (omega (arith, ints), omega (arith, ints))),
      ),
)

pub div_back : (s : ℤ) → int_div (s *ℤ pos 1_000_000_000) (pos 1_000_000_000) ≡ s
div_back s = omega (
  arith,
  ints,
  quot-rem (s *ℤ pos 1_000_000_000) (pos 1_000_000_000),
  rem_below
      (s *ℤ pos 1_000_000_000) (pos 1_000_000_000) (omega arith),
)

pub nanos_are : (d : ℤ) (t : ℕ) (o : ℤ) → (d *ℤ pos 86_400_000_000_000 +ℤ pos (t * 1_000_000_000 + 0))
    -ℤ o *ℤ
    pos 1_000_000_000 ≡ (d *ℤ pos 86_400 +ℤ pos t -ℤ o) *ℤ pos 1_000_000_000
nanos_are d t o = omega (arith, ints)

pub instant_from_nanos : (s : ℤ) → IsTimestampNanos (s *ℤ pos 1_000_000_000) → is_instant s ≡ true
instant_from_nanos (pos n) h = grind (arith, nat_tests, ints)
instant_from_nanos (negsuc n) h = grind (arith, nat_tests, ints)

pub nanos_from_instant : (s : ℤ) → is_instant s ≡ true → IsTimestampNanos (s *ℤ pos 1_000_000_000)
nanos_from_instant (pos n) h =
    let below : n ≤ 253_402_207_200 = grind (arith, nat_tests, ints) in
    (omega (arith, ints), omega (arith, ints))
nanos_from_instant (negsuc n) h =
    let below : n < 377_705_023_201 = grind (arith, nat_tests, ints) in
    (omega (arith, ints), omega (arith, ints))

pub same_when_ok : {T E P : Type 0} (r : Result T E) (b : Bool) → (IsOk r ↔ P) → (P ↔ (b ≡ true))
    → is_ok r
    ≡ b
same_when_ok r b ok test = same_from_decides (is_ok r) b ok (test.1, test.0)

-- the library's nanoseconds of a time
pub nanos_shown : (t : WrittenTime) (shown : DateTime) (o : ℤ) → IsShownBy t.civil shown → o ≡ t.offset
    → civil_nanos shown -ℤ o *ℤ pos 1_000_000_000 ≡ utc_second t *ℤ pos 1_000_000_000
unfolding civil_nanos civil_second
nanos_shown t shown o is offset =
    let w = t.civil in
    rw (is.year, is.month, is.day, is.hour, is.minute, is.second, is.whole, offset)
    (nanos_are (days_from_civil (pos w.year) w.month w.day) (w.hour * 3600 + w.minute * 60 + w.second)
    t.offset)

pub second_found : (t : WrittenTime) (z : ℤ) → is_civil t.civil ≡ true → is_instant (utc_second t)
    ≡ true → z
    ≡ utc_second t → Some z ≡ second_of t
unfolding second_of
second_found t z civil instant same = rw (civil, instant) (ap Some same)

pub second_missing : (t : WrittenTime) → is_civil t.civil ≡ true → is_instant (utc_second t) ≡ false
    → None
    ≡ second_of t
unfolding second_of
second_missing t civil instant = rw (civil, instant)

-- an offset of less than a day or so fits
pub offset_fits : (o : ℤ) → IsOffset o → SFits w32 o
offset_fits o is = let low = is.low in let high = is.high in omega (arith, signed_arith)

-- the library has an instant for just the seconds in its range
pub instant_test : {T E : Type 0} (r : Result T E) (s n : ℤ) → n ≡ s *ℤ pos 1_000_000_000
    → (IsOk r ↔ IsTimestampNanos n) → is_ok r ≡ is_instant s
instant_test r s n same ok =
    same_when_ok r (is_instant s) (rw same at ok) (instant_from_nanos s, nanos_from_instant s)

-- what holds of the value holds of what `ok` gave
pub value_at : {T E : Type 0} (r : Result T E) (P : T → Type 0) (t : T) → Some t ≡ result_ok r
    → IfOk r P
    → P t
value_at (Ok x) P t was holds = let same : t ≡ x = cc in rw same holds
value_at (Err e) P t was holds = cc
