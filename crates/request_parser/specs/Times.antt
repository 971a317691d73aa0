-- The seconds that time texts name: RFC 3339, section 5.6, with no leap second.
--
--     date-time      = full-date "T" full-time
--     full-date      = date-fullyear "-" date-month "-" date-mday
--     full-time      = partial-time time-offset
--     partial-time   = time-hour ":" time-minute ":" time-second [time-secfrac]
--     time-secfrac   = "." 1*DIGIT
--     time-offset    = "Z" / time-numoffset
--     time-numoffset = ("+" / "-") time-hour ":" time-minute
--
-- The year has four digits, every other number two. `T` and `Z` may be small letters (section 5.6,
-- first note). A text that is a start names the second in which its instant lies, one that is an
-- end the first second at or after its instant.
use Rattle.std.specs.Prelude.{ℕ, ◌+◌, ◌*◌, ◌<◌, ℤ, pos, ◌+ℤ◌, ◌-ℤ◌, ◌*ℤ◌, ◌≤ℤ◌, int_le, neg_ℤ, ◌≡◌, List, codes, length, take, drop, slice_index, slice_range, Bool, ◌&&◌, ◌||◌, ◌==◌, nat_le, nat_lt, if◌then◌else◌, Option, Some, None, option_and_then}
use Rattle.std.specs.{Char.is_ascii_digit, Char.to_ascii_uppercase, Int.is_in_range, List.list_all, List.list_any, List.prefix_len, Str.byte, Str.str_eq_ignore_ascii_case, Str.Parse.digits_value}
use Rattle.jiff.specs.Types.{DateTime}
use Rattle.jiff_core.specs.Calendar.{days_in_month, days_from_civil}
use Rattle.request_parser.specs.WireLimits.{time_room}
use Rattle.request_parser.specs.declared.times.{CivilTime.CivilTime, WrittenTime.WrittenTime}

infixl 10 ◌>>=◌
abbrev ◌>>=◌ : {A B : Type 0} → Option A → (A → Option B) → Option B
o >>= f = option_and_then f o

-- the number that decimal digits write
unfoldable pub number_written : List ℕ → Option ℕ
number_written digits = if list_all is_ascii_digit digits then Some (digits_value 10 digits) else None

-- the separators of `YYYY-MM-DDTHH:MM:SS` are at their places
unfoldable pub has_marks : List ℕ → Bool
has_marks text =
    (slice_index text 4 == byte "-") && (slice_index text 7 == byte "-")
    && (to_ascii_uppercase (slice_index text 10) == byte "T")
    && (slice_index text 13 == byte ":") && (slice_index text 16 == byte ":")

-- the numbers between these separators
unfoldable pub civil_of : List ℕ → Option CivilTime
civil_of text = do
  year ← number_written (slice_range text 0 4)
  month ← number_written (slice_range text 5 7)
  day ← number_written (slice_range text 8 10)
  hour ← number_written (slice_range text 11 13)
  minute ← number_written (slice_range text 14 16)
  second ← number_written (slice_range text 17 19)
  Some (record {
    year = year;
    month = month;
    day = day;
    hour = hour;
    minute = minute;
    second = second;
  })

-- how many digits a text begins with
abbrev pub digit_count : List ℕ → ℕ
digit_count text = prefix_len is_ascii_digit text

-- the length of the `[time-secfrac]` that begins a text: 0 if there is no point, None if no digit follows it
unfoldable pub secfrac_len : List ℕ → Option ℕ
secfrac_len text =
    if slice_index text 0 == byte "."
    then (if nat_lt 0 (digit_count (drop 1 text)) then Some (digit_count (drop 1 text) + 1) else None)
    else Some 0

-- a `time-secfrac` is above zero: it has a digit from 1 to 9
abbrev pub is_above_zero : List ℕ → Bool
is_above_zero secfrac = list_any (is_in_range (byte "1") (byte "9")) secfrac

-- the sign and the colon of a `time-numoffset` are at their places
unfoldable pub has_offset_marks : List ℕ → Bool
has_offset_marks text =
    (length text == 6) && ((slice_index text 0 == byte "+") || (slice_index text 0 == byte "-"))
    && (slice_index text 3 == byte ":")

-- an offset of so many seconds, negative if it is behind UTC (section 4.2)
abbrev pub ahead_or_behind : Bool → ℕ → ℤ
ahead_or_behind is_behind seconds = if is_behind then neg_ℤ (pos seconds) else pos seconds

-- the offset of an hour and a minute, in seconds. `-00:00` is zero (section 4.3). None if one is out of range
abbrev pub offset_by : Bool → ℕ → ℕ → Option ℤ
offset_by is_behind hour minute =
    if nat_le hour 23 && nat_le minute 59
    then Some (ahead_or_behind is_behind (hour * 3600 + minute * 60)) else None

-- a `time-numoffset`, in seconds
unfoldable pub numoffset_of : List ℕ → Option ℤ
numoffset_of text =
    if has_offset_marks text
    then (number_written (slice_range text 1 3) >>= λ hour.
    number_written (slice_range text 4 6) >>= λ minute.
    offset_by (slice_index text 0 == byte "-") hour minute) else None

-- a `time-offset`, in seconds
unfoldable pub offset_of : List ℕ → Option ℤ
offset_of text = if str_eq_ignore_ascii_case text (codes "Z") then Some (pos 0) else numoffset_of text

-- the time of `civil`, a date and time of day, with the `[time-secfrac] time-offset` that `rest` is
unfoldable pub time_with : CivilTime → List ℕ → Option WrittenTime
time_with civil rest =
    secfrac_len rest >>= λ len.
    offset_of (drop len rest) >>= λ offset.
    Some (record { civil = civil; has_fraction = is_above_zero (take len rest); offset = offset })

-- a `date-time`: its first 19 bytes go up to `time-second`
unfoldable pub time_of : List ℕ → Option WrittenTime
time_of text =
    if is_in_range 20 time_room (length text) && has_marks text
    then (civil_of text >>= λ civil. time_with civil (drop 19 text)) else None

-- each number is one that its digits can write: four for the year, two for every other
pub record IsInDigits (w : CivilTime) : Type 0 where
  pub year : w.year < 10_000
  pub month : w.month < 100
  pub day : w.day < 100
  pub hour : w.hour < 100
  pub minute : w.minute < 100
  pub second : w.second < 100

-- at most a day (86,400 seconds), ahead of UTC or behind it
pub record IsOffset (offset : ℤ) : Type 0 where
  pub low : neg_ℤ (pos 86_400) ≤ℤ offset
  pub high : offset ≤ℤ pos 86_400

-- its numbers and its offset are in these ranges, as those of every text are
pub record IsWritten (t : WrittenTime) : Type 0 where
  pub civil : IsInDigits t.civil
  pub offset : IsOffset t.offset

-- the calendar has the date and a clock shows the time (section 5.7)
unfoldable pub is_civil : CivilTime → Bool
is_civil w =
    is_in_range 1 12 w.month && is_in_range 1 (days_in_month (pos w.year) w.month) w.day
    && nat_le w.hour 23 && nat_le w.minute 59 && nat_le w.second 59

-- seconds since 1970-01-01T00:00:00 on the clock that shows the time
unfoldable pub civil_second : CivilTime → ℤ
civil_second w =
    days_from_civil (pos w.year) w.month w.day *ℤ pos 86_400
    +ℤ pos (w.hour * 3600 + w.minute * 60 + w.second)

-- the date and time that `jiff` holds is this one, with no fraction
pub record IsShownBy (w : CivilTime) (shown : DateTime) : Type 0 where
  pub year : shown.date.year ≡ pos w.year
  pub month : shown.date.month ≡ w.month
  pub day : shown.date.day ≡ w.day
  pub hour : shown.time.hour ≡ w.hour
  pub minute : shown.time.minute ≡ w.minute
  pub second : shown.time.second ≡ w.second
  pub whole : shown.time.subsec_nanosecond ≡ 0

-- the seconds of which `jiff` has instants, so that each instant has a date at every offset: from
-- -9999-01-02T01:59:59Z to 9999-12-30T22:00:00Z
abbrev pub is_instant : ℤ → Bool
is_instant second = int_le (neg_ℤ (pos 377_705_023_201)) second && int_le second (pos 253_402_207_200)

-- seconds since 1970-01-01T00:00:00Z: an offset is local time less UTC (section 4.2)
abbrev pub utc_second : WrittenTime → ℤ
utc_second t = civil_second t.civil -ℤ t.offset

-- the second in which the time lies, if there are such a date and time
unfoldable pub second_of : WrittenTime → Option ℤ
second_of t = if is_civil t.civil && is_instant (utc_second t) then Some (utc_second t) else None

-- the second that a start names: its fraction is dropped
unfoldable pub start_of : List ℕ → Option ℤ
start_of text = time_of text >>= second_of

-- the second that an end names: one later if its fraction is above zero
unfoldable pub end_of : List ℕ → Option ℤ
end_of text =
    time_of text >>= λ time.
    second_of time >>= λ second.
    Some (if time.has_fraction then second +ℤ pos 1 else second)
