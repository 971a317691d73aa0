-- The desk's own limits on requests, each here alone: RFC 9112, sections 2.2, 3, 5 and 6, leaves them to it.
use Rattle.std.specs.Prelude.{ℕ}

-- the most bytes that a head may have
abbrev pub head_room : ℕ
head_room = 16384

-- the most fields that a head may have
abbrev pub field_room : ℕ
field_room = 64

-- the most digits of a content-length: each number of as many fits 64 bits
abbrev pub digit_room : ℕ
digit_room = 19

-- the most bytes that a time text may have
abbrev pub time_room : ℕ
time_room = 64

-- the most bytes that a body may have
abbrev pub body_room : ℕ
body_room = 131072
