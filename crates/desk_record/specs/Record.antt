-- The journal of a desk, as bytes (docs/journal-format.md): its entries, and how they are read.
use Rattle.std.specs.Prelude.{◌<◌, ◌^◌, ℕ, zero, suc, ◌+◌, ◌/◌, ◌%◌, List, [], ◌∷◌, ◌++◌, length, take, map, codes, ◌≡◌, ◌-◌, ◌*◌, nat_lt, ◌&&◌, drop, Option, Some, None, option_and_then, if◌then◌else◌, ◌≢◌, ◌⊎◌, ◌==◌, Bool, ⊤, IfSome}
use Rattle.std.specs.{List.concat, Char.is_ascii_digit, Str.bytes_eq}
use Rattle.sha2.specs.Sha256.{sha256}
use Rattle.hex.specs.Hex.{encode_lower}
use Rattle.desk_record.specs.declared.{kind.Kind.Kind, line.Line.Line, entry.Entry.Entry, reading.ReadFault.ReadFault, reading.ReadFault.TheVariants.Unread, reading.ReadFault.TheVariants.OutOfMemory, reading.ReadFault.TheVariants.CutShort, reading.ReadFault.TheVariants.NoRecord}
use Rattle.desk_record.specs.declared.kind.Kind.TheVariants as kind
use Rattle.io_ends.specs.declared.chunks.ChunkError.{ChunkError}
use Rattle.io_ends.specs.declared.chunks.ChunkError.TheVariants as chunk_error

-- ==== The journal of a desk, as bytes (docs/journal-format.md): entries one after the other, each a line,
-- the bytes that the line counts, and a line feed

-- the word for a kind, padded with blanks to nine bytes
abbrev pub word : Kind → List ℕ
word kind.Record = codes "record   "
word kind.Permitted = codes "permitted"
word kind.Spans = codes "spans    "
word kind.Cells = codes "cells    "
word kind.Operator = codes "operator "
word kind.Request = codes "request  "
word kind.Answer = codes "answer   "

-- the last digits of a number in base ten: as many as the first argument says, with leading zeros
unfoldable pub digits : ℕ → ℕ → List ℕ
digits zero n = []
digits (suc width) n = digits width (n / 10) ++ ((48 + n % 10) ∷ [])

-- a number of a line: twenty digits, as many as the greatest number of 64 bits has
unfoldable pub number : ℕ → List ℕ
number n = digits 20 n

-- the checksum of bytes: the first eight bytes of their SHA-256 (FIPS 180-4), as sixteen hexadecimal digits
unfoldable pub sum : List ℕ → List ℕ
sum bytes = encode_lower (take 8 (sha256 bytes))

-- what a line says before its own checksum: the word of the kind, the number, how many bytes the entry has,
-- and their checksum, each with a blank after it
unfoldable pub line_fields : Kind → ℕ → ℕ → List ℕ → List ℕ
line_fields reported n size check =
    word reported ++ (32 ∷ (number n ++ (32 ∷ (number size ++ (32 ∷ (check ++ (32 ∷ [])))))))

-- a line: these fields, the checksum of their text, and a line feed
unfoldable pub line : Kind → ℕ → ℕ → List ℕ → List ℕ
line reported n size check =
    line_fields reported n size check ++ (sum (line_fields reported n size check) ++ (10 ∷ []))

-- an entry: its kind, its number and its own bytes
pub record EntryParts : Type 0 where
  pub kind : Kind
  pub number : ℕ
  pub bytes : List ℕ

-- the text of an entry: its line, its bytes, a line feed
unfoldable pub entry : EntryParts → List ℕ
entry e = line e.kind e.number (length e.bytes) (sum e.bytes) ++ (e.bytes ++ (10 ∷ []))

-- the text of entries, one after the other
abbrev pub entries : List EntryParts → List ℕ
entries es = concat (map entry es)

-- the number of an entry, and the count of its bytes, fit 64 bits
pub record Fits (e : EntryParts) : Type 0 where
  pub number : e.number < 2 ^ 64
  pub size : length e.bytes < 2 ^ 64

-- ==== What a line says, by the places of its fields, and which texts are lines
-- the kind of a word of nine bytes; none if no kind has that word
abbrev pub kind_of : List ℕ → Option Kind
kind_of text =
    if bytes_eq text (codes "record   ") then Some kind.Record
    else if bytes_eq text (codes "permitted") then Some kind.Permitted
    else if bytes_eq text (codes "spans    ") then Some kind.Spans
    else if bytes_eq text (codes "cells    ") then Some kind.Cells
    else if bytes_eq text (codes "operator ") then Some kind.Operator
    else if bytes_eq text (codes "request  ") then Some kind.Request
    else if bytes_eq text (codes "answer   ") then Some kind.Answer
    else None

-- the number n with one more digit, an ASCII code; none if it is no digit, or the result is 2^64 or more
abbrev pub next_digit : ℕ → ℕ → Option ℕ
next_digit n digit =
    if is_ascii_digit digit && nat_lt (n * 10 + (digit - 48)) (2 ^ 64) then Some (n * 10 + (digit - 48))
    else None

-- the number n with all these digits appended, in their order; none as above
abbrev pub number_from : ℕ → List ℕ → Option ℕ
number_from n [] = Some n
number_from n (digit ∷ digits) = option_and_then (λ m. number_from m digits) (next_digit n digit)

-- the fields of a line: its kind, its number, how many bytes the entry has, and their checksum
pub record LineParts : Type 0 where
  pub kind : Kind
  pub number : ℕ
  pub size : ℕ
  pub sum : List ℕ

-- the fields of the program's value of a line
abbrev pub line_parts : Line → LineParts
line_parts l = record { kind = l.kind; number = l.number; size = l.size; sum = l.sum.items }

-- the text of the line that has these fields
abbrev pub line_of_parts : LineParts → List ℕ
line_of_parts l = line l.kind l.number l.size l.sum

-- the fields that stand at their places in the bytes of a line; the line's own checksum is not looked at
unfoldable pub parsed_line_fields : List ℕ → Option LineParts
parsed_line_fields bytes =
    option_and_then (λ reported.
    option_and_then (λ n.
    option_and_then (λ size.
    Some (record { kind = reported; number = n; size = size; sum = take 16 (drop 52 bytes) }))
    (number_from 0 (take 20 (drop 31 bytes))))
    (number_from 0 (take 20 (drop 10 bytes))))
    (kind_of (take 9 bytes))

-- the fields of these bytes, if the line with these fields has just this text
unfoldable pub parsed_line : List ℕ → Option LineParts
parsed_line bytes =
    option_and_then (λ l. if bytes_eq (line_of_parts l) bytes then Some l else None)
    (parsed_line_fields bytes)

-- the bytes are the line with the fields l, its numbers fit 64 bits, and its checksum has sixteen digits
pub record IsEntryLine (bytes : List ℕ) (l : LineParts) : Type 0 where
  pub text : bytes ≡ line_of_parts l
  pub number : l.number < 2 ^ 64
  pub size : l.size < 2 ^ 64
  pub sum : length l.sum ≡ 16

-- ==== What reading an entry results in
-- the parts of the program's value of an entry
abbrev pub entry_parts : Entry → EntryParts
entry_parts e = record { kind = e.kind; number = e.number; bytes = e.bytes.items }

-- a text begins with a whole line; after it, it has fewer bytes than the line says and the line feed
pub record LacksBytes (text : List ℕ) : Type 0 where
  pub line : LineParts
  pub first : IsEntryLine (take 86 text) line
  pub lacks : length text < 86 + line.size + 1

-- a text ends inside an entry: it isn't empty, and has fewer bytes than a line, or a line and not all the
-- bytes of its entry
pub record IsTooShort (text : List ℕ) : Type 0 where
  pub some : 0 < length text
  pub short : (length text < 86) ⊎ LacksBytes text

-- a text isn't empty, isn't too short, and doesn't begin with an entry
pub record IsDamagedRecord (text : List ℕ) : Type 0 where
  pub some : 0 < length text
  pub whole : ¬ IsTooShort text
  pub none : (e : EntryParts) (rest : List ℕ) → Fits e → text ≢ entry e ++ rest

-- the bytes after a line have the length and the checksum that it says, and what follows them is a line feed
abbrev pub are_bytes_intact : LineParts → List ℕ → List ℕ → Bool
are_bytes_intact line bytes last =
    (length bytes == line.size) && (bytes_eq (sum bytes) line.sum && bytes_eq last (10 ∷ []))

-- the fault if bytes were not read
abbrev pub chunk_fault : {R : Type 0} → ChunkError R → ReadFault R
chunk_fault (chunk_error.Read error) = Unread error
chunk_fault chunk_error.OutOfMemory = OutOfMemory

-- why no entry was read from the bytes that were left: a read failed or memory ran out, whatever they were;
-- or they are too short, or damaged
abbrev pub LacksEntry : {R : Type 0} → Option (List ℕ) → ReadFault R → Type 0
LacksEntry left (Unread error) = ⊤
LacksEntry left OutOfMemory = ⊤
LacksEntry left CutShort = IfSome left IsTooShort
LacksEntry left NoRecord = IfSome left IsDamagedRecord
