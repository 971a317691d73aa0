-- The head of a request: where it ends, its first line, and its fields.
use Rattle.std.specs.Prelude.{ℕ, zero, suc, ◌+◌, min, Bool, ◌||◌, List, [], ◌∷◌, length, take, nat_eq, if◌then◌else◌, Option, Some, None, ◌&&◌, map, filter, nat_lt, nat_le, option_and_then, ◌==◌, codes, bytes_eq}
use Rattle.std.specs.{List.ends_with, List.list_all, List.before_first, List.after_first, Option.option_or, Char.is_ascii_digit, Str.str_eq_ignore_ascii_case, Str.is_utf8, Str.Parse.digits_value}
use Rattle.httparse.specs.{Ascii.line_feed, Ascii.carriage_return, Ascii.space, Ascii.colon, Spans.span_bytes, Spans.header_bytes, Spans.name_and_value, Grammar.LineEnd, Grammar.crlf, Grammar.lf, Grammar.is_token, Grammar.is_uri_byte, Grammar.is_value_byte, Grammar.Field, Grammar.RequestHead, Grammar.print_request}
use Rattle.httparse.specs.declared.spans.{HeaderSpan.HeaderSpan, RequestSpans.RequestSpans}
use Rattle.request_parser.specs.WireLimits.{digit_room}
use Rattle.request_parser.specs.declared.fields.{Occurrence.Occurrence, Occurrence.TheVariants.Absent, Occurrence.TheVariants.Value, Occurrence.TheVariants.More}

-- ==== A request's head (RFC 9112, section 2.1): the input's shortest prefix that ends in LF LF or LF CR LF
-- the text ends in LF LF or in LF CR LF
abbrev pub ends_head : List ℕ → Bool
ends_head text =
    ends_with nat_eq text (line_feed ∷ line_feed ∷ [])
    || ends_with nat_eq text (line_feed ∷ carriage_return ∷ line_feed ∷ [])

-- the least number below the bound (the second argument) that passes the test
abbrev pub least : (ℕ → Bool) → ℕ → Option ℕ
least test zero = None
least test (suc n) = option_or (least test n) (if test n then Some n else None)

-- the length of the head that the text begins with, if it ends within the first `room` bytes
unfoldable pub head_len : ℕ → List ℕ → Option ℕ
head_len room text = least (λ n. ends_head (take n text)) (min (length text) room + 1)

-- ==== The fields of a head: RFC 9110, section 5, and RFC 9112, sections 5 and 6
-- the values of the fields of that name, in any case (RFC 9110, section 5.1)
abbrev pub values_of : List ℕ → List (List ℕ × List ℕ) → List (List ℕ)
values_of name fields =
    map (λ (f : List ℕ × List ℕ). f.1)
    (filter (λ (f : List ℕ × List ℕ). str_eq_ignore_ascii_case f.0 name) fields)

-- how often a field occurs: never, once with this value, or more than once
pub data Count : Type 0 where
  absent : Count
  once : List ℕ → Count
  more : Count

-- the count that the values of a field give
abbrev pub once_of : List (List ℕ) → Count
once_of [] = absent
once_of (value ∷ []) = once value
once_of (value ∷ next ∷ rest) = more

-- how often the field `name` occurs among `fields`, pairs of a name and a value
abbrev pub count_in : List ℕ → List (List ℕ × List ℕ) → Count
count_in name fields = once_of (values_of name fields)

-- the count that the code's `Occurrence` stands for
abbrev pub count_shown : Occurrence → Count
count_shown Absent = absent
count_shown (Value value) = once value.now
count_shown More = more

-- the number that 1 to `digit_room` digits write
abbrev pub decimal_of : List ℕ → Option ℕ
decimal_of digits =
    if nat_lt 0 (length digits) && nat_le (length digits) digit_room && list_all is_ascii_digit digits
    then Some (digits_value 10 digits) else None

-- the content-length field's number (RFC 9112, section 6.3): 0 if absent, None if it is repeated or no number
abbrev pub length_of : Count → Option ℕ
length_of absent = Some 0
length_of (once value) = decimal_of value
length_of more = None

-- ==== The head that a text is, if it is one: RFC 9112, sections 2, 3 and 5, in `httparse`'s grammar
-- The line ends, spaces and colons of a text leave one head that it can be. It is that head if each part is
-- of its class and the head, printed, is the text.

-- a line without its end, and the end: LF, with or without a CR before it (section 2.2)
pub data Line : Type 0 where
  line : List ℕ → LineEnd → Line

-- the lines with one byte more at the front of the first
abbrev pub with_front : ℕ → List Line → List Line
with_front b [] = []
with_front b (line [] lf ∷ rest) = (if b == carriage_return then line [] crlf else line (b ∷ []) lf) ∷ rest
with_front b (line text end ∷ rest) = line (b ∷ text) end ∷ rest

-- the lines of a text. What follows its last LF is no line
abbrev pub lines : List ℕ → List Line
lines [] = []
lines (b ∷ bytes) = if b == line_feed then line [] lf ∷ lines bytes else with_front b (lines bytes)

-- what stands before the first such byte, and what stands after it
abbrev pub before : ℕ → List ℕ → List ℕ
before stop text = before_first (λ b. b == stop) text

abbrev pub after : ℕ → List ℕ → List ℕ
after stop text = after_first (λ b. b == stop) text

-- field-line = field-name ":" value (section 5)
abbrev pub field_of : List ℕ → LineEnd → Field
field_of text end = record { name = before colon text; raw = after colon text; end = end }

-- the field lines up to the first empty line
abbrev pub fields_of : List Line → List Field
fields_of [] = []
fields_of (line [] end ∷ rest) = []
fields_of (line text end ∷ rest) = field_of text end ∷ fields_of rest

-- the end of the first empty line
abbrev pub last_of : List Line → LineEnd
last_of [] = lf
last_of (line [] end ∷ rest) = end
last_of (line text end ∷ rest) = last_of rest

-- request-line = method SP request-target SP HTTP-version (section 3), and the section after it
abbrev pub head_at : List ℕ → LineEnd → List Line → RequestHead
head_at text end rest = record {
  blank = [];
  method = before space text;
  target = before space (after space text);
  minor = if bytes_eq (after space (after space text)) (codes "HTTP/1.1") then 1 else 0;
  line_end = end;
  fields = fields_of rest;
  last = last_of rest;
}

-- the head that the lines can be, past the empty lines before it (section 2.2)
abbrev pub head_of : List Line → RequestHead
head_of [] = head_at [] lf []
head_of (line [] end ∷ rest) = record (head_of rest) { blank = end ∷ (head_of rest).blank }
head_of (line text end ∷ rest) = head_at text end rest

-- the name is a token, and the value has no control byte but the tab
abbrev pub is_field : Field → Bool
is_field f = is_token f.name && list_all is_value_byte f.raw

-- each part is of its class
abbrev pub is_request_head : RequestHead → Bool
is_request_head h =
    is_token h.method
    && (nat_lt 0 (length h.target) && list_all is_uri_byte h.target)
    && is_utf8 h.target
    && nat_le h.minor 1
    && list_all is_field h.fields

-- the head `h`, if its parts are of their classes and `h`, printed, is the text
abbrev pub checked_head : List ℕ → RequestHead → Option RequestHead
checked_head text h = if is_request_head h && bytes_eq (print_request h) text then Some h else None

-- the head that the whole text is
unfoldable pub head_in : List ℕ → Option RequestHead
head_in text = checked_head text (head_of (lines text))

-- the head that the whole text is, if it is one of at most `room` fields
unfoldable pub head_within : ℕ → List ℕ → Option RequestHead
head_within room text =
    option_and_then (λ h. if nat_le (length h.fields) room then Some h else None) (head_in text)

-- what a request head says: its fields by name and value, without the white space around a value
pub record HeadParts : Type 0 where
  pub method : List ℕ
  pub target : List ℕ
  pub fields : List (List ℕ × List ℕ)

-- the parts of a head
abbrev pub head_parts : RequestHead → HeadParts
head_parts h = record { method = h.method; target = h.target; fields = map name_and_value h.fields }

-- the parts of the head `text`, by the spans that the parser found in it
abbrev pub parts_at : List ℕ → RequestSpans → List HeaderSpan → HeadParts
parts_at text r headers = record {
  method = span_bytes text r.method;
  target = span_bytes text r.path;
  fields = map (header_bytes text) (take r.headers headers);
}
