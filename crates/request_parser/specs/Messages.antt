-- One request: its head and its body, or the fault that is found first.
use Rattle.std.specs.Prelude.{◌≡◌, Bool, if◌then◌else◌, Option, Some, None, Result, Ok, Err, ⊤, ℕ, true, false, not, List, length, take, drop, nat_lt, ◌==◌, codes}
use Rattle.request_parser.specs.declared.{wire_fault.WireFault.WireFault, wire_fault.ReadError.ReadError, wire_fault.ReadError.TheVariants.OutOfMemory, wire_fault.ReadError.TheVariants.Fault, wire_fault.WireFault.TheVariants.HeadTooLarge, wire_fault.WireFault.TheVariants.BadHead, wire_fault.WireFault.TheVariants.TransferEncoding, wire_fault.WireFault.TheVariants.ContentLength, wire_fault.WireFault.TheVariants.BodyTooLarge}
use Rattle.request_parser.specs.declared.{message.Front.Front, message.Message.Message}
use Rattle.request_parser.specs.{WireLimits.head_room, WireLimits.field_room, WireLimits.body_room, Heads.Count, Heads.absent, Heads.once, Heads.more, Heads.count_in, Heads.length_of, Heads.head_len, Heads.HeadParts, Heads.head_parts, Heads.head_within}

-- what is read, or the first fault
abbrev pub Reading : Type 0 → Type 0
Reading A = Result A WireFault

module _ {A : Type 0} where
  -- the fault if the test holds, else `next`
  abbrev pub guard : Bool → WireFault → Reading A → Reading A
  guard test fault next = if test then Err fault else next

  module _ {B : Type 0} where
    -- what `next` gives for the value, or the fault if there is no value
    abbrev pub or_fault : Option B → WireFault → (B → Reading A) → Reading A
    or_fault None fault next = Err fault
    or_fault (Some value) fault next = next value

    -- what `next` gives for the value that was read, or the fault that was met
    abbrev pub or_met : Reading B → (B → Reading A) → Reading A
    or_met (Err fault) next = Err fault
    or_met (Ok value) next = next value

    -- the result of the code is the reading; `shown` is what a value of the code stands for
    abbrev pub Gives : (B → A) → Result B WireFault → Reading A → Type 0
    Gives shown (Ok value) reading = reading ≡ Ok (shown value)
    Gives shown (Err fault) reading = reading ≡ Err fault

    -- the same of a result that may be `OutOfMemory`; of that nothing is said
    abbrev pub GivesIfRoom : (B → A) → Result B ReadError → Reading A → Type 0
    GivesIfRoom shown (Ok value) reading = reading ≡ Ok (shown value)
    GivesIfRoom shown (Err OutOfMemory) reading = ⊤
    GivesIfRoom shown (Err (Fault fault)) reading = reading ≡ Err fault

-- ==== One request: its head and its body (RFC 9112, sections 2.1 and 6), or the first fault of its framing
-- a request: its head's parts and the bytes of its body
pub record MessageParts : Type 0 where
  pub head : HeadParts
  pub body : List ℕ

-- the parts of the code's `Message`
abbrev pub message_shown : Message → MessageParts
message_shown m = record { head = m.head; body = m.body.now }

-- a message that was read, or the fault that was met
abbrev pub message_read : Result Message WireFault → Reading MessageParts
message_read (Ok m) = Ok (message_shown m)
message_read (Err fault) = Err fault

-- a head's parts and how many bytes of a body follow it
pub record FrontParts : Type 0 where
  pub head : HeadParts
  pub size : ℕ

-- those of the code's `Front`
abbrev pub front_shown : Front → FrontParts
front_shown f = record { head = f.head; size = f.size }

-- whether a field occurs at all
abbrev pub is_present : Count → Bool
is_present absent = false
is_present (once value) = true
is_present more = true

-- how many bytes the body is to have, by the fields of the head, or the first fault of these
unfoldable pub body_len : List (List ℕ × List ℕ) → Reading ℕ
body_len fields =
    guard (is_present (count_in (codes "transfer-encoding") fields)) TransferEncoding
    (or_fault (length_of (count_in (codes "content-length") fields)) ContentLength λ size.
    guard (nat_lt body_room size) BodyTooLarge
    (Ok size))

-- the fault of a text in which no head ends: it may be incomplete, or is too long
abbrev pub unended : List ℕ → WireFault
unended text = if nat_lt (length text) head_room then BadHead else HeadTooLarge

-- the head that the whole text is, and how many bytes of a body follow it, or the first fault
unfoldable pub front_in : List ℕ → Reading FrontParts
front_in text =
    or_fault (head_within field_room text) BadHead λ head.
    or_met (body_len (head_parts head).fields) λ size.
    Ok (record { head = head_parts head; size = size })

-- the one request that the text is, or the first fault of its framing
unfoldable pub message_in : List ℕ → Reading MessageParts
message_in text =
    or_fault (head_len head_room text) (unended text) λ end.
    or_met (front_in (take end text)) λ front.
    guard (not (length (drop end text) == front.size)) BadHead
    (Ok (record { head = front.head; body = drop end text }))
