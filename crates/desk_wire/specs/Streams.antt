-- The requests that the bytes of a stream are, and the result of serving one of them.
use Rattle.std.specs.Prelude.{◌≡◌, ◌<◌, ◌≤◌, ◌⊎◌, ℕ, zero, suc, ◌+◌, List, [], ◌∷◌, length, take, drop, Bool, true, nat_lt, if◌then◌else◌, Option, Some, None, option_and_then, Result, Ok, Err, ◌≢◌, ℤ, ⊤, IfSome, option_map}
use Rattle.std.specs.{Option.option_or, Result.is_ok, Io.KnownBytes.Appends, Io.KnownBytes.Consumes, Io.KnownBytes.IsAtEnd, Io.KnownBytes.Keeps}
use Rattle.std.specs.declared.io.Read as read
use Rattle.std.specs.declared.io.Write as write
use Rattle.desk_store.specs.declared.store.PlanStore.{Ghosts}
use Rattle.desk_store.specs.Changes.{IsHonest}
use Rattle.desk_run.specs.{Calls.Leaves, Verdicts.DeskWorld, Verdicts.Parts, Verdicts.world_of}
use Rattle.request_parser.specs.declared.{message.Front.Front, wire_fault.WireFault.WireFault, wire_fault.WireFault.TheVariants.HeadTooLarge}
use Rattle.request_parser.specs.{Heads.ends_head, Heads.head_len, Heads.least, Messages.FrontParts, Messages.MessageParts, Messages.front_in, Messages.front_shown, Messages.message_in, Messages.Reading, WireLimits.head_room, Requests.asked}
use Rattle.io_ends.specs.declared.{serving.Served.Served, serving.Served.TheVariants.Answered, serving.Served.TheVariants.End, serving.ServeFault.ServeFault, serving.ServeFault.TheVariants.Read, serving.ServeFault.TheVariants.Write, serving.ServeFault.TheVariants.CutShort, serving.ServeFault.TheVariants.OutOfMemory, writing.PartialWrite.PartialWrite}
use Rattle.io_ends.specs.{Writing.BreaksOff, Reading.HaveGivenUp}
use Rattle.desk_wire.specs.declared.{response.ServerError.ServerError, receive_fault.ReceiveFault.ReceiveFault}
use Rattle.desk_wire.specs.declared.receive_fault.ReceiveFault.TheVariants as receive_fault
use Rattle.io_ends.specs.declared.chunks.ChunkError.{ChunkError}
use Rattle.io_ends.specs.declared.chunks.ChunkError.TheVariants as chunk_error
use Rattle.desk_wire.specs.Bytes.{IsAnsweredSo, IsServerError, status_or_500, world_after, desk_fault}

-- ==== The requests that the bytes of a stream are, one after the other (RFC 9112, section 2.1)
-- how many bytes are read of a stream's first request before its body: those of its head, or `room` if no
-- head ends within so many. None if the stream ends before
unfoldable pub front_within : ℕ → List ℕ → Option ℕ
front_within room stream =
    option_or (head_len room stream) (if nat_lt (length stream) room then None else Some room)

-- what these bytes are: a head, with how many bytes of a body follow it, or the fault that they have
unfoldable pub front_parsed : List ℕ → Reading FrontParts
front_parsed front = if ends_head front then front_in front else Err HeadTooLarge

-- how many bytes of a body are to be read: 0 after a fault, since it isn't known then
abbrev pub size_or_zero : Reading FrontParts → ℕ
size_or_zero (Ok front) = front.size
size_or_zero (Err fault) = 0

-- the length of a request with `front` bytes before a body of `size` bytes. None if the stream, of which
-- `there` bytes are there, is shorter
abbrev pub whole_len : ℕ → ℕ → ℕ → Option ℕ
whole_len there front size = if nat_lt there (front + size) then None else Some (front + size)

-- the length of the stream's first request. None if the stream ends before the request does
unfoldable pub request_len : List ℕ → Option ℕ
request_len stream =
    option_and_then
    (λ front. whole_len (length stream) front (size_or_zero (front_parsed (take front stream))))
    (front_within head_room stream)

-- the bytes are one whole request of a stream, and no more
abbrev pub IsRequest : List ℕ → Type 0
IsRequest bytes = request_len bytes ≡ Some (length bytes)

-- whether it is known where the next request begins: this one can be split into head and body
abbrev pub is_framed : List ℕ → Bool
is_framed request = is_ok (message_in request)

-- the request of this length at the front of a stream, and those that `next` finds after it, if it is known
-- where the next one begins
abbrev pub with_next : (List ℕ → List (List ℕ)) → List ℕ → Option ℕ → List (List ℕ)
with_next next stream None = []
with_next next stream (Some len) =
    take len stream ∷ (if is_framed (take len stream) then next (drop len stream) else [])

-- the first requests of a stream, at most n: the whole ones, one after the other, up to its end, to one that
-- is cut off, or to the first after which the place of the next is unknown
unfoldable pub requests_in : ℕ → List ℕ → List (List ℕ)
requests_in zero stream = []
requests_in (suc n) stream = with_next (requests_in n) stream (request_len stream)

-- the stream ends inside its first request
pub record IsCut (stream : List ℕ) : Type 0 where
  pub some : 0 < length stream
  pub cut : request_len stream ≡ None

-- the byte as a list, empty if there is none
abbrev pub byte_list : Option ℕ → List ℕ
byte_list None = []
byte_list (Some b) = b ∷ []

-- the parts of the code's `Front`, or its fault
abbrev pub front_result : Result Front WireFault → Reading FrontParts
front_result (Ok front) = Ok (front_shown front)
front_result (Err fault) = Err fault

-- the message of a front and a body, or the fault of the front
abbrev pub with_body : Reading FrontParts → List ℕ → Reading MessageParts
with_body (Ok front) body = Ok (record { head = front.head; body = body })
with_body (Err fault) body = Err fault

-- the bytes read of a request before its body: a head, or as many as one may have; no shorter prefix is one
pub record IsFront (text : List ℕ) : Type 0 where
  pub none : least (λ n. ends_head (take n text)) (length text) ≡ None
  pub within : length text ≤ head_room
  pub whole : (ends_head text ≡ true) ⊎ (length text ≡ head_room)

-- ==== Passages: what is known of the bytes that are read and written while a desk serves
-- Of a reader or a writer that doesn't report its bytes nothing is known: its bytes are `None`.

-- something before and after
pub record Course (A : Type 0) : Type 0 where
  pub before : A
  pub after : A

abbrev pub course : {A : Type 0} → A → A → Course A
course before after = record { before = before; after = after }

-- the bytes that are left to be read, and those that the output has, each before and after
pub record Passage : Type 0 where
  pub reads : Course (Option (List ℕ))
  pub writes : Course (Option (List ℕ))

abbrev pub passed : Option (List ℕ) → Option (List ℕ) → Option (List ℕ) → Option (List ℕ) → Passage
passed old new out now = record { reads = course old new; writes = course out now }

-- the same of a reader that was `old` and is `new`, and of a writer that was `out` and is `now`
abbrev pub passage : {R W : Type 0} → read.Ghosts R → write.Ghosts W → R → R → W → W → Passage
passage r w old new out now = passed (r.remaining old) (r.remaining new) (w.contents out) (w.contents now)

-- ==== The result of serving one request of a stream
-- nothing was written, and the world is as it was
pub record IsUntouched (out now : Option (List ℕ)) (w after : DeskWorld) : Type 0 where
  pub written : Keeps out now
  pub left : after ≡ w

-- the bytes of one request were read from the stream, and no byte more
pub record IsTaken (old new : Option (List ℕ)) (request : List ℕ) : Type 0 where
  pub whole : IsRequest request
  pub taken : Consumes old new request

-- the answer to a request, and the world after it. `why` says why the desk failed, if it did: then the answer
-- says so, and the world is as it was, in any case. The rest holds if the store is honest (`H`)
pub record IsReplied (H : Type 0) (w : DeskWorld) (moment : ℤ) (request answer : List ℕ)
    (why : Option ServerError) (after : DeskWorld) : Type 0 where
  pub reported : H → IsAnsweredSo why w moment (asked request) answer after
  pub failed : IfSome why (λ error. IsServerError error w answer after)

-- one request was read and answered with `status`, and the whole answer was written. `H` says that the store
-- is honest
pub record IsServed (H : Type 0) (p : Passage) (w : DeskWorld) (moment : ℤ) (after : DeskWorld)
    (status : ℕ) (framed : Bool) : Type 0 where
  pub request : List ℕ
  pub taken : IsTaken p.reads.before p.reads.after request
  pub framed_is : framed ≡ is_framed request
  pub answer : List ℕ
  pub why : Option ServerError
  pub replied : IsReplied H w moment request answer why after
  pub status_is : H → status ≡ status_or_500 why w moment (asked request)
  pub gave_up : status ≡ 500 → why ≢ None
  pub written : Appends p.writes.before p.writes.after answer

-- the same, but not all of the answer was written
pub record IsBrokenOff (H : Type 0) (p : Passage) (w : DeskWorld) (moment : ℤ) (after : DeskWorld)
    (fault : PartialWrite) : Type 0 where
  pub request : List ℕ
  pub taken : IsTaken p.reads.before p.reads.after request
  pub answer : List ℕ
  pub why : Option ServerError
  pub replied : IsReplied H w moment request answer why after
  pub off : BreaksOff answer p.writes.before p.writes.after fault

-- what a fault of reading a request says: at `CutShort` the input ended inside the request, as `cut` says; of
-- the input at the others nothing is said
abbrev pub Stops : {R : Type 0} → Type 0 → ReceiveFault R → Type 0
Stops cut receive_fault.CutShort = cut
Stops cut (receive_fault.Unread error) = ⊤
Stops cut receive_fault.OutOfMemory = ⊤

-- how many reads one request may take
abbrev pub max_reads : ℕ
max_reads = 200000

-- reading a request was given up: a read failed, or `limit` reads were made; of the other faults nothing is said
abbrev pub IsGivenUp : {R : Type 0} → ℕ → ReceiveFault R → Type 0
IsGivenUp limit receive_fault.CutShort = ⊤
IsGivenUp limit (receive_fault.Unread error) = HaveGivenUp limit error.reads
IsGivenUp limit receive_fault.OutOfMemory = ⊤

-- the fault of reading a request of which a chunk was not read
abbrev pub unread_chunk : {R : Type 0} → ChunkError R → ReceiveFault R
unread_chunk (chunk_error.Read error) = receive_fault.Unread error
unread_chunk chunk_error.OutOfMemory = receive_fault.OutOfMemory

-- the fault of serving a request that was not read whole
abbrev pub serve_fault_of : {R : Type 0} → ReceiveFault R → ServeFault
serve_fault_of receive_fault.CutShort = CutShort
serve_fault_of (receive_fault.Unread error) = Read
serve_fault_of receive_fault.OutOfMemory = OutOfMemory

-- the result of serving one request of a stream, from the world `w` to the world `after`. `H` says that the
-- store is honest; `p` are the bytes that were read and written
abbrev pub HasServed : Type 0 → Result Served ServeFault → Passage → DeskWorld → ℤ → DeskWorld → Type 0
HasServed H (Ok (Answered status framed)) p w moment after = IsServed H p w moment after status framed
HasServed H (Ok End) p w moment after =
    IsAtEnd p.reads.before × IsUntouched p.writes.before p.writes.after w after
HasServed H (Err (Write fault)) p w moment after = IsBrokenOff H p w moment after fault
HasServed H (Err CutShort) p w moment after =
    IfSome p.reads.before IsCut × IsUntouched p.writes.before p.writes.after w after
HasServed H (Err Read) p w moment after = IsUntouched p.writes.before p.writes.after w after
HasServed H (Err OutOfMemory) p w moment after = IsUntouched p.writes.before p.writes.after w after

-- `answer` are the bytes of the answer to `request`, at a desk that was `old` and is `new`. There is a reason
-- `why` the desk failed, or none, with which the answer and the new world are as the rules say
pub record IsAnswered {S : Type 0} (g : Ghosts S) (old new : Parts S) (moment : ℤ)
    (request answer : List ℕ) : Type 0 where
  pub why : Option ServerError
  pub replied : IsReplied (IsHonest (g.doubt new.store)) (world_of g.content old) moment request answer why
      (world_of g.content new)
  pub leaves : Leaves g old new (world_after (world_of g.content old) moment (asked request))
      (option_map desk_fault why)
