-- One request of a stream, from what its head, its body and its answer came to.
use Rattle.std.proofs.Common.{◌≡◌, ◌<◌, ℕ, ℤ, Bool, List, ◌++◌, Option, IfErr, IfOk, IfSome, Result, Ok, Err, length, refl, sym, ap, subst, ◌∙◌}
use Rattle.std.proofs.KnownBytes.{Consumes-trans, Keeps-refl}
use Rattle.std.specs.Io.KnownBytes.{Consumes}
use Rattle.std.specs.Result.{IsErrAnd, is_ok}
use Rattle.request_parser.specs.Messages.{FrontParts, MessageParts, message_in, message_read, Reading, or_met}
use Rattle.request_parser.specs.Requests.{asked, asked_by}
use Rattle.request_parser.specs.declared.message.Message.{Message}
use Rattle.request_parser.specs.declared.wire_fault.WireFault.{WireFault}
use Rattle.desk_run.specs.Verdicts.{DeskWorld}
use Rattle.io_ends.specs.declared.serving.Served.{Served}
use Rattle.io_ends.specs.declared.serving.Served.TheVariants.{Answered}
use Rattle.io_ends.specs.declared.serving.ServeFault.{ServeFault}
use Rattle.io_ends.specs.declared.serving.ServeFault.TheVariants.{Read, Write, CutShort, OutOfMemory}
use Rattle.io_ends.specs.declared.writing.PartialWrite.{PartialWrite}
use Rattle.io_ends.specs.Writing.{BreaksOff}
use Rattle.desk_wire.specs.declared.{response.ServerError.ServerError, receive_fault.ReceiveFault.ReceiveFault}
use Rattle.desk_wire.specs.declared.receive_fault.ReceiveFault.TheVariants as receive_fault
use Rattle.desk_wire.specs.Bytes.{IsAnsweredSo, IsServerError, status_or_500}
use Rattle.desk_wire.specs.Streams.{passed, HasServed, IsReplied, IsServed, IsTaken, IsUntouched, Stops, serve_fault_of, IsCut, IsFront, front_parsed, is_framed, size_or_zero, with_body}
use Rattle.desk_wire.proofs.BytesLemmas.{asked_read}
use Rattle.desk_wire.proofs.FrontLemmas.{is_request, message_is}

-- a front and its body, as they were received and read
pub record IsReceived (old new : Option (List ℕ)) (text body : List ℕ)
    (request : Reading MessageParts) : Type
    0 where
  pub taken : IsTaken old new (text ++ body)
  pub read : request ≡ message_in (text ++ body)

pub received : (old now new : Option (List ℕ)) (text body : List ℕ) (front : Reading FrontParts)
    (request : Reading MessageParts) → Consumes old now text → IsFront text → front ≡ front_parsed text
    → Consumes now new body → length body ≡ size_or_zero front → request ≡ with_body front body
    → IsReceived old new text body request
received old now new text body front request first h is next size made =
    let said = size ∙ ap size_or_zero is in
    record {
      taken = record {
        whole = is_request text body h said;
        taken = Consumes-trans old now new text body first next;
      };
      read = made ∙ ap (λ f. with_body f body) is ∙ sym (message_is text body h said);
    }

pub replied : (H : Type 0) (w after : DeskWorld) (moment : ℤ) (request answer : List ℕ)
    (reading : Reading MessageParts) (why : Option ServerError) → reading ≡ message_in request
    → (H → IsAnsweredSo why w moment (or_met reading asked_by) answer after)
    → IfSome why (λ error. IsServerError error w answer after)
    → IsReplied H w moment request answer why after
replied H w after moment request answer reading why r reported failed = record {
  reported = λ h. subst (λ a. IsAnsweredSo why w moment a answer after)
      (asked_read request request reading r refl) (reported h);
  failed = failed;
}

pub status_as : (H : Type 0) (w : DeskWorld) (moment : ℤ) (request : List ℕ)
    (reading : Reading MessageParts) (why : Option ServerError) (status : ℕ) → reading ≡ message_in request
    → (H → status ≡ status_or_500 why w moment (or_met reading asked_by)) → H
    → status ≡ status_or_500 why w moment (asked request)
status_as H w moment request reading why status r is h = is h
    ∙ ap (λ a. status_or_500 why w moment a) (asked_read request request reading r refl)

pub framed_as : (request : Result Message WireFault) (bytes : List ℕ) (framed : Bool) → framed
    ≡ is_ok request
    → message_read request ≡ message_in bytes → framed ≡ is_framed bytes
framed_as (Ok m) bytes framed is read = is ∙ ap is_ok read
framed_as (Err f) bytes framed is read = is ∙ ap is_ok read

-- the exit after a whole answer
pub served_as : (H : Type 0) (s : Served) (status : ℕ) (framed : Bool)
    (old new out now : Option (List ℕ))
    (w after : DeskWorld) (moment : ℤ) → s ≡ Answered status framed
    → IsServed H (passed old new out now) w moment after status framed
    → HasServed H (Ok s) (passed old new out now) w moment after
served_as H s status framed old new out now w after moment is served =
    subst (λ r. HasServed H (Ok r) (passed old new out now) w moment after) (sym is) served

-- the exit of a `?` that hands on what stopped the reading
pub stopped : {R : Type 0} (H cut : Type 0) (r : Result Served ServeFault) (f : ReceiveFault R)
    (old new out : Option (List ℕ))
    (w : DeskWorld) (moment : ℤ) → IsErrAnd r (λ e. e ≡ serve_fault_of f) → Stops cut f
    → (cut → IfSome old IsCut) → HasServed H r (passed old new out out) w moment w
stopped H cut (Ok s) f old new out w moment is stops then_cut = absurd is
stopped {R} H cut (Err e) f old new out w moment is stops then_cut =
    subst (λ z. HasServed H (Err z) (passed old new out out) w moment w) (sym is) (by f stops)
  where
    untouched : IsUntouched out out w w
    untouched = record { written = Keeps-refl out; left = refl }

    by : (f : ReceiveFault R) → Stops cut f → HasServed H (Err (serve_fault_of f)) (passed old new out out) w moment w
    by (receive_fault.Unread error) s = untouched
    by receive_fault.OutOfMemory s = untouched
    by receive_fault.CutShort s = (then_cut s, untouched)

-- the exit of a `?` that hands on what stopped the writing
pub broken : (H : Type 0) (r : Result Served ServeFault) (fault : PartialWrite)
    (old new out now : Option (List ℕ))
    (w after : DeskWorld) (moment : ℤ) (request answer : List ℕ) (why : Option ServerError)
    → IsErrAnd r (λ e. e ≡ Write fault) → BreaksOff answer out now fault → IsTaken old new request
    → IsReplied H w moment request answer why after → HasServed H r (passed old new out now) w moment after
broken H (Ok s) fault old new out now w after moment request answer why is off taken reported = absurd is
broken H (Err e) fault old new out now w after moment request answer why is off taken reported =
    subst (λ z. HasServed H (Err z) (passed old new out now) w moment after) (sym is) (record {
      request = request;
      taken = taken;
      answer = answer;
      why = why;
      replied = reported;
      off = off;
    })

-- the exit of a `?` that hands on what stopped the reading of a request, with what that says of the request
pub stopped_so : {A R : Type 0} (cut whole : Type 0) (r : Result A (ReceiveFault R)) (f : ReceiveFault R)
    → IsErrAnd r (λ e. e ≡ f) → Stops cut f → (cut → whole) → IfErr r (Stops whole)
stopped_so cut whole (Ok x) f is stops then_whole = tt
stopped_so {A} {R} cut whole (Err e) f is stops then_whole = subst (Stops whole) (sym is) (by f stops)
  where
    by : (f : ReceiveFault R) → Stops cut f → Stops whole f
    by (receive_fault.Unread error) s = tt
    by receive_fault.OutOfMemory s = tt
    by receive_fault.CutShort s = then_whole s
