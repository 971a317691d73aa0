-- What connections leave, one after the other.
use Rattle.std.proofs.Common.{◌≡◌, ◌≢◌, ◌+◌, ℕ, ℤ, true, List, [], ◌∷◌, ◌++◌, ◌∙◌, Option, None, Some, Result, Ok, Err, All, IfSome, length, inl, inr, refl, ap, sym, subst, arith}
use Rattle.std.specs.Prelude.{⊤, IfErr, OnOk}
use Rattle.std.specs.Result.{IsErrAnd}
use Rattle.std.proofs.lemmas.List.{length-append, append_assoc, append-nil}
use Rattle.std.proofs.lemmas.List.Elements.{All-append, All-cons, All-head, All-nil, All-tail}
use Rattle.desk_run.specs.Verdicts.{DeskWorld}
use Rattle.io_ends.specs.declared.serving.Served.{Served}
use Rattle.io_ends.specs.declared.serving.Served.TheVariants.{Answered, End}
use Rattle.io_ends.specs.declared.serving.ServeFault.{ServeFault}
use Rattle.io_ends.specs.declared.serving.ServeFault.TheVariants.{Read, Write, CutShort, OutOfMemory}
use Rattle.desk_wire.specs.Streams.{Course, Passage, course, HasServed, IsReplied}
use Rattle.desk_wire.specs.declared.response.ServerError.{ServerError}
use Rattle.desk_cli.specs.declared.failure.ErrorCode.{ErrorCode}
use Rattle.desk_cli.specs.Exits.{failure_at}
use Rattle.desk_cli.specs.declared.line.ServeArgs.{ServeArgs}
use Rattle.desk_cli.specs.declared.line.Enrolment.{Enrolment}
use Rattle.desk_program.specs.Enrolling.{AreEnrolled, on_terms, with_operators, JournalEnds, IsOpen, Noted, Recorded, Ended, Open, RecordsNone, with_news, with_request}
use Rattle.desk_program.specs.Serving.{AreNoted, AreServed, AreTaken, AddsNothingNew, EndsAfter, EndsAtEnrolments, EndsDeskBy, Exchange, Grows, IsAskedToListen, IsAtPort, IsPortError, IsLastEnrolments, IsUnsent, Parting, PrintsIfListening, Traffic, error_in, first_failure, news_of, outcome_of, passage_of}

-- ---- the connections that are taken

pub none_more : {A : Type 0} (old new : Option (List A)) → new ≡ old → Grows old new []
none_more None new same = tt
none_more (Some xs) new same = subst (λ v. Grows (Some xs) v []) (sym same) (sym (append-nil xs))

pub both_more : {A : Type 0} (old mid new : Option (List A)) (xs ys : List A) → Grows old mid xs
    → Grows mid new ys → Grows old new (xs ++ ys)
both_more None mid new xs ys first then = tt
both_more (Some a) None new xs ys first then = absurd first
both_more (Some a) (Some b) None xs ys first then = absurd then
both_more (Some a) (Some b) (Some c) xs ys first then =
    then ∙ ap (λ v. v ++ ys) first ∙ append_assoc a xs ys

-- what a port reports now, it reported before
unsent_before : (old mid : Option (List Parting)) (more : List Parting) → Grows old mid more
    → (P : Type 0) → IfSome mid (λ partings. P) → IfSome old (λ partings. P)
unsent_before None mid more grown P h = tt
unsent_before (Some a) None more grown P h = absurd grown
unsent_before (Some a) (Some b) more grown P h = h

pub all_unsent : (old mid : Traffic) (more : List Parting) → Grows old.closed mid.closed more
    → (xs : List Exchange) → All (λ x. IsUnsent mid x.out) xs → All (λ x. IsUnsent old x.out) xs
all_unsent old mid more grown [] h = All-nil (λ x. IsUnsent old x.out)
all_unsent old mid more grown (x ∷ xs) h = All-cons (λ z. IsUnsent old z.out) x xs
    (unsent_before old.closed mid.closed more grown (x.out ≡ Some [])
    (All-head (λ z. IsUnsent mid z.out) x xs h))
    (all_unsent old mid more grown xs (All-tail (λ z. IsUnsent mid z.out) x xs h))

-- ---- what is recorded

pub stays_noted : (r : Option Recorded) → RecordsNone r r
stays_noted None = tt
stays_noted (Some (Ended text)) = refl
stays_noted (Some (Open n)) = inl refl

pub same_noted : (r : Option Recorded) (Fails : Type 0) → IfSome r (λ recorded. Fails → r ≡ r)
same_noted None Fails = tt
same_noted (Some recorded) Fails = λ fails. refl

-- all is as it was
pub stays : (port : Traffic) → AddsNothingNew port port
stays port = (refl, refl, refl, refl, stays_noted port.recorded)

-- where it isn't known what was recorded, nothing is reported
none_noted : (xs : List Exchange) (last : Option (List Enrolment)) (new : Option Recorded)
    → AreNoted None xs last new
none_noted [] None new = tt
none_noted [] (Some newly_enrolled) new = (None, tt, tt)
none_noted (x ∷ xs) last new = (
  None,
  None,
  None,
  record { newly_enrolled = tt; unsent = tt; request = tt; answer = tt },
  tt,
  none_noted xs last new,
)

-- nothing is brought or taken once a record has ended
ended_noted : (n : Noted) (text : List ℕ) (xs : List Exchange) (last : Option (List Enrolment))
    (new : Option Recorded) → JournalEnds n (Some (Ended text)) → AreNoted (Some (Ended text)) xs last new
    → AreNoted (Some (Open n)) xs last new
ended_noted n text [] None new cut same = inr (subst (JournalEnds n) (sym same) cut)
ended_noted n text [] (Some newly_enrolled) new cut h = absurd h.1
ended_noted n text (x ∷ xs) last new cut h = absurd h.3.newly_enrolled

-- nothing is brought or taken, and then others are
then_noted : (old mid new : Option Recorded) (xs : List Exchange) (last : Option (List Enrolment))
    → RecordsNone old mid → AreNoted mid xs last new → AreNoted old xs last new
then_noted None mid new xs last first then = none_noted xs last new
then_noted (Some (Ended text)) mid new xs last first then =
    subst (λ r. AreNoted r xs last new) first then
then_noted (Some (Open n)) mid new xs last (inl same) then = subst (λ r. AreNoted r xs last new) same then
then_noted (Some (Open n)) mid new xs last (inr cut) then =
    ended_noted n (with_request (with_news n cut.newly_enrolled) cut.moment cut.request).text xs last new
    (subst (JournalEnds n) cut.ended cut) (subst (λ r. AreNoted r xs last new) cut.ended then)

not_failed : (r mid new : Option Recorded) (Fails : Type 0) → ¬ Fails
    → IfSome r (λ recorded. Fails → mid ≡ r) → IfSome r (λ recorded. Fails → new ≡ r)
not_failed None mid new Fails never h = tt
not_failed (Some recorded) mid new Fails never h = λ fails. absurd (never fails)

pub both_noted : (xs ys : List Exchange) (last : Option (List Enrolment)) (old mid new : Option Recorded)
    → All (λ x. failure_at x.served ≡ None) xs → AreNoted old xs None mid → AreNoted mid ys last new
    → AreNoted old (xs ++ ys) last new
both_noted [] ys last old mid new on first then = then_noted old mid new ys last first then
both_noted (x ∷ xs) ys last old mid new on first then = (
  first.0,
  first.1,
  first.2,
  first.3,
  not_failed first.2 mid new (failure_at x.served ≢ None)
      (λ fails. fails (All-head (λ z. failure_at z.served ≡ None) x xs on)) first.4,
  both_noted xs ys last first.2 mid new (All-tail (λ z. failure_at z.served ≡ None) x xs on) first.5 then,
)

-- ---- what they leave

-- what holds of an answer if a store is honest holds if a store is that was honest before
replied_then : (H K : Type 0) → (K → H) → (w : DeskWorld) (moment : ℤ) (request answer : List ℕ)
    (why : Option ServerError) (after : DeskWorld) → IsReplied H w moment request answer why after
    → IsReplied K w moment request answer why after
replied_then H K by w moment request answer why after replied =
    record { reported = λ k. replied.reported (by k); failed = replied.failed }

pub served_then : (H K : Type 0) → (K → H) → (r : Result Served ServeFault) (p : Passage) (w : DeskWorld)
    (moment : ℤ) (after : DeskWorld)
    → HasServed H r p w moment after → HasServed K r p w moment after
served_then H K by (Ok (Answered status framed)) p w moment after h = record {
  request = h.request;
  taken = h.taken;
  framed_is = h.framed_is;
  answer = h.answer;
  why = h.why;
  replied = replied_then H K by w moment h.request h.answer h.why after h.replied;
  status_is = λ k. h.status_is (by k);
  gave_up = h.gave_up;
  written = h.written;
}
served_then H K by (Ok End) p w moment after h = h
served_then H K by (Err (Write fault)) p w moment after h = record {
  request = h.request;
  taken = h.taken;
  answer = h.answer;
  why = h.why;
  replied = replied_then H K by w moment h.request h.answer h.why after h.replied;
  off = h.off;
}
served_then H K by (Err CutShort) p w moment after h = h
served_then H K by (Err Read) p w moment after h = h
served_then H K by (Err OutOfMemory) p w moment after h = h

pub enrolled_then : (H K : Type 0) → (K → H) → (es : List Enrolment) (w listed : DeskWorld)
    → AreEnrolled H es w listed → AreEnrolled K es w listed
enrolled_then H K by [] w listed h = h
enrolled_then H K by (e ∷ es) w listed h = λ k. h (by k)

pub all_then : (H K : Type 0) → (K → H) → (xs : List Exchange) (w after : DeskWorld) → AreServed H xs w after
    → AreServed K xs w after
all_then H K by [] w after h = h
all_then H K by (x ∷ xs) w after h = (
  h.0,
  h.1,
  enrolled_then H K by x.newly_enrolled w h.0 h.2,
  served_then H K by x.served (passage_of x) h.0 x.arrival.moment h.1
      h.3,
  all_then H K by xs h.1 after h.4,
)

pub both_served : (H : Type 0) (xs ys : List Exchange) (u v w : DeskWorld) → AreServed H xs u v
    → AreServed H ys v w → AreServed H (xs ++ ys) u w
both_served H [] ys u v w first then = subst (λ z. AreServed H ys z w) first then
both_served H (x ∷ xs) ys u v w first then =
    (first.0, first.1, first.2, first.3, both_served H xs ys first.1 v w first.4 then)

-- ---- both

-- the news of some connections, and of others
pub both_news : (xs ys : List Exchange) (last : Option (List Enrolment)) → news_of xs None ++ news_of ys last
    ≡ news_of (xs ++ ys) last
both_news [] ys last = refl
both_news (x ∷ xs) ys last = ap (λ rest. x.newly_enrolled ∷ rest) (both_news xs ys last)

-- a desk that goes on has listed the operators of all news
pub none_last : {A : Type 0} (H : Type 0) (last : Option (List Enrolment)) (d : A) (w after : DeskWorld)
    → IsLastEnrolments H last (Ok d) w after → (last ≡ None) × (after ≡ w)
none_last H None d w after h = (refl, h)
none_last H (Some newly_enrolled) d w after h = absurd h

-- nothing is taken
pub none : {A : Type 0} (H : Type 0) (done : Result A ErrorCode) (count : ℕ)
    (old new : Traffic)
    (w after : DeskWorld) → AddsNothingNew old new → (IsOpen old.recorded → OnOk done (IsOpen new.recorded))
    → after ≡ w → EndsAfter done count [] None → AreTaken H done count (course old new) w after
none H done count old new w after denies still left ends = record {
  exchanges = [];
  last = None;
  between = w;
  few = omega arith;
  listened = denies.0;
  taken = none_more old.taken new.taken denies.1;
  closed = none_more old.closed new.closed denies.2;
  fresh = All-nil (λ x. IsUnsent old x.out);
  reported = All-nil (λ x. x.parting.outcome ≡ outcome_of x.served);
  newly_enrolled = none_more old.newly_enrolled new.newly_enrolled denies.3;
  recorded = denies.4;
  stays_open = still;
  served = refl;
  untaken = left;
  ends = ends;
}

-- a failure doesn't end well
pub not_ok : {A : Type 0} (done : Result A ErrorCode) (f : ErrorCode) (P : Type 0)
    → IsErrAnd done (λ e. e ≡ f) → OnOk done P
not_ok (Ok d) f P is = absurd is
not_ok (Err e) f P is = tt

-- one connection is taken, and closed
pub one_ends : {A : Type 0} (done : Result A ErrorCode) (x : Exchange) (closed : Result ⊤ ErrorCode)
    → IfErr closed IsPortError → error_in done ≡ first_failure (failure_at x.served) (error_in closed)
    → EndsAfter done 1 (x ∷ []) None
one_ends {A} done x closed denied is = by done (failure_at x.served) closed refl denied is where
  some_same : {f g : ErrorCode} → Some f ≡ Some g → f ≡ g
  some_same e = cc

  by : (done : Result A ErrorCode) (at : Option ErrorCode) (closed : Result ⊤ ErrorCode) → failure_at x.served ≡ at
      → IfErr closed IsPortError → error_in done ≡ first_failure at (error_in closed)
      → EndsAfter done 1 (x ∷ []) None
  by (Ok d) None (Ok c) same denied is = (
    refl,
    All-cons (λ z. failure_at z.served ≡ None) x [] same (All-nil (λ z. failure_at z.served ≡ None)),
  )
  by (Ok d) None (Err f) same denied is = cc
  by (Ok d) (Some f) closed same denied is = cc
  by (Err e) None (Ok c) same denied is = cc
  by (Err e) None (Err f) same denied is = inl (same, subst IsPortError (some_same (sym is)) denied)
  by (Err e) (Some f) closed same denied is = inr (same ∙ sym is, refl, refl)

-- it ends well only if its closing did
pub one_closed : {A : Type 0} (P : Type 0) (done : Result A ErrorCode) (at : Option ErrorCode)
    (closed : Result ⊤ ErrorCode) → error_in done ≡ first_failure at (error_in closed) → OnOk closed P
    → OnOk done P
one_closed P (Ok d) None (Ok c) is h = h
one_closed P (Ok d) None (Err f) is h = cc
one_closed P (Ok d) (Some f) closed is h = cc
one_closed P (Err e) at closed is h = tt

-- so many connections and then others are so many in all
pub goes_on : {A B C : Type 0} (d : A) (e : B) (whole : C) (m k : ℕ) (xs ys : List Exchange)
    (one last : Option (List Enrolment)) → EndsAfter {A = A} (Ok d) m xs one
    → EndsAfter {A = B} (Ok e) k ys last → EndsAfter {A = C} (Ok whole) (m + k) (xs ++ ys) last
goes_on d e whole m k xs ys one last first then = (
  length-append xs ys ∙ ap (λ n. n + length ys) first.0 ∙ ap (λ n. m + n) then.0,
  All-append (λ z. failure_at z.served ≡ None) xs ys first.1 then.1,
)

pub goes_on_by : {A B C : Type 0} (d : A) (e : B) (whole : C) (then : Result B ErrorCode) → then ≡ Ok e
    → (m k : ℕ) (xs ys : List Exchange) (one last : Option (List Enrolment))
    → EndsAfter {A = A} (Ok d) m xs one → EndsAfter then k ys last
    → EndsAfter {A = C} (Ok whole) (m + k) (xs ++ ys) last
goes_on_by d e whole then is m k xs ys one last first ends =
    goes_on d e whole m k xs ys one last first (subst (λ r. EndsAfter r k ys last) is ends)

-- a failure is handed on
pub stops : {A : Type 0} (whole : Result A ErrorCode) (f : ErrorCode) → IsErrAnd whole (λ e. e ≡ f)
    → (count : ℕ) (xs : List Exchange) (last : Option (List Enrolment)) → EndsDeskBy f xs last
    → EndsAfter whole count xs last
stops (Ok d) f is count xs last ends = absurd is
stops (Err e) f is count xs last ends = subst (λ v. EndsDeskBy v xs last) (sym is) ends

-- a failure comes after connections that the desk went on after
ends_more : (f : ErrorCode) (xs ys : List Exchange) (last : Option (List Enrolment))
    → All (λ x. failure_at x.served ≡ None) xs → EndsDeskBy f ys last → EndsDeskBy f (xs ++ ys) last
ends_more f [] ys last on ends = ends
ends_more f (x ∷ xs) ys last on ends = inl (
  All-head (λ z. failure_at z.served ≡ None) x xs on,
  ends_more f xs ys last (All-tail (λ z. failure_at z.served ≡ None) x xs on) ends,
)

pub stops_by : {A B C : Type 0} (d : C) (whole : Result A ErrorCode) (f : ErrorCode) (then : Result B ErrorCode)
    → IsErrAnd whole (λ e. e ≡ f) → then ≡ Err f → (m n k : ℕ) (xs ys : List Exchange)
    (one last : Option (List Enrolment)) → EndsAfter {A = C} (Ok d) m xs one → EndsAfter then k ys last
    → EndsAfter whole n (xs ++ ys) last
stops_by d whole f then is was m n k xs ys one last first ends = stops whole f is n (xs ++ ys) last
    (ends_more f xs ys last first.1 (subst (λ r. EndsAfter r k ys last) was ends))

-- so are the last news
pub last_goes_on : {B C : Type 0} (H : Type 0) (then : Result B ErrorCode) (e : B) (whole : C) → then ≡ Ok e
    → (last : Option (List Enrolment)) (w after : DeskWorld) → IsLastEnrolments H last then w after
    → IsLastEnrolments {A = C} H last (Ok whole) w after
last_goes_on H then e whole is None w after h = h
last_goes_on H then e whole is (Some newly_enrolled) w after h =
    absurd (subst (λ r. IsLastEnrolments H (Some newly_enrolled) r w after) is h)

pub last_stops : {A B : Type 0} (H : Type 0) (whole : Result A ErrorCode) (f : ErrorCode)
    (then : Result B ErrorCode) → IsErrAnd whole (λ e. e ≡ f) → then ≡ Err f
    → (last : Option (List Enrolment)) (w after : DeskWorld) → IsLastEnrolments H last then w after
    → IsLastEnrolments H last whole w after
last_stops H whole f then is was None w after h = h
last_stops H (Ok d) f then is was (Some newly_enrolled) w after h = absurd is
last_stops H (Err e) f then is was (Some newly_enrolled) w after h = subst (λ v. EndsAtEnrolments H v newly_enrolled w after) (sym is)
    (subst (λ r. IsLastEnrolments H (Some newly_enrolled) r w after) was h)

-- what is printed, after connections were served
pub still_heard : (old mid new : Traffic) (number : ℕ) (writes : Course (Option (List ℕ)))
    → new.listened ≡ mid.listened → PrintsIfListening (course old mid) number writes
    → PrintsIfListening (course old new) number writes
still_heard old mid new number writes same (inl listens) =
    inl (subst (λ now. Grows old.listened now ((number, true) ∷ [])) (sym same) listens)
still_heard old mid new number writes same (inr none) = inr none

-- the operators are listed, and no connection is taken
pub unserved : {A : Type 0} (H : Type 0) (done : Result A ErrorCode) (f : ErrorCode) (serve : ServeArgs)
    (old new : Traffic) (w after : DeskWorld) → IsErrAnd done (λ e. e ≡ f)
    → IsPortError f → IsAskedToListen old new serve.port → (H → after ≡ with_operators (on_terms w serve.desk.terms)
    serve.desk.enrolments.items)
    → IsAtPort H done serve (course old new) w after
unserved H done f serve old new w after is denied listens listed = inl (record {
  begun = after;
  listed = listed;
  listening = new;
  listens = listens;
  taken = none H done serve.connections new new after after (stays new)
      (λ was. not_ok done f (IsOpen new.recorded) is) refl
      (stops done f is serve.connections [] None denied);
})
