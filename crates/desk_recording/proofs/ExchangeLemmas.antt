-- What is written down of one connection is played again.
use Rattle.std.proofs.Common.{◌≡◌, ◌≢◌, ◌≤◌, ◌<◌, ◌⊎◌, ◌∙◌, ◌==◌, ℕ, ℤ, pos, nat_abs, List, [], ◌∷◌, ◌++◌, length, Bool, true, false, Option, Some, None, IfSome, Result, Ok, Err, if◌then◌else◌, eq-eqb, append-nil, ap, inl, inr, refl, subst, sym, arith}
use Rattle.std.proofs.lemmas.Bool.Decides.{nat_tests}
use Rattle.std.proofs.lemmas.Int.{ints}
use Rattle.std.proofs.lemmas.List.{length-append}
use Rattle.io_ends.specs.Writing.{IsMoment}
use Rattle.io_ends.specs.declared.serving.Served.{Served}
use Rattle.io_ends.specs.declared.serving.Served.TheVariants.{Answered, End}
use Rattle.io_ends.specs.declared.serving.ServeFault.{ServeFault}
use Rattle.io_ends.specs.declared.serving.ServeFault.TheVariants.{CutShort, OutOfMemory, Read, Write}
use Rattle.request_parser.specs.Heads.{head_len}
use Rattle.request_parser.specs.Messages.{Reading}
use Rattle.request_parser.specs.Requests.{asked}
use Rattle.desk_rules.specs.declared.call.Asked.{Asked}
use Rattle.desk_store.specs.World.{World}
use Rattle.desk_run.specs.Verdicts.{DeskWorld, Reported, no_such_plan, replied, reported_to, unknown_operator}
use Rattle.desk_writing.specs.ReplyText.{answer_text, error_text, json_answer, reply_text}
use Rattle.desk_wire.specs.Bytes.{IsAnsweredSo, IsServerError, status_or_500, text, text_for, world_after, refusal_text, server_error_text}
use Rattle.desk_wire.specs.Given.{IsCertain}
use Rattle.desk_wire.specs.Streams.{passed, HasServed, IsReplied, IsTaken, IsRequest, front_within, request_len}
use Rattle.desk_wire.specs.declared.response.ServerError.{ServerError}
use Rattle.desk_wire.specs.declared.response.ServerError.TheVariants as given
use Rattle.desk_cli.specs.declared.failure.ErrorCode.TheVariants as failure
use Rattle.desk_cli.specs.Exits.{failure_at}
use Rattle.desk_program.specs.Keeping.{IsLeftUncertain}
use Rattle.desk_program.specs.Serving.{Exchange, is_answered}
use Rattle.desk_replay.specs.Replaying.{last_moment}

-- ---- moments

pub same_second : (z : ℤ) → IsMoment z → pos (nat_abs z) ≡ z
same_second z h = grind (arith, ints, h.0, h.1)

pub low_second : (z : ℤ) → IsMoment z → nat_abs z ≤ last_moment
low_second z h = grind (arith, ints, h.0, h.1)

-- ---- an answer has some bytes

some_answer : (status : ℕ) (allow : Option (List ℕ)) (body : List ℕ) → 0 < length
    (answer_text status allow body)
unfolding answer_text
some_answer status allow body = omega arith

some_error : (status : ℕ) (allow : Option (List ℕ)) (word : List ℕ) → 0 < length
    (error_text status allow word)
unfolding error_text json_answer
some_error status allow word = some_answer status allow _

some_reported : (t : Reported) → 0 < length (text t)
unfolding text reply_text refusal_text json_answer
some_reported (replied reply) = some_answer _ _ _
some_reported unknown_operator = some_error _ _ _
some_reported no_such_plan = some_error _ _ _

pub some_text : (w : DeskWorld) (moment : ℤ) (reading : Reading Asked) → 0 < length
    (text_for w moment reading)
unfolding refusal_text
some_text w moment (Ok a) = some_reported (reported_to w a.operator moment a.call)
some_text w moment (Err fault) = some_error _ _ _

-- ---- what came of the request of a connection

-- what is written down of it: nothing, or the request and its answer
abbrev pub AreAsked : DeskWorld → ℤ → List ℕ → List ℕ → DeskWorld → Type 0
AreAsked w moment request answer after =
    ((request ≡ []) × (answer ≡ []) × (after ≡ w))
    ⊎ ((0 < length request) × (answer ≡ text_for w moment (asked request))
    × (after ≡ world_after w moment (asked request)))

no_request : IsRequest [] → ⊥
unfolding request_len front_within head_len
no_request is = cc

all_of : (Ends : (request rest : List ℕ) → IsRequest request → request_len (request ++ rest)
    ≡ Some (length request)) → (request whole rest : List ℕ) → IsRequest request → whole ≡ request ++ rest
    → (0 < length whole → IsRequest whole) → (0 < length whole) × (whole ≡ request)
all_of Ends [] whole rest is same one = absurd (no_request is)
all_of Ends (b ∷ request) whole rest is same one =
    let some : 0 < length whole = omega (arith, ap length same, length-append (b ∷ request) rest) in
    let first : request_len whole ≡ Some (length (b ∷ request)) =
    ap request_len same ∙ Ends (b ∷ request) rest is in
    let lengths : length whole ≡ length (b ∷ request) = some_same (sym (one some) ∙ first) in (
      some,
      same ∙ ap (λ v. (b ∷ request) ++ v) (none_left rest
          (omega (arith, lengths, ap length same, length-append (b ∷ request) rest))) ∙ append-nil
          (b ∷ request),
    )
  where
    some_same : {m n : ℕ} → Some m ≡ Some n → m ≡ n
    some_same e = cc

    none_left : (xs : List ℕ) → length xs ≡ 0 → xs ≡ []
    none_left [] e = refl
    none_left (x ∷ xs) e = cc

none_failed : (status : ℕ) (why : Option ServerError) (w : DeskWorld) (moment : ℤ) (reading : Reading Asked)
    (framed : Bool) → failure_at (Ok (Answered status framed)) ≡ None
    → status ≡ status_or_500 why w moment reading → why ≡ None
none_failed status None w moment reading framed none is = refl
none_failed status (Some error) w moment reading framed none is = grind (arith, none, is)

pub are_asked : (H : Type 0) (h : H) (Ends : (request rest : List ℕ) → IsRequest request
    → request_len (request ++ rest) ≡ Some (length request)) → (served : Result Served ServeFault)
    (request answer : List ℕ) (unread : Option (List ℕ)) (w : DeskWorld) (moment : ℤ) (after : DeskWorld)
    → failure_at served ≡ None → is_answered served ≡ true → (0 < length request → IsRequest request)
    → HasServed H served (passed (Some request) unread (Some []) (Some answer)) w moment after
    → AreAsked w moment request answer after
are_asked H h Ends (Ok (Answered status framed)) request answer None w moment after none whole one has =
    absurd has.taken.taken
are_asked H h Ends (Ok (Answered status framed)) request answer
    (Some rest) w moment after none whole one has =
    let same = all_of Ends has.request request rest has.taken.whole has.taken.taken one in
    let why = none_failed status has.why w moment (asked has.request) framed none (has.status_is h) in
    let done = subst (λ e. IsAnsweredSo e w moment (asked has.request) has.answer after) why
    (has.replied.reported h) in
    inr (
      same.0,
      has.written ∙ done.reported ∙ ap (λ v. text_for w moment (asked v)) (sym same.1),
      done.left ∙ ap (λ v. world_after w moment (asked v)) (sym same.1),
    )
are_asked H h Ends (Ok End) request answer unread w moment after none whole one has =
    inl (has.0, has.1.written, has.1.left)
are_asked H h Ends (Err fault) request answer unread w moment after none whole one has = cc

-- ---- what came of one that is not answered whole

-- it left all as it was, or carried the request out
abbrev pub IsLeft : DeskWorld → ℤ → List ℕ → DeskWorld → Type 0
IsLeft w moment request after =
    (after ≡ w) ⊎ ((0 < length request) × (after ≡ world_after w moment (asked request)))

left_by : (H : Type 0) (h : H) (Ends : (request rest : List ℕ) → IsRequest request
    → request_len (request ++ rest) ≡ Some (length request)) (q request answer : List ℕ)
    (unread : Option (List ℕ)) (w : DeskWorld) (moment : ℤ) (after : DeskWorld) (why : Option ServerError)
    → (0 < length request → IsRequest request) → IsTaken (Some request) unread q
    → IsReplied H w moment q answer why after → IsLeft w moment request after
left_by H h Ends q request answer None w moment after why one taken reported = absurd taken.taken
left_by H h Ends q request answer (Some rest) w moment after None one taken reported =
    let same = all_of Ends q request rest taken.whole taken.taken one in
    inr (same.0, (reported.reported h).left ∙ ap (λ v. world_after w moment (asked v)) (sym same.1))
left_by H h Ends q request answer (Some rest) w moment after (Some error) one taken reported =
    inl reported.failed.left

pub is_left : (H : Type 0) (h : H) (Ends : (request rest : List ℕ) → IsRequest request
    → request_len (request ++ rest) ≡ Some (length request)) (served : Result Served ServeFault)
    (request : List ℕ) (unread out sent : Option (List ℕ)) (w : DeskWorld) (moment : ℤ) (after : DeskWorld)
    → (0 < length request → IsRequest request)
    → HasServed H served (passed (Some request) unread out sent) w moment after
    → IsLeft w moment request after
is_left H h Ends (Ok (Answered status framed)) request unread out sent w moment after one has =
    left_by H h Ends has.request request has.answer unread w moment after has.why one has.taken has.replied
is_left H h Ends (Ok End) request unread out sent w moment after one has = inl has.1.left
is_left H h Ends (Err (Write fault)) request unread out sent w moment after one has =
    left_by H h Ends has.request request has.answer unread w moment after has.why one has.taken has.replied
is_left H h Ends (Err CutShort) request unread out sent w moment after one has = inl has.1.left
is_left H h Ends (Err Read) request unread out sent w moment after one has = inl has.left
is_left H h Ends (Err OutOfMemory) request unread out sent w moment after one has = inl has.left

-- the answer says that the desk failed
pub record IsGivenUp (w : DeskWorld) (request answer : List ℕ) (after : DeskWorld) : Type 0 where
  pub some : 0 < length request
  pub why : ServerError
  pub reported : answer ≡ server_error_text why
  pub left : after ≡ w

gave_up : (why : Option ServerError) (w : DeskWorld) (answer : List ℕ) (after : DeskWorld) → why ≢ None
    → IfSome why (λ error. IsServerError error w answer after)
    → (error : ServerError) × IsServerError error w answer after
gave_up None w answer after some failed = absurd (some refl)
gave_up (Some error) w answer after some failed = (error, failed)

is_500 : (status : ℕ) (framed : Bool) → failure_at (Ok (Answered status framed)) ≢ None → status ≡ 500
is_500 status framed fails = by (status == 500) refl
  where
    by : (b : Bool) → (status == 500) ≡ b → status ≡ 500
    by true is = grind (arith, nat_tests)
    by false is = absurd (fails (ap (λ b. if b then Some failure.Broken else None) is))

pub is_given_up : (H : Type 0) (Ends : (request rest : List ℕ) → IsRequest request
    → request_len (request ++ rest) ≡ Some (length request)) (served : Result Served ServeFault)
    (request answer : List ℕ) (unread : Option (List ℕ)) (w : DeskWorld) (moment : ℤ) (after : DeskWorld)
    → failure_at served ≢ None → is_answered served ≡ true → (0 < length request → IsRequest request)
    → HasServed H served (passed (Some request) unread (Some []) (Some answer)) w moment after
    → IsGivenUp w request answer after
is_given_up H Ends (Ok (Answered status framed)) request answer None w moment after fails whole one has =
    absurd has.taken.taken
is_given_up H Ends (Ok (Answered status framed)) request answer
    (Some rest) w moment after fails whole one has =
    let same = all_of Ends has.request request rest has.taken.whole has.taken.taken one in
    let failed = gave_up has.why w has.answer after (has.gave_up (is_500 status framed fails))
    has.replied.failed in
    record { some = same.0; why = failed.0; reported = has.written ∙ failed.1.reported; left = failed.1.left }
is_given_up H Ends (Ok End) request answer unread w moment after fails whole one has = absurd (fails refl)
is_given_up H Ends (Err fault) request answer unread w moment after fails whole one has = cc

pub some_failure : (why : ServerError) → 0 < length (server_error_text why)
some_failure given.OutOfMemory = some_error _ _ _
some_failure given.Store = some_error _ _ _

-- a request that was answered whole, and not by a 500, is certain
pub is_certain : (served : Result Served ServeFault) → failure_at served ≡ None → is_answered served ≡ true
    → IsCertain served
is_certain (Ok (Answered status framed)) none whole = λ is.
    let failed : (if status == 500 then Some failure.Broken else None) ≡ Some failure.Broken =
    ap (λ b. if b then Some failure.Broken else None) (eq-eqb status 500 is) in
    let never : Some failure.Broken ≡ None = sym failed ∙ none in cc
is_certain (Ok End) none whole = tt
is_certain (Err fault) none whole = cc

-- what one leaves that isn't certain is what the request leaves that was kept
next_is : (Ends : (request rest : List ℕ) → IsRequest request → request_len (request ++ rest)
    ≡ Some (length request)) → (q request : List ℕ) (unread : Option (List ℕ))
    → (0 < length request → IsRequest request) → IsTaken (Some request) unread q
    → (0 < length request) × (request ≡ q)
next_is Ends q request None one taken = absurd taken.taken
next_is Ends q request (Some rest) one taken = all_of Ends q request rest taken.whole taken.taken one

pub left_next : (Ends : (request rest : List ℕ) → IsRequest request → request_len (request ++ rest)
    ≡ Some (length request)) → (x : Exchange) (request : List ℕ) (w : DeskWorld)
    → x.arrival.bytes ≡ Some request → (0 < length request → IsRequest request) → (found : Option World)
    → IsLeftUncertain w found x
    → (0 < length request) × (found ≡ Some (world_after w x.arrival.moment (asked request)).content)
left_next Ends x request w bytes one found left =
    let next = left.2 in
    let same = next_is Ends next.0 request x.parting.unread one
    (subst (λ b. IsTaken b x.parting.unread next.0) bytes next.1) in (
      same.0,
      next.2 ∙ ap (λ v. Some (world_after w x.arrival.moment (asked v)).content) (sym same.1),
    )
