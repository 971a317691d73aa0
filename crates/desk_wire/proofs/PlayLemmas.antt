-- Requests of a stream that are played so far, and one more.
use Rattle.std.proofs.Common.{◌≡◌, ◌≢◌, ◌==◌, ℕ, ℤ, ◌+◌, Bool, true, false, List, [], ◌∷◌, ◌++◌, Option, Some, None, IfSome, refl, sym, ap, subst, ◌∙◌, arith, append-nil, length-append}
use Rattle.std.proofs.lemmas.List.{map-append}
use Rattle.std.proofs.lemmas.Bool.Decides.{nat_tests}
use Rattle.std.proofs.KnownBytes.{Appends-nil, Appends-trans, Consumes-nil, Consumes-trans}
use Rattle.std.proofs.lemmas.List.Elements.{All-append, All-cons, All-nil}
use Rattle.std.proofs.lemmas.List.Folds.{concat-append}
use Rattle.std.specs.List.{concat}
use Rattle.std.specs.Io.KnownBytes.{Appends, Consumes}
use Rattle.request_parser.specs.Requests.{asked}
use Rattle.request_parser.specs.Messages.{Reading}
use Rattle.desk_rules.specs.declared.call.Asked.{Asked}
use Rattle.desk_run.specs.Verdicts.{DeskWorld}
use Rattle.desk_wire.specs.declared.response.ServerError.{ServerError}
use Rattle.desk_wire.specs.Bytes.{Sent, answers_to, world_left, IsAnsweredSo, IsDone, IsServerError, status_or_500, text_for, world_after}
use Rattle.desk_wire.specs.Streams.{passed, IsServed}
use Rattle.desk_wire.specs.Playing.{ArePlayed, IsBroken, IsWhole, at_moment}
use Rattle.desk_wire.proofs.AllLemmas.{reported_more, left_more}

-- an answer with another status is what is asked
pub done_by_status : (w after : DeskWorld) (moment : ℤ) (reading : Reading Asked) (answer : List ℕ)
    (why : Option ServerError) (status : ℕ) → IsAnsweredSo why w moment reading answer after → status
    ≡ status_or_500 why w moment reading → status ≢ 500 → IsDone w moment reading answer after
done_by_status w after moment reading answer None status h is other = h
done_by_status w after moment reading answer (Some why) status h is other = absurd (other is)

-- an answer with that status says why the desk failed
failed_by_status : (w after : DeskWorld) (answer : List ℕ) (why : Option ServerError)
    → IfSome why (λ error. IsServerError error w answer after) → why ≢ None
    → (error : ServerError) × IsServerError error w answer after
failed_by_status w after answer (Some why) h is = (why, h)
failed_by_status w after answer None h is = absurd (is refl)

concat_one : (xs : List (List ℕ)) (x : List ℕ) → concat (xs ++ x ∷ []) ≡ concat xs ++ x
concat_one xs x = concat-append xs (x ∷ []) ∙ ap (λ ys. concat xs ++ ys) (append-nil x)

pub none_played : (H : Type 0) (old out : Option (List ℕ)) (w : DeskWorld) (moment : ℤ)
    → ArePlayed H 0 (passed old old out out) w moment w
none_played H old out w moment = record {
  requests = [];
  count_is = refl;
  whole = All-nil IsWhole;
  taken = Consumes-nil old;
  written = λ h. Appends-nil out;
  left = λ h. refl;
}

-- the same under a stronger premise
pub played_if : (H K : Type 0) (count : ℕ) (old new out now : Option (List ℕ)) (w : DeskWorld) (moment : ℤ)
    (after : DeskWorld) → (K → H) → ArePlayed H count (passed old new out now) w moment after
    → ArePlayed K count (passed old new out now) w moment after
played_if H K count old new out now w moment after implies h = record {
  requests = h.requests;
  count_is = h.count_is;
  whole = h.whole;
  taken = h.taken;
  written = λ k. h.written (implies k);
  left = λ k. h.left (implies k);
}

-- the answers, with one more
pub reported_one : (w now after : DeskWorld) (moment : ℤ) (more : List Sent) (answer request : List ℕ)
    → IsDone now moment (asked request) answer after → now ≡ world_left w more
    → concat (answers_to w more)
    ++ answer ≡ concat (answers_to w (more ++ (moment, request) ∷ []))
reported_one w now after moment more answer request done left =
    ap (λ t. concat (answers_to w more) ++ t) (done.reported
    ∙ ap (λ v. text_for v moment (asked request)) left)
    ∙ sym (concat_one (answers_to w more) (text_for (world_left w more) moment (asked request)))
    ∙ ap concat (sym (reported_more w more (moment, request)))

pub one_played : (H : Type 0) (count : ℕ) (old mid new out then_out now : Option (List ℕ)) (w : DeskWorld)
    (moment : ℤ) (now_world after : DeskWorld) (code : ℕ) (framed : Bool)
    → ArePlayed H count (passed old mid out then_out) w moment now_world
    → IsServed H (passed mid new then_out now) now_world moment after code framed → code ≢ 500 → framed ≡ true
    → ArePlayed H (count + 1) (passed old new out now) w moment after
one_played H count old mid new out then_out now w moment now_world after code framed h s other is =
    let done : H → IsDone now_world moment (asked s.request) s.answer after =
    λ p. done_by_status now_world after moment (asked s.request) s.answer s.why code (s.replied.reported p)
    (s.status_is p) other in
    let more = at_moment moment h.requests in
    let sent : at_moment moment (h.requests ++ s.request ∷ []) ≡ more ++ (moment, s.request) ∷ [] =
    map-append (λ r. (moment, r)) h.requests (s.request ∷ []) in
    record {
      requests = h.requests ++ s.request ∷ [];
      count_is = length-append h.requests (s.request ∷ []) ∙ ap (λ n. n + 1) h.count_is;
      whole = All-append IsWhole h.requests (s.request ∷ []) h.whole
          (All-cons IsWhole s.request [] (record
          { whole = s.taken.whole; framed = sym s.framed_is ∙ is })
          (All-nil IsWhole));
      taken = subst (Consumes old new) (sym (concat_one h.requests s.request))
          (Consumes-trans old mid new (concat h.requests) s.request h.taken s.taken.taken);
      written = λ p.
          subst (Appends out now) (reported_one w now_world after moment more s.answer s.request (done p)
          (h.left p) ∙ sym (ap (λ rs. concat (answers_to w rs)) sent))
          (Appends-trans out then_out now (concat (answers_to w more)) s.answer (h.written p)
          s.written);
      left = λ p. (done p).left ∙ ap (λ v. world_after v moment (asked s.request)) (h.left p)
          ∙ sym (left_more w more (moment, s.request)) ∙ ap (world_left w) (sym sent);
    }

pub broken_next : (H : Type 0) (old new out now : Option (List ℕ)) (w : DeskWorld) (moment : ℤ)
    (after : DeskWorld)
    (code : ℕ) (framed : Bool) → IsServed H (passed old new out now) w moment after code framed → code ≡ 500
    → IsBroken (passed old new out now) w after
broken_next H old new out now w moment after code framed s is = record {
  request = s.request;
  taken = s.taken;
  answer = s.answer;
  written = s.written;
  failed = failed_by_status w after s.answer s.why s.replied.failed (s.gave_up is);
}

pub is_500 : (n : ℕ) → (n == 500) ≡ true → n ≡ 500
is_500 n test = grind (arith, nat_tests)

pub not_500 : (n : ℕ) → (n == 500) ≡ false → n ≢ 500
not_500 n test e = grind (arith, nat_tests)
