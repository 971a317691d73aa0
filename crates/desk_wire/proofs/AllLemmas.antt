-- Requests that were answered so far.
use Rattle.std.proofs.Common.{◌≡◌, ℕ, ℤ, ◌+◌, ◌<◌, ◌≤◌, List, [], ◌∷◌, ◌++◌, true, false, Option, Some, None, is_some, length, take, get_or, map, refl, sym, ap, subst, ◌∙◌, arith}
use Rattle.std.proofs.lemmas.List.{take_more, take_all, take-map, map-append, length-append, length-map}
use Rattle.desk_run.specs.Verdicts.{DeskWorld}
use Rattle.desk_wire.specs.Bytes.{Sent, answers_to, world_left, AreFirst, AreAll, AreCutShort, AreBroken, text_for, world_after, IsDone, IsServerError, IsAnsweredSo}
use Rattle.desk_wire.proofs.BytesLemmas.{asked_read}
use Rattle.desk_rules.specs.declared.call.Asked.{Asked}
use Rattle.request_parser.specs.Messages.{MessageParts, message_in, Reading, or_met}
use Rattle.request_parser.specs.Requests.{asked, asked_by}
use Rattle.desk_wire.specs.declared.response.ServerError.{ServerError}

-- the first requests are answered, as many as there are answers
pub record HaveAnswers {R V : Type 0} (shown : R → Sent) (items : V → List ℕ) (w : DeskWorld)
    (requests : List R)
    (n : ℕ) (answers : List V) (now : DeskWorld) : Type 0 where
  pub first : AreFirst w (map shown requests) n (map items answers) now
  pub count : length answers ≡ n

pub reported_more : (w : DeskWorld) (requests : List Sent) (r : Sent) → answers_to w (requests ++ r ∷ [])
    ≡ answers_to w requests ++ text_for (world_left w requests) r.0 (asked r.1) ∷ []
reported_more w [] r = refl
reported_more w (q ∷ requests) r = ap (λ ts. text_for w q.0 (asked q.1) ∷ ts)
    (reported_more (world_after w q.0 (asked q.1)) requests r)

pub left_more : (w : DeskWorld) (requests : List Sent) (r : Sent) → world_left w (requests ++ r ∷ [])
    ≡ world_after (world_left w requests) r.0 (asked r.1)
left_more w [] r = refl
left_more w (q ∷ requests) r = left_more (world_after w q.0 (asked q.1)) requests r

pub take_map : {R : Type 0} (shown : R → Sent) (requests : List R) (n : ℕ) (r : R) → n < length requests → r
    ≡ get_or requests n r → take (n + 1) (map shown requests) ≡ take n (map shown requests) ++ shown r
    ∷ []
take_map shown requests n r below is =
    take-map shown (n + 1) requests ∙ ap (map shown)
    (take_more requests n r below ∙ ap (λ q. take n requests ++ q ∷ []) (sym is))
    ∙ map-append shown (take n requests) (r ∷ []) ∙ ap (λ xs. xs ++ shown r ∷ [])
    (sym (take-map shown n requests))

-- one more is answered
pub one_answered : {R V : Type 0} (shown : R → Sent) (items : V → List ℕ) (w now after : DeskWorld)
    (requests : List R) (n : ℕ) (answers : List V) (r : R) (answer : V)
    → HaveAnswers shown items w requests n answers now → n < length requests → r ≡ get_or requests n r
    → IsDone now (shown r).0 (asked (shown r).1) (items answer) after
    → HaveAnswers shown items w requests (n + 1) (answers ++ answer ∷ []) after
one_answered shown items w now after requests n answers r answer h below is done =
    let first = take n (map shown requests) in
    let more : take (n + 1) (map shown requests) ≡ first ++ shown r ∷ [] =
    take_map shown requests n r below is in
    let s = shown r in
    record {
      first = record {
        reported =
            map-append items answers (answer ∷ []) ∙ ap (λ ts. ts ++ items answer ∷ []) h.first.reported
            ∙ ap (λ t. answers_to w first ++ t ∷ [])
            (done.reported ∙ ap (λ v. text_for v s.0 (asked s.1)) h.first.left)
            ∙ sym (reported_more w first s) ∙ ap (answers_to w) (sym more);
        left = done.left ∙ ap (λ v. world_after v s.0 (asked s.1)) h.first.left
            ∙ sym (left_more w first s)
            ∙ ap (world_left w) (sym more);
      };
      count = length-append answers (answer ∷ []) ∙ ap (λ k. k + 1) h.count;
    }

-- all are
pub all_answered : {R V : Type 0} (shown : R → Sent) (items : V → List ℕ) (w after : DeskWorld)
    (requests : List R) (n : ℕ) (answers : List V) → HaveAnswers shown items w requests n answers after
    → length requests ≤ n → AreAll w (map shown requests) (map items answers) after
all_answered shown items w after requests n answers h all =
    let whole : take n (map shown requests) ≡ map shown requests =
    take_all n (map shown requests) (omega (arith, length-map requests shown, all)) in
    record {
      reported = h.first.reported ∙ ap (answers_to w) whole;
      left = h.first.left
          ∙ ap (world_left w) whole;
    }

-- the next is not
pub cut_answered : {R V : Type 0} (shown : R → Sent) (items : V → List ℕ) (w now after : DeskWorld)
    (requests : List R) (n : ℕ) (answers : List V) → HaveAnswers shown items w requests n answers now
    → n < length requests → after ≡ now → AreCutShort w (map shown requests) (map items answers) after
cut_answered shown items w now after requests n answers h below same =
    let count : length (map items answers) ≡ n = length-map answers items ∙ h.count in
    record {
      first = subst (λ k. AreFirst w (map shown requests) k (map items answers) after) (sym count)
          (record { reported = h.first.reported; left = same ∙ h.first.left });
      cut = omega (arith, count, length-map requests shown, below);
    }

-- the last says why the desk failed
pub broken_answered : {R V : Type 0} (shown : R → Sent) (items : V → List ℕ) (w now after : DeskWorld)
    (requests : List R) (n : ℕ) (answers : List V) (answer : V) (why : ServerError)
    → HaveAnswers shown items w requests n answers now → n < length requests
    → IsServerError why now (items answer) after → AreBroken w (map shown requests)
    (map items (answers ++ answer ∷ [])) after
broken_answered shown items w now after requests n answers answer why h below given = record {
  why = why;
  count = n;
  before = map items answers;
  first = record { reported = h.first.reported; left = given.left ∙ h.first.left };
  last = map-append items answers (answer ∷ []) ∙ ap (λ t. map items answers ++ t ∷ []) given.reported;
  cut = omega (arith, length-map requests shown, below);
}

-- by whether the desk failed
pub done_so : (now after : DeskWorld) (moment : ℤ) (text request : List ℕ) (reading : Reading MessageParts)
    (answer : List ℕ) (e : Option ServerError) → is_some e ≡ false → reading ≡ message_in text
    → text ≡ request → IsAnsweredSo e now moment (or_met reading asked_by) answer after
    → IsDone now moment (asked request) answer after
done_so now after moment text request reading answer None none r t h =
    subst (λ a. IsDone now moment a answer after) (asked_read text request reading r t) h
done_so now after moment text request reading answer (Some why) none r t h = cc

pub failed_so : {R V : Type 0} (shown : R → Sent) (items : V → List ℕ) (w now after : DeskWorld) (given : ℤ)
    (reading : Reading Asked) (requests : List R) (n : ℕ) (answers : List V) (answer : V)
    (e : Option ServerError) → is_some e ≡ true → IsAnsweredSo e now given reading (items answer) after
    → HaveAnswers shown items w requests n answers now → n < length requests
    → AreBroken w (map shown requests) (map items (answers ++ answer ∷ [])) after
failed_so shown items w now after given reading requests n answers answer (Some why) some h have below =
    broken_answered shown items w now after requests n answers answer why have below h
failed_so shown items w now after given reading requests n answers answer None some h have below = cc
