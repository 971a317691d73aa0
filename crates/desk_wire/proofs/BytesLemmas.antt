-- Bytes: what a desk answers, by what it prepared.
use Rattle.std.proofs.Common.{◌≡◌, ℤ, false, List, ℕ, Result, Ok, Err, IfOk, OnOk, refl, sym, ap, ◌∙◌}
use Rattle.desk_rules.specs.declared.call.Asked.{Asked}
use Rattle.desk_run.specs.declared.pending.Pending.{Pending}
use Rattle.desk_run.specs.Verdicts.{DeskWorld, Reported}
use Rattle.desk_run.specs.Calls.{HasNoReply, IsPending, reply_in, world_committed}
use Rattle.desk_rules.specs.Outcome.{said_in}
use Rattle.desk_writing.specs.ReplyText.{reply_text}
use Rattle.request_parser.specs.Messages.{MessageParts, message_in, Reading, or_met}
use Rattle.request_parser.specs.Requests.{asked, asked_by}
use Rattle.desk_wire.specs.Bytes.{IsDone, makes_change_for, status, status_for, text, world_after}

-- the answer and the change of what was pending
pub done_pending : (w after : DeskWorld) (moment : ℤ) (asked : Asked) (p : Pending) (answer : List ℕ)
    → IsPending w moment asked p → answer ≡ reply_text (said_in (reply_in p)) → after
    ≡ world_committed w p
    → IsDone w moment (Ok asked) answer after
unfolding text
done_pending w after moment asked p answer h reported left = record {
  reported = reported ∙ sym (ap text h.reported);
  left = left ∙ h.left;
}

-- the answer to a call that has no reply
pub done_unanswered : (w after : DeskWorld) (moment : ℤ) (asked : Asked) (reason : Reported) (answer : List ℕ)
    → HasNoReply w moment asked reason → answer ≡ text reason → after ≡ w
    → IsDone w moment (Ok asked) answer after
done_unanswered w after moment asked reason answer h reported left = record {
  reported = reported ∙ ap text (sym h.reported);
  left = left ∙ sym h.left;
}

-- where the answer was made and the change committed
pub done_if_ok : {V E : Type 0} (items : V → List ℕ) (r : Result V E) (w after : DeskWorld) (moment : ℤ)
    (asked : Asked) (p : Pending) → IsPending w moment asked p
    → IfOk r (λ v. items v ≡ reply_text (said_in (reply_in p))) → OnOk r (after ≡ world_committed w p)
    → IfOk r (λ v. IsDone w moment (Ok asked) (items v) after)
done_if_ok items (Ok v) w after moment asked p h reported left =
    done_pending w after moment asked p (items v) h reported left
done_if_ok items (Err e) w after moment asked p h reported left = tt

-- a reply has the status 200
pub status_pending : (w : DeskWorld) (moment : ℤ) (asked : Asked) (p : Pending) → IsPending w moment asked p
    → 200
    ≡ status_for w moment (Ok asked)
unfolding status
status_pending w moment asked p h = sym (ap status h.reported)

pub status_unanswered : (w : DeskWorld) (moment : ℤ) (asked : Asked) (reason : Reported)
    → HasNoReply w moment asked reason → status reason ≡ status_for w moment (Ok asked)
status_unanswered w moment asked reason h = sym (ap status h.reported)

-- what has no reply makes no change
pub change_unanswered : (w : DeskWorld) (moment : ℤ) (asked : Asked) (reason : Reported)
    → HasNoReply w moment asked reason → false ≡ makes_change_for w moment (Ok asked)
change_unanswered w moment asked reason h = sym h.change_is

-- what a request asks, by how it was read
pub asked_read : (text request : List ℕ) (reading : Reading MessageParts) → reading ≡ message_in text
    → text
    ≡ request → or_met reading asked_by ≡ asked request
unfolding asked
asked_read text request reading is same = ap (λ r. or_met r asked_by) is
    ∙ ap (λ q. or_met (message_in q) asked_by) same

-- what a request leaves, by how it was read
pub left_read : (w : DeskWorld) (moment : ℤ) (text : List ℕ) (reading : Reading MessageParts)
    → reading ≡ message_in text
    → world_after w moment (or_met reading asked_by) ≡ world_after w moment (asked text)
left_read w moment text reading r = ap (world_after w moment) (asked_read text text reading r refl)
