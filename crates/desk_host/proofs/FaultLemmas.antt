-- What is reported where memory ran out.
use Rattle.std.proofs.Common.{◌≡◌, ℕ, List, Option, Some, None, Result, Ok, Err, ap, inr, refl}
use Rattle.std.specs.declared.io.ErrorKind.TheVariants as kind
use Rattle.std.specs.Prelude.{IfErr}
use Rattle.desk_host.specs.Operators.{ContinuesUnless, IsCauseAgainst, IsJournalError, IsNotContinued, cause_of_tail, journal_error_text, unread_text, IsUnreadBySystem}
use Rattle.desk_recording.specs.declared.{tail.Tail.Tail, tail.TailEnd.TailEnd}
use Rattle.desk_host.specs.declared.folders.JournalError.{JournalError}
use Rattle.desk_host.specs.declared.folders.JournalError.TheVariants as unkept
use Rattle.desk_host.specs.declared.operators.FileReadError.{FileReadError}
use Rattle.desk_host.specs.declared.operators.FileReadError.TheVariants as unread

-- that a journal can't be kept
pub memory_journal_error : (fault : JournalError) → fault ≡ unkept.Memory → IsJournalError fault
memory_journal_error fault is = record { kind = kind.OutOfMemory; text = ap journal_error_text is }

-- that a file of enrolments can't be read
pub memory_read_error : (fault : FileReadError) → fault ≡ unread.Memory → IsUnreadBySystem fault
memory_read_error fault is = record { kind = kind.OutOfMemory; text = ap unread_text is }

-- why a journal whose end was read isn't continued
continued_against : {R : Type 0} (number : ℕ) (tail : Tail) (ended : TailEnd) (why : JournalError)
    → ContinuesUnless (cause_of_tail number tail.record ended) (tail, ended) (Err why)
    → IsNotContinued R number why
continued_against {R} number tail ended why is = inr (by (cause_of_tail number tail.record ended) refl is) where
  by : (c : Option (List ℕ)) → cause_of_tail number tail.record ended ≡ c
      → ContinuesUnless c (tail, ended) (Err why) → IsCauseAgainst number why
  by None e unless = cc
  by (Some cause) e unless =
      record { tail = tail; ended = ended; cause = cause; against = e; text = unless }

pub continued_or : (R : Type 0) (number : ℕ) (tail : Tail) (ended : TailEnd)
    (result : Result (Tail × TailEnd) JournalError)
    → ContinuesUnless (cause_of_tail number tail.record ended) (tail, ended) result
    → IfErr result (IsNotContinued R number)
continued_or R number tail ended (Ok read) is = tt
continued_or R number tail ended (Err why) is = continued_against number tail ended why is
