-- What is said of a file of enrolments that can't be read.
use Rattle.std.proofs.Common.{◌≡◌, inr, List, [], ◌∷◌, ℕ, Option, None, sym, subst}
use Rattle.desk_wire.specs.Streams.{course}
use Rattle.desk_program.specs.Serving.{Grows}
use Rattle.desk_cli.specs.declared.line.Enrolment.{Enrolment}
use Rattle.desk_host.specs.Operators.{IsLookResultAt, Asking, IsFileUnread, Stamped}
use Rattle.desk_host.specs.declared.operators.Stamp.{Stamp}

-- of a file that can't be read there are no news
pub nothing_enrolled : (path : List ℕ) (seen after stamp : Option Stamp) (old between new now : Option (List Asking))
    (newly_enrolled : List Enrolment) → Grows old between (Stamped path stamp ∷ [])
    → IsFileUnread path (course between new) → now ≡ new → after ≡ None → newly_enrolled ≡ []
    → IsLookResultAt path (course seen after) (course old now) newly_enrolled
nothing_enrolled path seen after stamp old between new now newly_enrolled stamped unread same unseen empty =
    record {
      stamp = stamp;
      between = between;
      stamped = stamped;
      reported = inr (inr (subst (λ s. IsFileUnread path (course between s)) (sym same) unread, unseen, empty));
    }
