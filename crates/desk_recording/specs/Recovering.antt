-- Recovering: what a journal left pending is done at its desk.
use Rattle.std.specs.Prelude.{◌≡◌, ◌<◌, ◌⊎◌, ⊤, ℕ, ℤ, pos, Bool, true, not, ◌&&◌, nat_lt, List, [], ◌∷◌, ◌++◌, filter, Option, None, Some, option_map, Result, Ok, Err, IsOkAnd}
use Rattle.std.specs.{List.list_any, Str.bytes_eq}
use Rattle.desk_rules.specs.{Limits.max_priority, declared.terms.Terms.Terms}
use Rattle.request_parser.specs.Requests.{asked}
use Rattle.desk_run.specs.Verdicts.{DeskWorld}
use Rattle.desk_wire.specs.{Bytes.text_for, Bytes.world_after, Streams.Course, Streams.course}
use Rattle.desk_cli.specs.{declared.failure.ErrorCode.ErrorCode, declared.line.Enrolment.Enrolment, Exits.IsLineBreakdown}
use Rattle.desk_cli.specs.declared.failure.ErrorCode.TheVariants as failure
use Rattle.desk_program.specs.{Enrolling.AreEnrolledSoFar, Enrolling.on_terms, Enrolling.with_operators, Serving.Parting, Serving.parted, declared.port.ExchangeEnd.ExchangeEnd}
use Rattle.desk_replay.specs.Replaying.{last_moment}
use Rattle.desk_recording.specs.{declared.recovering.RecoveryError.RecoveryError, declared.recovering.RecoveryError.TheVariants.OutOfMemory, declared.recovering.RecoveryError.TheVariants.Store, declared.recovering.RecoveryError.TheVariants.Clock, declared.recovering.RecoveryError.TheVariants.JournalError, Recording.Answered, Recording.Asked, Recording.Lost, Recording.Step, Tail.UnansweredParts}

-- an operator of this name is on the roll, the list of enrolled operators
abbrev pub is_on_roll : List Enrolment → List ℕ → Bool
is_on_roll roll name = list_any (λ e. bytes_eq e.operator name) roll

-- the operator of an enrolment is not on the roll, and its ceiling is in range
abbrev pub is_missing : List Enrolment → Enrolment → Bool
is_missing roll e = not (nat_lt max_priority e.ceiling) && not (is_on_roll roll e.operator)

-- the enrolments whose operators are missing, in their order
abbrev pub missing_enrolments : List Enrolment → List Enrolment → List Enrolment
missing_enrolments roll enrolments = filter (is_missing roll) enrolments

-- if the steps before (old) are known, the steps after (new) are those and then these two
abbrev pub AddsBoth : Option (List Step) → Option (List Step) → Step → Step → Type 0
AddsBoth old new one other = new ≡ option_map (λ steps. steps ++ one ∷ other ∷ []) old

-- the request is read whole, and answered whole
abbrev pub whole_outcome : ExchangeEnd
whole_outcome = record { is_whole = true; is_answered = true }

-- the closed connection of a repeated request: the answer is whole, and goes to no client
abbrev pub parting_without_client : List ℕ → Parting
parting_without_client answer = parted (Some []) (Some answer) whole_outcome

-- the error code of a recovery that failed
abbrev pub failure_of : {R : Type 0} → RecoveryError R → ErrorCode
failure_of OutOfMemory = failure.Memory
failure_of Store = failure.Store
failure_of Clock = failure.Clock
failure_of (JournalError lost) = failure.Broken

-- the result of a recovery, with the error code
abbrev pub ended_as : {R : Type 0} → Result ⊤ (RecoveryError R) → Result ⊤ ErrorCode
ended_as (Ok done) = Ok done
ended_as (Err why) = Err (failure_of why)

-- the moment of a pending request: its second
abbrev pub moment_of : UnansweredParts → ℤ
moment_of u = pos u.second

module _ (H : Type 0) (u : UnansweredParts) (world : Course DeskWorld) (steps : Course (Option (List Step)))
  where
    -- the request is recorded and then carried out at its second; its answer is recorded or lost (came). H:
    -- the disk has returned what was written
    pub record IsRedone (came : Parting → Step) : Type 0 where
      pub answer : List ℕ
      pub kept : AddsBoth steps.before steps.after (Asked (moment_of u) u.request)
          (came (parting_without_client answer))
      pub reported : H → answer ≡ text_for world.before (moment_of u) (asked u.request)
      pub left : H → world.after ≡ world_after world.before (moment_of u) (asked u.request)

    -- the request is recorded, and the desk failed at it and changed nothing
    pub record FailsRedoing : Type 0 where
      pub kept : AddsBoth steps.before steps.after (Asked (moment_of u) u.request)
          (Lost (parting_without_client []))
      pub left : H → world.after ≡ world.before

    -- the request isn't recorded, and so it isn't carried out
    pub record IsNotRedone : Type 0 where
      pub kept : steps.after ≡ steps.before
      pub left : world.after ≡ world.before

    -- the request is carried out again, and its answer recorded; or memory ran out or the store failed; or
    -- the request or its answer can't be recorded; or its second is out of range
    abbrev pub RedoesRequest : Result ⊤ ErrorCode → Type 0
    RedoesRequest (Ok done) = IsRedone Answered
    RedoesRequest (Err f) =
        (((f ≡ failure.Memory) ⊎ (f ≡ failure.Store)) × FailsRedoing)
        ⊎ (((f ≡ failure.Broken) × (IsNotRedone ⊎ IsRedone Lost))
        ⊎ ((f ≡ failure.Clock) × (last_moment < u.second) × IsNotRedone))

-- what a journal leaves pending at a desk: the settings with which it is to plan, the operators that it
-- lacks, and the request that is to be repeated, if there is one
pub record Undone : Type 0 where
  pub terms : Terms
  pub missing : List Enrolment
  pub asked : Option UnansweredParts

abbrev pub undone : Terms → List Enrolment → Option UnansweredParts → Undone
undone terms missing asked = record { terms = terms; missing = missing; asked = asked }

module _ (H : Type 0) where
  -- the request is repeated, if there is one; else nothing is done
  abbrev pub RedoesIfPending :
      Option UnansweredParts → Course DeskWorld → Course (Option (List Step)) → Result ⊤ ErrorCode → Type 0
  RedoesIfPending None world steps done =
      IsOkAnd done (λ _. (world.after ≡ world.before) × (steps.after ≡ steps.before))
  RedoesIfPending (Some u) world steps done = RedoesRequest H u world steps done

  -- the desk gets the journal's settings, the missing operators are enrolled, then the request is repeated
  pub record IsRecovered (u : Undone) (world : Course DeskWorld) (steps : Course (Option (List Step)))
      (done : Result ⊤ ErrorCode) : Type 0 where
    pub listed : DeskWorld
    pub are : H → listed ≡ with_operators (on_terms world.before u.terms) u.missing
    pub asks : RedoesIfPending u.asked (course listed world.after) steps done

  -- an operator could not be enrolled, and no request is repeated
  pub record IsNotRecovered (u : Undone) (world : Course DeskWorld) (steps : Course (Option (List Step)))
      (f : ErrorCode) : Type 0 where
    pub broken : IsLineBreakdown f
    pub kept : steps.after ≡ steps.before
    pub listed : AreEnrolledSoFar H u.missing (on_terms world.before u.terms) world.after

  -- the result of a recovery: one or the other
  abbrev pub Recovers : Undone → Course DeskWorld → Course (Option (List Step)) → Result ⊤ ErrorCode → Type 0
  Recovers u world steps (Ok done) = IsRecovered u world steps (Ok done)
  Recovers u world steps (Err f) = IsRecovered u world steps (Err f) ⊎ IsNotRecovered u world steps f
