-- Enrolments, the lines that commands print, what comes of `play` and `enrol`, and what a port's journal
-- says.
use Rattle.std.specs.Prelude.{◌≡◌, ◌<◌, ◌⊎◌, ℕ, List, [], ◌∷◌, ◌++◌, length, take, codes, decimal, Option, Result, Ok, Err, ⊤, ◌/◌, ◌%◌, Bool, true, false, if◌then◌else◌, None, Some, ℤ, nat_abs, map, IsTrue}
use Rattle.std.specs.{Io.KnownBytes.Appends, List.AllByRecursion}
use Rattle.desk_rules.specs.{declared.terms.Terms.Terms, Limits.is_operator_name}
use Rattle.desk_store.specs.{declared.store.PlanStore.Ghosts, Changes.HasRisen}
use Rattle.desk_run.specs.Verdicts.{DeskWorld, enrolled, Parts}
use Rattle.desk_record.specs.Record.{EntryParts, entries, entry}
use Rattle.desk_record.specs.declared.kind.Kind.TheVariants as kind
use Rattle.io_ends.specs.{Writing.BreaksOff, Writing.IsMoment, declared.writing.PartialWrite.PartialWrite, declared.playing.PlayEnd.PlayEnd}
use Rattle.desk_wire.specs.{Streams.Course, Streams.Passage, Streams.IsRequest, Playing.HasPlayed}
use Rattle.desk_cli.specs.{declared.line.Enrolment.Enrolment, declared.line.PlayArgs.PlayArgs, declared.failure.ErrorCode.ErrorCode, declared.failure.ErrorCode.TheVariants.Store, Exits.Ending, Exits.EndsWith, Exits.EndsWell, Exits.FailsWith, Exits.IsBrokenDown, Exits.failure_after, Lines.AreEnrolments}
use Rattle.desk_cli.specs.declared.failure.ErrorCode.TheVariants as failure
use Rattle.desk_program.specs.declared.looking.CheckedFile.{CheckedFile}

-- the world of a desk with these settings
abbrev pub on_terms : DeskWorld → Terms → DeskWorld
on_terms w terms = record w { terms = terms }

-- the world after these enrolments, in the order given: a name given twice has its last ceiling
abbrev pub with_operators : DeskWorld → List Enrolment → DeskWorld
with_operators w [] = w
with_operators w (e ∷ es) = with_operators (enrolled w e.operator e.ceiling) es

-- if the storage is intact (H), the operators are enrolled, in the order given; without any, nothing changes
abbrev pub AreEnrolled : Type 0 → List Enrolment → DeskWorld → DeskWorld → Type 0
AreEnrolled H [] w after = after ≡ w
AreEnrolled H (e ∷ es) w after = H → after ≡ with_operators w (e ∷ es)

-- the first `count` operators are enrolled, and not all
pub record AreEnrolledSoFar (H : Type 0) (es : List Enrolment) (w after : DeskWorld) : Type 0 where
  pub count : ℕ
  pub few : count < length es
  pub left : H → after ≡ with_operators w (take count es)

-- by the result: all operators are enrolled, or only the first ones
abbrev pub HasEnrolled : {A B : Type 0} → Type 0 → Result A B → List Enrolment → DeskWorld → DeskWorld → Type 0
HasEnrolled H (Ok done) es w after = H → after ≡ with_operators w es
HasEnrolled H (Err fault) es w after = AreEnrolledSoFar H es w after

-- the same of new enrolments: if there are none, nothing is changed
abbrev pub HasEnrolledNew :
    {A B : Type 0} → Type 0 → Result A B → List Enrolment → DeskWorld → DeskWorld → Type 0
HasEnrolledNew H (Ok done) es w after = AreEnrolled H es w after
HasEnrolledNew H (Err fault) es w after = AreEnrolledSoFar H es w after

-- if the storage is intact (H), the operator is enrolled with its ceiling, and nothing else is changed
abbrev pub ListsOperator : Type 0 → Enrolment → DeskWorld → DeskWorld → Type 0
ListsOperator H e w after = H → after ≡ enrolled w e.operator e.ceiling

-- the line of `enrol`
unfoldable pub enrolled_line : Enrolment → List ℕ
enrolled_line e = codes "enrolled " ++ (e.operator ++ (codes " " ++ (decimal e.ceiling ++ codes "\n")))

-- the writing of the bytes broke off
abbrev pub IsCutOff : List ℕ → Option (List ℕ) → Option (List ℕ) → Type 0
IsCutOff bytes out now = (fault : PartialWrite) × BreaksOff bytes out now fault

-- a line is written whole, or up to the write that failed, or not at all
abbrev pub IsWrittenAsFarAsPossible : List ℕ → Option (List ℕ) → Option (List ℕ) → Type 0
IsWrittenAsFarAsPossible line out now = (now ≡ out) ⊎ Appends out now line ⊎ IsCutOff line out now

-- if the result `done` is the error `Store`, the store's count of faults has risen from `old` to `new`
abbrev pub IsEndCounted : {A : Type 0} → Result A ErrorCode → ℕ → ℕ → Type 0
IsEndCounted done old new = done ≡ Err Store → HasRisen old new

-- the same of a command at a desk, by how it ended
pub record HasCause {S : Type 0} (g : Ghosts S) (old new : Parts S) (end : Ending) : Type 0 where
  pub done : Result ⊤ ErrorCode
  pub ends : EndsWith done end
  pub cause : IsEndCounted done (g.faults old.store) (g.faults new.store)

-- the line of `migrate`
unfoldable pub migrated_line : ℕ → List ℕ
migrated_line count = codes "migrated " ++ (decimal count ++ codes " plans\n")

-- the line is printed; or it is cut off, since a write failed; or nothing is printed, since memory ran out
abbrev pub IsCountPrinted : ℕ → Ending → Option (List ℕ) → Option (List ℕ) → Type 0
IsCountPrinted count end out now =
    (EndsWell end × Appends out now (migrated_line count))
    ⊎ (FailsWith failure.Write end × IsCutOff (migrated_line count) out now)
    ⊎ (FailsWith failure.Memory end × (now ≡ out))

-- ==== The lines of `check` and of `copy`, and how much of them is printed
-- the first part of the line of `check`: the schema, the checksums and the number of operators
unfoldable pub tables_text : CheckedFile → List ℕ
tables_text file =
    codes "schema " ++ (decimal (if file.is_old then 1 else 2)
    ++ (codes ", sums " ++ ((if file.has_checksums then codes "yes" else codes "no")
    ++ (codes ", " ++ (decimal file.operators ++ codes " operators, ")))))

-- the second part: the numbers of plans, of live plans and of rows of spans
unfoldable pub plans_text : CheckedFile → List ℕ
plans_text file =
    decimal file.plans ++ (codes " plans, " ++ (decimal file.live ++ (codes " live, " ++ (decimal file.spans
    ++ codes " spans"))))

-- the third part: the sizes of the file and its WAL in megabytes, rounded down to one decimal
unfoldable pub sizes_text : CheckedFile → List ℕ
sizes_text file =
    codes ", " ++ (decimal (file.size / 100000 / 10) ++ (codes "." ++ (decimal (file.size / 100000 % 10)
    ++ (codes " MB, " ++ (decimal (file.log / 100000 / 10) ++ (codes "." ++ (decimal (file.log / 100000 % 10)
    ++ codes " MB in the log")))))))

-- the last part: the most rows of spans and the most cells of one operator
unfoldable pub most_text : CheckedFile → List ℕ
most_text file =
    codes ", at most " ++ (decimal file.most_spans ++ (codes " spans of one operator, at most "
    ++ (decimal file.most_cells ++ codes " cells of one operator\n")))

-- the line of `check`
abbrev pub checked_line : CheckedFile → List ℕ
checked_line file = ((tables_text file ++ plans_text file) ++ sizes_text file) ++ most_text file

-- the line of `copy`
unfoldable pub copied_line : ℕ → ℕ → List ℕ
copied_line operators plans =
    codes "copied " ++ (decimal operators ++ (codes " operators, " ++ (decimal plans ++ codes " plans\n")))

-- a text is printed and the command ends well; or it is cut off, since a write failed; or nothing is printed,
-- since memory ran out. `out` is what the writer held before
abbrev pub IsTextPrinted : List ℕ → Ending → Option (List ℕ) → Option (List ℕ) → Type 0
IsTextPrinted text end out now =
    (EndsWell end × Appends out now text) ⊎ (FailsWith failure.Write end × IsCutOff text out now)
    ⊎ (FailsWith failure.Memory end × (now ≡ out))

-- ==== What comes of the command `play` or `enrol` at a desk
-- the result of a run that ended with this failure; Ok if there is none
abbrev pub done_unless : Option ErrorCode → Result ⊤ ErrorCode
done_unless None = Ok tt
done_unless (Some failure) = Err failure

-- the requests of the input are answered at the world with the command's settings and enrolments, and the
-- command ends as this run ends
pub record IsPlayed (H : Type 0) (play : PlayArgs) (end : Ending) (p : Passage) (w after : DeskWorld) :
    Type 0 where
  pub ended : PlayEnd
  pub answered : ℕ
  pub ends : EndsWith (done_unless (failure_after ended)) end
  pub played : H → HasPlayed H ended answered p
      (with_operators (on_terms w play.desk.terms) play.desk.enrolments.items) play.moment.second after

-- an operator could not be enrolled: those before it are, and nothing is read or written
pub record IsNotPlayed (H : Type 0) (play : PlayArgs) (end : Ending) (p : Passage) (w after : DeskWorld) :
    Type 0 where
  pub ends : IsBrokenDown end
  pub listed : AreEnrolledSoFar H play.desk.enrolments.items (on_terms w play.desk.terms) after
  pub unread : p.reads.after ≡ p.reads.before
  pub unwritten : p.writes.after ≡ p.writes.before

-- the command `play` is carried out
abbrev pub IsPlayDone : Type 0 → PlayArgs → Ending → Passage → DeskWorld → DeskWorld → Type 0
IsPlayDone H play end p w after = IsPlayed H play end p w after ⊎ IsNotPlayed H play end p w after

-- the operator is enrolled and its line printed; or its line is cut off, and the operator stays enrolled; or
-- nothing is changed or printed
abbrev pub IsEnrolled :
    Type 0 → Enrolment → Ending → Course (Option (List ℕ)) → DeskWorld → DeskWorld → Type 0
IsEnrolled H enrolment end writes w after =
    (EndsWell end × Appends writes.before writes.after (enrolled_line enrolment)
    × ListsOperator H enrolment w after)
    ⊎ (FailsWith failure.Write end × IsCutOff (enrolled_line enrolment) writes.before writes.after
    × ListsOperator H enrolment w after)
    ⊎ (IsBrokenDown end × (writes.after ≡ writes.before) × (after ≡ w))

-- ==== What a port's journal has of its new enrolments and connections (docs/journal-format.md)

-- the text of a journal, and the second of the last request in it
pub record Noted : Type 0 where
  pub text : List ℕ
  pub second : ℕ

-- the state of a journal: it is open, and more may be recorded; or it has ended with this text
pub data Recorded : Type 0 where
  Open : Noted → Recorded
  Ended : List ℕ → Recorded

-- the journal is open, or isn't known
abbrev pub IsOpen : Option Recorded → Type 0
IsOpen None = ⊤
IsOpen (Some (Open n)) = ⊤
IsOpen (Some (Ended text)) = ⊥

-- the entries of an enrolment, of a request, and of an answer
abbrev pub operator_entry : Enrolment → EntryParts
operator_entry e = record { kind = kind.Operator; number = e.ceiling; bytes = e.operator }

abbrev pub request_entry : ℕ → List ℕ → EntryParts
request_entry second bytes = record { kind = kind.Request; number = second; bytes = bytes }

abbrev pub answer_entry : ℕ → List ℕ → EntryParts
answer_entry second bytes = record { kind = kind.Answer; number = second; bytes = bytes }

-- a journal with one more entry
abbrev pub with_entry : Noted → EntryParts → Noted
with_entry n e = record n { text = n.text ++ entry e }

-- a journal with more entries: new enrolments; a request, if one came whole; an answer, if one was made
abbrev pub with_news : Noted → List Enrolment → Noted
with_news n newly_enrolled = record n { text = n.text ++ entries (map operator_entry newly_enrolled) }

abbrev pub with_request : Noted → ℤ → List ℕ → Noted
with_request n moment [] = n
with_request n moment (b ∷ bytes) =
    record (with_entry n (request_entry (nat_abs moment) (b ∷ bytes))) { second = nat_abs moment }

abbrev pub with_answer : Noted → List ℕ → Noted
with_answer n [] = n
with_answer n (b ∷ bytes) = with_entry n (answer_entry n.second (b ∷ bytes))

-- each has the name of an operator
abbrev pub AreNamed : List Enrolment → Type 0
AreNamed newly_enrolled = AllByRecursion (λ e. IsTrue (is_operator_name e.operator)) newly_enrolled

-- the new enrolments, all valid, are recorded; a journal that has ended takes none
abbrev pub RecordsEnrolments : Option Recorded → Option Recorded → List Enrolment → Type 0
RecordsEnrolments None now newly_enrolled = ⊤
RecordsEnrolments (Some (Ended text)) now newly_enrolled = ⊥
RecordsEnrolments (Some (Open n)) now newly_enrolled =
    AreEnrolments newly_enrolled × AreNamed newly_enrolled × (now ≡ Some (Open (with_news n newly_enrolled)))

-- what comes from a client is one whole request, which is recorded with its moment, or nothing
pub record IsRecorded (n : Noted) (now : Option Recorded) (moment : ℤ) (bytes : Option (List ℕ)) : Type 0
  where
    pub request : List ℕ
    pub known : bytes ≡ Some request
    pub whole : 0 < length request → IsRequest request
    pub range : IsMoment moment
    pub added : now ≡ Some (Open (with_request n moment request))

-- the request of a connection is recorded; no connection is taken once the journal has ended
abbrev pub RecordsRequest : Option Recorded → Option Recorded → ℤ → Option (List ℕ) → Type 0
RecordsRequest None now moment bytes = ⊤
RecordsRequest (Some (Ended text)) now moment bytes = ⊥
RecordsRequest (Some (Open n)) now moment bytes = IsRecorded n now moment bytes

-- an answer that is whole is recorded
pub record IsAnswerRecorded (n : Noted) (now : Option Recorded) (sent : Option (List ℕ)) (is_answered : Bool)
    : Type 0 where
  pub whole : is_answered ≡ true
  pub answer : List ℕ
  pub known : sent ≡ Some answer
  pub added : now ≡ Some (Open (with_answer n answer))

-- an answer is recorded; or it is not, and the journal ends
abbrev pub RecordsAnswer : Option Recorded → Option Recorded → Option (List ℕ) → Bool → Type 0
RecordsAnswer None now sent is_answered = ⊤
RecordsAnswer (Some (Ended text)) now sent is_answered = now ≡ Some (Ended text)
RecordsAnswer (Some (Open n)) now sent is_answered =
    IsAnswerRecorded n now sent is_answered ⊎ (now ≡ Some (Ended n.text))

-- the journal ends where something can't be kept. It may have enrolments and a request not carried out
pub record JournalEnds (n : Noted) (now : Option Recorded) : Type 0 where
  pub newly_enrolled : List Enrolment
  pub moment : ℤ
  pub request : List ℕ
  pub ended : now ≡ Some (Ended (with_request (with_news n newly_enrolled) moment request).text)

-- nothing is recorded; or the journal ends, since something could not be written
abbrev pub RecordsNone : Option Recorded → Option Recorded → Type 0
RecordsNone None now = ⊤
RecordsNone (Some (Ended text)) now = now ≡ Some (Ended text)
RecordsNone (Some (Open n)) now = (now ≡ Some (Open n)) ⊎ JournalEnds n now
