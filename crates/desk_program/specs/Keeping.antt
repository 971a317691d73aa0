-- What a command leaves: its effects outside, and the crash states that the next start may find.
use Rattle.std.specs.Prelude.{ℕ, List, Option, ◌≡◌, ◌⊎◌, ◌+◌, ⊤, [], ◌∷◌, take, Some, Result, Ok, Err, Bool, None}
use Rattle.std.specs.declared.io.Read as read
use Rattle.std.specs.declared.io.Write as write
use Rattle.std.specs.Option.{IsSomeAnd}
use Rattle.desk_store.specs.{declared.store.PlanStore.Ghosts, Changes.IsHonest, Changes.Remembers, World.World}
use Rattle.desk_run.specs.{Verdicts.DeskWorld, Verdicts.Parts, Verdicts.enrolled, Verdicts.world_of, Calls.FindsOnly}
use Rattle.desk_wire.specs.{Streams.Course, Streams.Passage, Streams.course, Streams.passage, Streams.HasServed, Streams.IsTaken, Given.reported_in_play, Given.IsCertain, Given.IsKept, Given.IsLeftBy}
use Rattle.desk_cli.specs.{declared.failure.ExitReport.ExitReport, declared.failure.ErrorCode.ErrorCode, declared.line.Enrolment.Enrolment, declared.line.Line.Line, declared.line.PlayArgs.PlayArgs, declared.line.ServeArgs.ServeArgs, Exits.Ending, Exits.ending, Exits.EndsWith, Exits.IsBrokenDown, Exits.FailsWith, Lines.IsEnrol, Lines.IsPlay}
use Rattle.desk_cli.specs.declared.line.Line.TheVariants as line
use Rattle.desk_program.specs.{declared.running.Streams.Streams, Serving.Traffic, Serving.unreported, Serving.AreTaken, Serving.Exchange, Serving.HasBegunServing, Serving.IsNotBegun, Serving.passage_of, Serving.IsLineServed, Enrolling.AreEnrolledSoFar, Enrolling.on_terms, Enrolling.with_operators, Enrolling.IsNotPlayed, Enrolling.IsPlayed, Enrolling.HasCause, Enrolling.IsEnrolled, Enrolling.IsPlayDone}

-- the bytes of the streams; what the port reported before and reports after; the end
pub record Outside : Type 0 where
  pub bytes : Passage
  pub port : Course Traffic
  pub end : Ending

-- the bytes that a writer held before and holds after, if they are known
abbrev pub bytes_written : {W : Type 0} → write.Ghosts W → W → W → Course (Option (List ℕ))
bytes_written w before after = course (w.contents before) (w.contents after)

-- how a command ended, by its exit report and its error writer
abbrev pub ended : {E : Type 0} → write.Ghosts E → ExitReport E → E → E → Ending
ended e exit before now = ending exit (e.contents before) (e.contents now)

-- the streams and the port of a command, before and after it, and how it ended
abbrev pub outside :
    {R W E : Type 0} → read.Ghosts R → write.Ghosts W → write.Ghosts E → Streams R W E → Streams R W E
    → Course Traffic → ExitReport E → Outside
outside r w e old new port exit = record {
  bytes = passage r w old.input new.input old.output new.output;
  port = port;
  end = ended e exit old.errors new.errors;
}

-- the same of a command without a port
abbrev pub streamed : Passage → Ending → Outside
streamed bytes end = record { bytes = bytes; port = course unreported unreported; end = end }

-- ==== Crash states: what the next start may find of a desk's content (`found`), however the program ended
-- the first operators are enrolled, and not all; the next start finds these, or these and the next one
pub record AreKeptSoFar (H : Type 0) (es : List Enrolment) (w after : DeskWorld) (found : Option World) :
    Type 0 where
  pub listed : AreEnrolledSoFar H es w after
  pub finds : (found ≡ Some (with_operators w (take listed.count es)).content)
      ⊎ (found ≡ Some (with_operators w (take (listed.count + 1) es)).content)

-- what the next start finds after enrolments at a desk of which it could find only one content: what they
-- left, or, if one could not be made, what one more would leave
abbrev pub FindsEnrolments :
    {A B : Type 0} → Type 0 → Result A B → List Enrolment → DeskWorld → DeskWorld → Option World → Type 0
FindsEnrolments H (Ok done) es w after found = found ≡ Some after.content
FindsEnrolments H (Err fault) es w after found = AreKeptSoFar H es w after found

-- what the next start finds after new enrolments: if all were made, what they left; if one failed, what those
-- before it left, or one more. If nothing was changed, it may find what it could find before (`before`)
abbrev pub FindsNewEnrolments :
    {A B : Type 0} → Result A B → List Enrolment → DeskWorld → DeskWorld → (Option World → Type 0)
    → (Option World → Type 0) → Type 0
FindsNewEnrolments (Ok done) es w after before now = (found : Option World) → now found
    → (found ≡ Some after.content) ⊎ ((after ≡ w) × before found)
FindsNewEnrolments (Err fault) es w after before now = (found : Option World) → now found
    → AreKeptSoFar ⊤ es w after found ⊎ ((after ≡ w) × before found)

-- the next start finds the operator enrolled; or it finds what was there before, and nothing was printed
abbrev pub FindsEnrolled : Enrolment → Ending → Course (Option (List ℕ)) → DeskWorld → Option World → Type 0
FindsEnrolled e end writes w found = (found ≡ Some (enrolled w e.operator e.ceiling).content)
    ⊎ (IsBrokenDown end × (writes.after ≡ writes.before) × (found ≡ Some w.content))

-- the next start finds what the requests of the input left; or an operator could not be enrolled
abbrev pub IsPlayKept : Type 0 → PlayArgs → Ending → Passage → DeskWorld → DeskWorld → Option World → Type 0
IsPlayKept H play end p w after found =
    ((run : IsPlayed H play end p w after)
    × IsKept run.ended (reported_in_play run.ended run.answered) p
    (with_operators (on_terms w play.desk.terms) play.desk.enrolments.items) play.moment.second after found)
    ⊎ (IsNotPlayed H play end p w after
    × AreKeptSoFar H play.desk.enrolments.items (on_terms w play.desk.terms) after found)

-- the request of a connection was answered with a 500 or not whole, and changed nothing; but the next start
-- finds its change made
abbrev pub IsLeftUncertain : DeskWorld → Option World → Exchange → Type 0
IsLeftUncertain w found x = (¬ IsCertain x.served)
    × HasServed ⊤ x.served (passage_of x) w x.arrival.moment w
    × IsLeftBy (IsTaken x.arrival.bytes x.parting.unread) w x.arrival.moment found

-- this is so of one of these connections
abbrev pub IsLeftByOne : DeskWorld → Option World → List Exchange → Type 0
IsLeftByOne w found [] = ⊥
IsLeftByOne w found (x ∷ xs) = IsLeftUncertain w found x ⊎ IsLeftByOne w found xs

-- of the last new enrolments one could not be made, and the next start finds it made or not made
abbrev pub IsLeftByNews : DeskWorld → Option World → Option (List Enrolment) → Type 0
IsLeftByNews w found last =
    IsSomeAnd last (λ newly_enrolled. (before : DeskWorld) × AreKeptSoFar ⊤ newly_enrolled before w found)

-- what the next start finds after connections: what their requests and the new enrolments left; or that with
-- the change of one request that failed, or with one more of the last new enrolments
abbrev pub IsFoundServed : List Exchange → Option (List Enrolment) → DeskWorld → Option World → Type 0
IsFoundServed xs last after found =
    (found ≡ Some after.content) ⊎ IsLeftByOne after found xs ⊎ IsLeftByNews after found last

-- connections are taken at a desk, and the next start finds what `IsFoundServed` says; or, if they changed
-- nothing, it may find what could have been found before
pub record AreKept {A S : Type 0} (g : Ghosts S) (done : Result A ErrorCode) (count : ℕ)
    (port : Course Traffic)
    (old new : Parts S) : Type 0 where
  pub taken : AreTaken (IsHonest (g.doubt new.store)) done count port (world_of g.content old)
      (world_of g.content new)
  pub finds : IsHonest (g.doubt new.store) → (found : Option World) → g.may_leave new.store found
      → IsFoundServed taken.exchanges taken.last (world_of g.content new) found
      ⊎ ((world_of g.content new ≡ world_of g.content old) × g.may_leave old.store found)

-- what the next start finds if connections are taken once all operators are enrolled, or if one could not be
abbrev pub IsPortKept :
    {A : Type 0} → Type 0 → Result A ErrorCode → ServeArgs → Course Traffic → DeskWorld → DeskWorld
    → Option World → Type 0
IsPortKept H done serve port w after found =
    ((begun : HasBegunServing H done serve port w after)
    × IsFoundServed begun.taken.exchanges begun.taken.last after found)
    ⊎ (IsNotBegun H done serve port w after
    × AreKeptSoFar H serve.desk.enrolments.items (on_terms w serve.desk.terms) after found)

-- what the next start finds after the command `serve`
pub record IsServeKept (H : Type 0) (serve : ServeArgs) (end : Ending) (port : Course Traffic)
    (w after : DeskWorld) (found : Option World) : Type 0 where
  pub done : Result ⊤ ErrorCode
  pub ends : EndsWith done end
  pub kept : IsPortKept H done serve port w after found

-- what the next start finds after a command at a desk
abbrev pub IsLineKept : Type 0 → Line → Outside → DeskWorld → DeskWorld → Option World → Type 0
IsLineKept H (line.Play play) o w after found = IsPlayKept H play o.end o.bytes w after found
IsLineKept H (line.Enrol enrol) o w after found = FindsEnrolled enrol.enrolment o.end o.bytes.writes w found
IsLineKept H (line.Serve serve) o w after found = IsServeKept H serve o.end o.port w after found
IsLineKept H _ o w after found = ⊥

-- ==== What comes of a command that is run at a desk
-- what a command does. `play` and `enrol` take no connection; `serve` and `enrol` read no input
abbrev pub IsCarriedOut : Type 0 → Line → Outside → DeskWorld → DeskWorld → Type 0
IsCarriedOut H (line.Play play) o w after =
    (o.port.after ≡ o.port.before) × IsPlayDone H play o.end o.bytes w after
IsCarriedOut H (line.Serve serve) o w after =
    (o.bytes.reads.after ≡ o.bytes.reads.before)
    × IsLineServed H serve o.end o.port o.bytes.writes w after
IsCarriedOut H (line.Enrol enrol) o w after =
    (o.port.after ≡ o.port.before) × (o.bytes.reads.after ≡ o.bytes.reads.before)
    × IsEnrolled H enrol.enrolment o.end o.bytes.writes w after
IsCarriedOut H _ o w after = ⊥

-- a command is run at a desk: what it does (`done`), what the next start may find (`kept`), and, if it ended
-- with the error code `store`, that the store counted a fault (`cause`)
pub record CarriesOut {S : Type 0} (g : Ghosts S) (line : Line) (o : Outside) (old new : Parts S) : Type 0
  where
    pub done : IsCarriedOut (IsHonest (g.doubt new.store)) line o (world_of g.content old)
        (world_of g.content new)
    pub kept : FindsOnly g old new (IsLineKept (IsHonest (g.doubt new.store)) line o
        (world_of g.content old) (world_of g.content new))
    pub cause : HasCause g old new o.end
    pub remembered : Remembers g.doubt g.faults g.is_shielded old.store new.store

-- a command is `play` or `enrol`, which take no connection, and its numbers are in range
abbrev pub IsPortless : Line → Type 0
IsPortless (line.Play play) = IsPlay play
IsPortless (line.Enrol enrol) = IsEnrol enrol
IsPortless _ = ⊥

-- a command without a port is run at a desk, and ends with this status. Whether the line with its error code
-- was cut off (`cut`) isn't returned
pub record EndsWithStatus {S : Type 0} (g : Ghosts S) (line : Line) (status : ℕ) (bytes : Passage)
    (errors : Course (Option (List ℕ))) (old new : Parts S) : Type 0 where
  pub cut : Bool
  pub carried : CarriesOut g line (streamed bytes (record {
    status = status;
    cut = cut;
    before = errors.before;
    now = errors.after;
  })) old new

-- no desk was opened: the command ends with that failure, and returns no desk; no connection is taken, and
-- nothing is read or written
abbrev pub IsUnopened : {S : Type 0} → Outside → Option S → ErrorCode → Type 0
IsUnopened o left failure = FailsWith failure o.end × (left ≡ None) × (o.port.after ≡ o.port.before)
    × (o.bytes.reads.after ≡ o.bytes.reads.before) × (o.bytes.writes.after ≡ o.bytes.writes.before)
