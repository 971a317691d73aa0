-- What holds of a command line that was read.
use Rattle.std.specs.Prelude.{ℕ, pos, List, All, ⊤, ◌≤◌, Option, Some, None, IfSome, if◌then◌else◌, bytes_eq, codes, string_bytes, ◌≡◌, option_map}
use Rattle.std.specs.Int.{IsInRange}
use Rattle.desk_rules.specs.Limits.{max_priority}
use Rattle.io_ends.specs.Writing.{IsMoment}
use Rattle.desk_cli.specs.declared.line.{DeskCommand.DeskCommand, CoverArgs.CoverArgs, Database.Database, Database.TheVariants.InMemory, Database.TheVariants.File, DeskArgs.DeskArgs, EnrolArgs.EnrolArgs, Enrolment.Enrolment, Line.Line, Line.TheVariants.Token, Line.TheVariants.Cover, Line.TheVariants.Play, Line.TheVariants.Serve, Line.TheVariants.Enrol, Line.TheVariants.Check, Line.TheVariants.Copy, Line.TheVariants.Migrate, Line.TheVariants.Replay, PlayArgs.PlayArgs, ReplayArgs.ReplayArgs as ReplayWords, ServeArgs.ServeArgs}
use Rattle.desk_cli.specs.declared.line.DeskCommand.TheVariants as action

abbrev pub min_port : ℕ
min_port = 1

abbrev pub max_port : ℕ
max_port = 65535

-- the least and the greatest number of connections that are served
abbrev pub min_connections : ℕ
min_connections = 1

abbrev pub max_connections : ℕ
max_connections = 1000000

-- the least limit on the spans or the cells of an operator's plans
abbrev pub min_limit : ℕ
min_limit = 1

-- the path of a database's file; None if the database is in memory
abbrev pub file_of : Database → Option (List ℕ)
file_of InMemory = None
file_of (File path) = Some (string_bytes path)

-- the path that a word names; None if there is no word, or it is `:memory:`
abbrev pub named_file : Option (List ℕ) → Option (List ℕ)
named_file None = None
named_file (Some word) = if bytes_eq word (codes ":memory:") then None else Some word

-- each ceiling is at most 1,000
abbrev pub AreEnrolments : List Enrolment → Type 0
AreEnrolments enrolments = All (λ e. e.ceiling ≤ max_priority) enrolments

-- the numbers of `play` are in range
abbrev pub IsPlay : PlayArgs → Type 0
IsPlay play = AreEnrolments play.desk.enrolments.items

-- the numbers of `serve` are in range
pub record IsServe (serve : ServeArgs) : Type 0 where
  pub port : IsInRange min_port max_port serve.port
  pub connections : IsInRange min_connections max_connections serve.connections
  pub enrolments : AreEnrolments serve.desk.enrolments.items

-- the ceiling of `enrol` is in range
abbrev pub IsEnrol : EnrolArgs → Type 0
IsEnrol enrol = enrol.enrolment.ceiling ≤ max_priority

-- the greatest numbers of 8 and of 32 bits
abbrev pub max_small : ℕ
max_small = 255

abbrev pub max_coordinate : ℕ
max_coordinate = 4294967295

-- the numbers of `cover` fit their types
pub record IsCover (cover : CoverArgs) : Type 0 where
  pub face : cover.face ≤ max_small
  pub i_min : cover.i_min ≤ max_coordinate
  pub i_max : cover.i_max ≤ max_coordinate
  pub j_min : cover.j_min ≤ max_coordinate
  pub j_max : cover.j_max ≤ max_coordinate
  pub level : cover.level ≤ max_small

-- the last second that is replayed, if there is one, is a moment
abbrev pub IsMomentIfGiven : Option ℕ → Type 0
IsMomentIfGiven until = IfSome until (λ n. IsMoment (pos n))

-- the number of `replay` is in range
abbrev pub IsReplay : ReplayWords → Type 0
IsReplay replay = IsMomentIfGiven replay.until

-- each number of a line is in its range
abbrev pub IsLine : Line → Type 0
IsLine (Cover cover) = IsCover cover
IsLine (Play play) = IsPlay play
IsLine (Serve serve) = IsServe serve
IsLine (Enrol enrol) = IsEnrol enrol
IsLine (Replay replay) = IsReplay replay
IsLine _ = ⊤

-- the command line of a command at a desk, and the arguments of its desk
abbrev pub line_of : DeskCommand → Line
line_of (action.Play play) = Play play.now
line_of (action.Serve serve) = Serve serve.now
line_of (action.Enrol enrol) = Enrol enrol.now

abbrev pub desk_of : DeskCommand → DeskArgs
desk_of (action.Play play) = play.now.desk
desk_of (action.Serve serve) = serve.now.desk
desk_of (action.Enrol enrol) = enrol.now.desk

-- ==== When the arguments of two desks, and two command lines, are the same
pub record SameDesk (a b : DeskArgs) : Type 0 where
  pub database : file_of b.database ≡ file_of a.database
  pub terms : b.terms ≡ a.terms
  pub enrolments : b.enrolments.items ≡ a.enrolments.items
  pub operators : option_map string_bytes b.operators ≡ option_map string_bytes a.operators
  pub folder : option_map string_bytes b.folder ≡ option_map string_bytes a.folder

abbrev pub SameLine : Line → Line → Type 0
SameLine (Token a) (Token b) = string_bytes b ≡ string_bytes a
SameLine (Cover a) (Cover b) = b ≡ a
SameLine (Play a) (Play b) = SameDesk a.desk b.desk × (b.moment ≡ a.moment)
SameLine (Serve a) (Serve b) = SameDesk a.desk b.desk × (b.port ≡ a.port) × (b.connections ≡ a.connections)
SameLine (Enrol a) (Enrol b) = SameDesk a.desk b.desk × (b.enrolment ≡ a.enrolment)
SameLine (Check a) (Check b) = file_of b ≡ file_of a
SameLine (Copy a) (Copy b) = (file_of b.database ≡ file_of a.database) × (string_bytes b.to ≡ string_bytes a.to)
SameLine (Migrate a) (Migrate b) = file_of b ≡ file_of a
SameLine (Replay a) (Replay b) = (file_of b.database ≡ file_of a.database) × (b.until ≡ a.until)
SameLine _ _ = ⊥
