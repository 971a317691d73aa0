-- The words of each command line as rules of `clap`, and what each field is.
use Rattle.std.specs.Prelude.{◌≡◌, ◌==◌, ◌&&◌, ℕ, Bool, List, [], map, length, Option, Some, None, nat_le, nat_lt, if◌then◌else◌, Ok, ◌≢◌, ◌+◌, ⊤, Result, Err, ℤ, pos, true, false, ◌∷◌, take, drop, codes, string_bytes, IfSome, option_map, option_and_then, unwrap_or, fold}
use Rattle.std.specs.{Char.is_ascii_digit, List.list_all, List.slice_split, List.position, Str.Parse.digits_value, Str.Parse.IsNumeral, Str.Parse.signed_digits_value, Str.Parse.without_leading_plus, Str.Parse.without_leading_sign, Int.IsInRange, Option.IsSomeAnd, Option.option_map_or, Str.bytes_eq}
use Rattle.clap.specs.{Simple.App, Simple.Shape, Simple.new_rule, Simple.new_shape, Simple.subcommand_of, Simple.with_subcommand, Takes.takes, Values.kind_of, Walk.Row, Walk.Rule, Walk.Text, Walk.all_of, Walk.first_of, Walk.one_of}
use Rattle.clap.specs.declared.error.kind.ErrorKind.TheVariants as kind
use Rattle.clap.specs.declared.{builder.action.ArgAction.TheVariants.Append, builder.action.ArgAction.TheVariants.SetTrue, builder.value_parser.ValueParser.TheVariants.Signed}
use Rattle.volume4d.specs.VolumeLimits.{max_second}
use Rattle.desk_rules.specs.{Limits.max_priority, Limits.permitted_in, Limits.max_spans, Limits.max_total_cells, Limits.is_operator_name, Outcome.no_terms}
use Rattle.desk_rules.specs.declared.terms.Terms.{Terms}
use Rattle.desk_cli.specs.Lines.{IsLine, file_of, max_connections, max_port, min_connections, min_limit, min_port, named_file}
use Rattle.desk_cli.specs.declared.line.{CopyArgs.CopyArgs as CopyWords, CoverArgs.CoverArgs, DeskArgs.DeskArgs, EnrolArgs.EnrolArgs, Enrolment.Enrolment, Line.Line, PlayArgs.PlayArgs, ReplayArgs.ReplayArgs as ReplayWords, ServeArgs.ServeArgs, WordsFault.WordsFault}
use Rattle.desk_cli.specs.declared.line.Line.TheVariants as line
use Rattle.desk_cli.specs.declared.line.WordsFault.TheVariants as fault

-- the greatest number of digits of a priority
abbrev pub max_priority_digits : ℕ
max_priority_digits = 4

-- whether a text is 1 to 4 decimal digits
unfoldable pub is_short_number : List ℕ → Bool
is_short_number text =
    nat_lt 0 (length text) && (nat_le (length text) max_priority_digits && list_all is_ascii_digit text)

-- the priority that a text of 1 to 4 digits is; None for other texts and above 1,000
unfoldable pub priority_in : List ℕ → Option ℕ
priority_in text =
    if is_short_number text && nat_le (digits_value 10 text) max_priority then Some (digits_value 10 text)
    else None

-- a byte is `,`
abbrev pub is_comma : ℕ → Bool
is_comma byte = byte == 44

-- the permitted priorities are those between the commas of a word, and they may be permitted together
pub record ArePermittedIn (word permitted : List ℕ) : Type 0 where
  pub numbers : map Some permitted ≡ map priority_in (slice_split is_comma word)
  pub fit : permitted_in permitted ≡ Ok permitted

-- the same, if the option is given; without it no priority is permitted
abbrev pub ArePermittedBy : Option (List ℕ) → List ℕ → Type 0
ArePermittedBy None permitted = permitted ≡ []
ArePermittedBy (Some word) permitted = ArePermittedIn word permitted

-- ==== Each line's words as rules of `clap`, and what each of its fields is by the values of its arguments
-- ---- the words
-- a value at its place, which may be left out
abbrev pub value : Text → Rule
value id = record (new_rule id) { value_names = 1 }

-- `--NAME VALUE`, anywhere in the line
abbrev pub option : Text → Text → Rule
option id name = record (value id) { long = Some name }

-- one that has to be there
abbrev pub needed : Rule → Rule
needed rule = record rule { required = true }

-- one whose value is a number from `least` to `most`
abbrev pub number_between : ℕ → ℤ → Rule → Rule
number_between least most rule = record rule { parser = Some (Signed (pos least) most) }

abbrev pub database : Rule
database = option (codes "database") (codes "db")

abbrev pub moment : Rule
moment = needed (number_between 0 max_second (option (codes "moment") (codes "at")))

abbrev pub port : Rule
port = needed (number_between min_port (pos max_port) (option (codes "port") (codes "port")))

abbrev pub connections : Rule
connections =
    needed (number_between min_connections (pos max_connections)
    (option (codes "connections") (codes "requests")))

abbrev pub equal : Rule
equal = option (codes "equal") (codes "equal")

abbrev pub spans : Rule
spans = number_between min_limit (pos max_spans) (option (codes "spans") (codes "spans"))

abbrev pub cells : Rule
cells = number_between min_limit (pos max_total_cells) (option (codes "cells") (codes "cells"))

-- the file of enrolments
abbrev pub operators : Rule
operators = option (codes "operators") (codes "operators")

-- the folder of records
abbrev pub record_folder : Rule
record_folder = option (codes "record") (codes "record")

-- any number of them
abbrev pub enrolments : Rule
enrolments = record (value (codes "enrolments")) { action = Some Append }

-- a number of 8 bits, and one of 32
abbrev pub small : Text → Rule
small id = number_between 0 (pos 255) (needed (value id))

abbrev pub coordinate : Text → Rule
coordinate id = number_between 0 (pos 4294967295) (needed (value id))

-- it has no value
abbrev pub picture : Rule
picture = record (new_rule (codes "picture")) { long = Some (codes "svg"); action = Some SetTrue }

-- the last second that is played
abbrev pub until : Rule
until = number_between 0 max_second (option (codes "until") (codes "until"))

-- the shape of a command: its name, and the rules of its arguments
abbrev pub line_shape : Text → List Rule → Shape
line_shape name rules = record (new_shape name) { rules = rules }

-- the commands that the program has, in the order of the help
abbrev pub line_shapes : List Shape
line_shapes =
    line_shape (codes "play") (database ∷ moment ∷ equal ∷ spans ∷ cells ∷ record_folder ∷ enrolments
    ∷ [])
    ∷ line_shape (codes "token") (needed (value (codes "token")) ∷ [])
    ∷ line_shape (codes "serve") (database ∷ port ∷ connections ∷ equal ∷ spans ∷ cells ∷ operators
    ∷ record_folder ∷ enrolments ∷ [])
    ∷ line_shape (codes "cover") (small (codes "FACE") ∷ coordinate (codes "I_MIN")
    ∷ coordinate (codes "I_MAX") ∷ coordinate (codes "J_MIN") ∷ coordinate (codes "J_MAX")
    ∷ small (codes "LEVEL") ∷ picture ∷ [])
    ∷ line_shape (codes "enrol") (needed database ∷ record_folder ∷ needed (value (codes "NAME"))
    ∷ needed (value (codes "CEILING")) ∷ [])
    ∷ line_shape (codes "migrate") (needed database ∷ [])
    ∷ line_shape (codes "check") (needed database ∷ [])
    ∷ line_shape (codes "copy") (needed database ∷ needed (option (codes "to") (codes "to")) ∷ [])
    ∷ line_shape (codes "replay") (needed database ∷ until ∷ [])
    ∷ []

-- the program without commands: it has a name, it has a version, and it requires a command
abbrev pub bare_program : App
bare_program = record {
  top = record (new_shape (codes "uss_desk")) { has_version = true; subcommand_required = true };
  subs = [];
}

-- the program with these commands
abbrev pub with_lines : List Shape → App
with_lines lines = fold with_subcommand bare_program lines

abbrev pub program : App
program = with_lines line_shapes

-- ---- the values
-- a text is the decimal number n, perhaps with a plus sign
abbrev pub WritesNumber : ℕ → Text → Type 0
WritesNumber n text =
    IsNumeral 10 (without_leading_plus text) × (n ≡ digits_value 10 (without_leading_plus text))

-- a text is the decimal integer z, perhaps with a sign
abbrev pub WritesInteger : ℤ → Text → Type 0
WritesInteger z text = IsNumeral 10 (without_leading_sign text) × (z ≡ signed_digits_value 10 text)

-- n is the number that the argument `id` has; it was given once
abbrev pub IsNumberGiven : Text → List Row → ℕ → Type 0
IsNumberGiven id rows n = IsSomeAnd (one_of id rows) (WritesNumber n)

abbrev pub IsIntegerGiven : Text → List Row → ℤ → Type 0
IsIntegerGiven id rows z = IsSomeAnd (one_of id rows) (WritesInteger z)

-- the number that the argument `id` has; None if the argument is missing
abbrev pub IsNumberOrNone : Text → List Row → Option ℕ → Type 0
IsNumberOrNone id rows None = one_of id rows ≡ None
IsNumberOrNone id rows (Some n) = IsNumberGiven id rows n

-- the limit that the option `id` has, from `min_limit` to `greatest`; None if the option is missing
abbrev pub IsLimitGiven : Text → ℕ → List Row → Option ℕ → Type 0
IsLimitGiven id greatest rows most = IfSome most (IsInRange min_limit greatest) × IsNumberOrNone id rows most

-- the limit on the spans of an operator's live plans, and the limit on the cells of all its plans
abbrev pub IsSpanLimitGiven : List Row → Option ℕ → Type 0
IsSpanLimitGiven rows most = IsLimitGiven (codes "spans") max_spans rows most

abbrev pub IsCellLimitGiven : List Row → Option ℕ → Type 0
IsCellLimitGiven rows most = IsLimitGiven (codes "cells") max_total_cells rows most

-- the settings of a desk that the arguments give
pub record AreTermsOf (rows : List Row) (terms : Terms) : Type 0 where
  pub permitted : ArePermittedBy (first_of (codes "equal") rows) terms.permitted
  pub spans : IsSpanLimitGiven rows terms.spans
  pub cells : IsCellLimitGiven rows terms.cells

-- whether the flag `id` was given
abbrev pub is_given : Text → List Row → Bool
is_given id rows = option_map_or (λ text. bytes_eq text (codes "true")) (one_of id rows) false

-- the file of the database that was given; None if it is in memory
abbrev pub file_given : List Row → Option Text
file_given rows = named_file (first_of (codes "database") rows)

-- the enrolment of an operator by the texts of its name and its ceiling; None if either is malformed
abbrev pub enrolment_by : Text → Text → Option Enrolment
enrolment_by name ceiling =
    if is_operator_name name
    then option_map (λ n. record { operator = name; ceiling = n }) (priority_in ceiling) else None

-- a byte is `=`
abbrev pub is_equals : ℕ → Bool
is_equals byte = byte == 61

-- the enrolment of a text `NAME=CEILING`, split at its first `=`; None if it is malformed
unfoldable pub enrolment_in : Text → Option Enrolment
enrolment_in text =
    option_and_then (λ place. enrolment_by (take place text) (drop (place + 1) text))
    (position is_equals text)

-- the enrolments are those that were given, in their order
abbrev pub AreEnrolmentsGiven : List Enrolment → List Row → Type 0
AreEnrolmentsGiven enrolments rows =
    map Some enrolments ≡ map enrolment_in (unwrap_or (all_of (codes "enrolments") rows) [])

-- the operator that `enrol` names, under the ceiling that it gives
abbrev pub enrolment_given : List Row → Option Enrolment
enrolment_given rows =
    option_and_then (λ name. option_and_then (enrolment_by name) (first_of (codes "CEILING") rows))
    (first_of (codes "NAME") rows)

-- ---- the lines
-- the desk of `play` or of `serve`, with this file of enrolments
pub record IsDeskGiven (rows : List Row) (file : Option Text) (desk : DeskArgs) : Type 0 where
  pub database : file_of desk.database ≡ file_given rows
  pub terms : AreTermsOf rows desk.terms
  pub enrolments : AreEnrolmentsGiven desk.enrolments.items rows
  pub operators : option_map string_bytes desk.operators ≡ file
  pub folder : option_map string_bytes desk.folder ≡ first_of (codes "record") rows

-- the desk of `enrol`, without settings and enrolments
pub record IsBareDeskGiven (rows : List Row) (desk : DeskArgs) : Type 0 where
  pub database : file_of desk.database ≡ file_given rows
  pub terms : desk.terms ≡ no_terms
  pub enrolments : desk.enrolments.items ≡ []
  pub operators : desk.operators ≡ None
  pub folder : option_map string_bytes desk.folder ≡ first_of (codes "record") rows

pub record IsPlayGiven (rows : List Row) (play : PlayArgs) : Type 0 where
  pub desk : IsDeskGiven rows None play.desk
  pub moment : IsIntegerGiven (codes "moment") rows play.moment.second

pub record IsServeGiven (rows : List Row) (serve : ServeArgs) : Type 0 where
  pub desk : IsDeskGiven rows (first_of (codes "operators") rows) serve.desk
  pub port : IsNumberGiven (codes "port") rows serve.port
  pub connections : IsNumberGiven (codes "connections") rows serve.connections

pub record IsEnrolGiven (rows : List Row) (enrol : EnrolArgs) : Type 0 where
  pub desk : IsBareDeskGiven rows enrol.desk
  pub enrolment : enrolment_given rows ≡ Some enrol.enrolment

pub record IsCoverGiven (rows : List Row) (cover : CoverArgs) : Type 0 where
  pub face : IsNumberGiven (codes "FACE") rows cover.face
  pub i_min : IsNumberGiven (codes "I_MIN") rows cover.i_min
  pub i_max : IsNumberGiven (codes "I_MAX") rows cover.i_max
  pub j_min : IsNumberGiven (codes "J_MIN") rows cover.j_min
  pub j_max : IsNumberGiven (codes "J_MAX") rows cover.j_max
  pub level : IsNumberGiven (codes "LEVEL") rows cover.level
  pub picture : is_given (codes "picture") rows ≡ cover.is_picture

abbrev pub IsTextGiven : List Row → Text → Type 0
IsTextGiven rows text = first_of (codes "token") rows ≡ Some text

pub record IsCopyGiven (rows : List Row) (copy : CopyWords) : Type 0 where
  pub database : file_of copy.database ≡ file_given rows
  pub to : first_of (codes "to") rows ≡ Some (string_bytes copy.to)

pub record IsReplayGiven (rows : List Row) (replay : ReplayWords) : Type 0 where
  pub database : file_of replay.database ≡ file_given rows
  pub until : IsNumberOrNone (codes "until") rows replay.until

-- the first word of a line
abbrev pub name_of : Line → Text
name_of (line.Token token) = codes "token"
name_of (line.Cover cover) = codes "cover"
name_of (line.Play play) = codes "play"
name_of (line.Serve serve) = codes "serve"
name_of (line.Enrol enrol) = codes "enrol"
name_of (line.Check file) = codes "check"
name_of (line.Copy copy) = codes "copy"
name_of (line.Migrate file) = codes "migrate"
name_of (line.Replay replay) = codes "replay"

-- each field of a line has the value that was given
abbrev pub HasGiven : List Row → Line → Type 0
HasGiven rows (line.Token token) = IsTextGiven rows (string_bytes token)
HasGiven rows (line.Cover cover) = IsCoverGiven rows cover
HasGiven rows (line.Play play) = IsPlayGiven rows play
HasGiven rows (line.Serve serve) = IsServeGiven rows serve
HasGiven rows (line.Enrol enrol) = IsEnrolGiven rows enrol
HasGiven rows (line.Check file) = file_of file ≡ file_given rows
HasGiven rows (line.Copy copy) = IsCopyGiven rows copy
HasGiven rows (line.Migrate file) = file_of file ≡ file_given rows
HasGiven rows (line.Replay replay) = IsReplayGiven rows replay

-- a command line of this name has these arguments, and its numbers are in range
abbrev pub IsLineOf : Text → List Row → Line → Type 0
IsLineOf name rows it = IsLine it × (name_of it ≡ name) × HasGiven rows it

-- these words, the first of them the program's own name, give this command line
pub record IsGiven (words : List Text) (it : Line) : Type 0 where
  pub rows : List Row
  pub found : subcommand_of program words ≡ Some (name_of it, rows)
  pub values : HasGiven rows it

-- ---- why words are no line
-- the result is a `Value` fault only if no value satisfies `Is`; it may also be OutOfMemory, never `Words`
abbrev pub RefusesOnlyWithout : {A B : Type 0} → (B → Type 0) → Result A WordsFault → Type 0
RefusesOnlyWithout Is (Ok value) = ⊤
RefusesOnlyWithout Is (Err fault.OutOfMemory) = ⊤
RefusesOnlyWithout Is (Err (fault.Words error)) = ⊥
RefusesOnlyWithout {A} {B} Is (Err fault.Value) = (value : B) → Is value → ⊥

-- why `clap` gave no arguments: memory ran out, or `clap` refused the words
abbrev pub IsRefusedByClap : List Text → WordsFault → Type 0
IsRefusedByClap words fault.OutOfMemory = ⊤
IsRefusedByClap words (fault.Words error) = (takes program words ≢ true) × (kind_of error ≢ kind.OutOfMemory)
IsRefusedByClap words fault.Value = ⊥

-- why a command line is refused: memory ran out, `clap` refused the words, or, for `Value`, no command line
-- with numbers in range is given by them
abbrev pub AreWordsRefused : List Text → WordsFault → Type 0
AreWordsRefused words fault.OutOfMemory = ⊤
AreWordsRefused words (fault.Words error) = IsRefusedByClap words (fault.Words error)
AreWordsRefused words fault.Value = (it : Line) → IsLine it → IsGiven words it → ⊥
