-- What is reported of a malformed command line, and what a file of enrolments says.
use Rattle.std.specs.Prelude.{true, None, Some, map, option_map, ◌≡◌, ◌≢◌, ◌⊎◌, ℕ, List, [], find, is_none, unwrap_or, codes, Option, IfSome, false, ◌==◌, ◌+◌, Bool, option_and_then, take, drop, position, filter_map, ◌++◌}
use Rattle.std.specs.{Option.option_map_or, List.slice_split, Io.KnownBytes.Appends}
use Rattle.clap.specs.{Simple.Shape, Simple.new_rule, Simple.subcommand_of, Walk.Rule, Walk.Row, Walk.Text, Walk.all_of, Walk.first_of}
use Rattle.clap.specs.declared.{builder.action.ArgAction.TheVariants.Append, builder.action.ArgAction.TheVariants.SetTrue, builder.value_parser.ValueParser.TheVariants.Signed}
use Rattle.desk_rules.specs.Limits.{is_operator_name}
use Rattle.desk_cli.specs.Grammar.{line_shape, ArePermittedBy, ArePermittedIn, priority_in, enrolment_in, program, enrolment_by}
use Rattle.desk_cli.specs.declared.{command.ArgRow.ArgRow, command.Form.Form, command.ArgKind.ArgKind, line.Enrolment.Enrolment}
use Rattle.desk_cli.specs.declared.command.ArgKind.TheVariants as kind

-- a rule, with the kind of its value added
abbrev pub of_kind : ArgKind → Rule → Rule
of_kind kind.Text rule = rule
of_kind kind.Texts rule = record rule { action = Some Append }
of_kind (kind.Number least most) rule = record rule { parser = Some (Signed least most) }
of_kind kind.Flag rule = record rule { action = Some SetTrue }

-- the rule of a row, without the kind of its value
abbrev pub bare_rule : ArgRow → Rule
bare_rule row = record (new_rule row.id.now) {
  long = option_map (λ long. long.now) row.long;
  value_names = option_map_or (λ _. 1) row.value 0;
  required = row.is_required;
}

-- the rule of a row: one argument
abbrev pub rule_of_row : ArgRow → Rule
rule_of_row row = of_kind row.kind (bare_rule row)

-- the shape of a command: its name and the rules of its arguments
abbrev pub shape_of_form : Form → Shape
shape_of_form form = line_shape form.name.now (map rule_of_row form.words.now)

-- ==== The argument that is reported to an administrator, since its command line was refused for it
-- a word is no list of priorities that may be permitted
abbrev pub PermitsNone : Text → Type 0
PermitsNone word = (priorities : List ℕ) → ArePermittedIn word priorities → ⊥

-- the word is the name of `enrol`, and is no operator's name; or the name is one, and the word is the
-- ceiling, and is no priority
abbrev pub IsMalformedOperator : List Row → Text → Type 0
IsMalformedOperator rows word =
    ((first_of (codes "NAME") rows ≡ Some word) × (is_operator_name word ≡ false))
    ⊎ (IfSome (first_of (codes "NAME") rows) (λ name. is_operator_name name ≡ true)
    × (first_of (codes "CEILING") rows ≡ Some word) × (priority_in word ≡ None))

-- the first of the words that is no enrolment
abbrev pub first_malformed_enrolment : List Text → Option Text
first_malformed_enrolment words = find (λ word. is_none (enrolment_in word)) words

-- the value of `--equal`, if there is one, is a list of priorities that may be permitted
pub record Permits (word : Option Text) : Type 0 where
  pub permitted : List ℕ
  pub are : ArePermittedBy word permitted

-- the word is the value of `--equal`, and is no list of priorities; or that value, if there is one, is
-- a list, and the word is the first that is no enrolment
abbrev pub IsMalformedListOrEnrolment : Option Text → List Text → Text → Type 0
IsMalformedListOrEnrolment equal words word = ((equal ≡ Some word) × PermitsNone word)
    ⊎ (Permits equal × (first_malformed_enrolment words ≡ Some word))

-- the same of the arguments of `play` or `serve`
abbrev pub IsMalformedAtDesk : List Row → Text → Type 0
IsMalformedAtDesk rows word =
    IsMalformedListOrEnrolment (first_of (codes "equal") rows) (unwrap_or (all_of (codes "enrolments") rows) []) word

-- the word is the first malformed argument of the command `name`
abbrev pub IsFirstMalformed : Text → List Row → Text → Type 0
IsFirstMalformed name rows word = ((name ≡ codes "enrol") × IsMalformedOperator rows word)
    ⊎ ((name ≢ codes "enrol") × IsMalformedAtDesk rows word)

-- `word` is the first malformed argument of the command line `words`, whose first word is the program's name
pub record IsMalformed (words : List Text) (word : Text) : Type 0 where
  pub name : Text
  pub rows : List Row
  pub found : subcommand_of program words ≡ Some (name, rows)
  pub first : IsFirstMalformed name rows word

-- ==== The enrolments of a file of enrolments, line by line
-- a byte is a line feed, which ends a line
abbrev pub is_newline : ℕ → Bool
is_newline byte = byte == 10

-- a byte is a space, which separates a name from its ceiling
abbrev pub is_blank : ℕ → Bool
is_blank byte = byte == 32

-- the enrolment of a line `NAME CEILING`, split at its first space; None if it is malformed
unfoldable pub parse_enrolment_line : Text → Option Enrolment
parse_enrolment_line line =
    option_and_then (λ place. enrolment_by (take place line) (drop (place + 1) line)) (position is_blank line)

-- the enrolments of those lines that are `NAME CEILING`, in their order
abbrev pub parse_enrolment_lines : List Text → List Enrolment
parse_enrolment_lines lines = filter_map parse_enrolment_line lines

-- the lines of a text, without their line feeds
abbrev pub lines_of : Text → List Text
lines_of text = slice_split is_newline text

-- ==== Error messages with their place
-- the line of an error message; `place` is an argument or the path of a file
unfoldable pub report_line : List ℕ → List ℕ → List ℕ
report_line place text = codes "uss_desk: " ++ (place ++ (codes ": " ++ (text ++ codes "\n")))

-- a beginning of the bytes is written, which may be all of them or none, and nothing else
pub record IsPrintedPart (bytes : List ℕ) (out now : Option (List ℕ)) : Type 0 where
  pub begun : List ℕ
  pub rest : List ℕ
  pub parts : bytes ≡ begun ++ rest
  pub written : Appends out now begun

-- a beginning of the line is written, which may be all of it or none, and nothing else
abbrev pub IsReported : List ℕ → List ℕ → Option (List ℕ) → Option (List ℕ) → Type 0
IsReported place text = IsPrintedPart (report_line place text)

-- some text is reported for the first malformed argument
pub record ReportsMalformed (words : List (List ℕ)) (out now : Option (List ℕ)) : Type 0 where
  pub word : List ℕ
  pub text : List ℕ
  pub is_malformed : IsMalformed words word
  pub reported : IsReported word text out now

-- nothing is reported, or some text for the first malformed argument
abbrev pub IsMalformedReported : List (List ℕ) → Option (List ℕ) → Option (List ℕ) → Type 0
IsMalformedReported words out now = (now ≡ out) ⊎ ReportsMalformed words out now
