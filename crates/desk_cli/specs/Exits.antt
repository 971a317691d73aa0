-- The program's exit status, the word that it prints, and what `token` and `cover` print.
use Rattle.std.specs.Prelude.{◌≡◌, ◌≢◌, ℕ, Bool, true, false, List, [], ◌++◌, Option, ◌⊎◌, ◌==◌, if◌then◌else◌, codes, Some, None, is_some, Result, Ok, Err, ◌≤◌, ◌<◌, ⊤, ◌∷◌, length, decimal, string_bytes}
use Rattle.std.specs.Io.KnownBytes.{Appends}
use Rattle.s2_cellid.specs.declared.tokens.TokenFault.{TokenFault}
use Rattle.s2_cellid.specs.declared.tokens.TokenFault.TheVariants as token
use Rattle.s2_cellid.specs.Cell.{face_of, level_of, first_leaf_id, last_leaf_id, read_token, token_text}
use Rattle.s2_cover.specs.declared.{rect.RectFault.RectFault, walk.CoverFault.CoverFault, spans.Span.Span}
use Rattle.s2_cover.specs.declared.rect.RectFault.TheVariants as rect
use Rattle.s2_cover.specs.declared.walk.CoverFault.TheVariants as cover
use Rattle.s2_cover.specs.Covers.{IsCanonical, IsRanges, RectParts, rect_leaves, rect_or_fault}
use Rattle.volume4d.specs.VolumeLimits.{max_cover}
use Rattle.desk_run.specs.declared.fault.DeskFault.{DeskFault}
use Rattle.desk_run.specs.declared.fault.DeskFault.TheVariants as desk
use Rattle.io_ends.specs.declared.{playing.PlayEnd.PlayEnd, serving.ServeFault.ServeFault, serving.Served.Served, serving.Served.TheVariants.Answered, serving.Served.TheVariants.End}
use Rattle.io_ends.specs.declared.playing.PlayEnd.TheVariants as play
use Rattle.io_ends.specs.declared.serving.ServeFault.TheVariants as serve
use Rattle.desk_cli.specs.declared.{failure.ErrorCode.ErrorCode, failure.ExitReport.ExitReport, line.CoverArgs.CoverArgs, line.Line.Line}
use Rattle.desk_cli.specs.declared.failure.ErrorCode.TheVariants as failure
use Rattle.desk_cli.specs.declared.line.Line.TheVariants as line

-- a beginning of the bytes is written, not all of them, and nothing else
pub record IsPartlyWritten (bytes : List ℕ) (out now : Option (List ℕ)) : Type 0 where
  pub begun : List ℕ
  pub rest : List ℕ
  pub parts : bytes ≡ begun ++ rest
  pub left : rest ≢ []
  pub written : Appends out now begun

-- by whether a failed write cut them off: all of the bytes are written, or a beginning
abbrev pub IsWrittenOrCut : Bool → List ℕ → Option (List ℕ) → Option (List ℕ) → Type 0
IsWrittenOrCut false bytes out now = Appends out now bytes
IsWrittenOrCut true bytes out now = IsPartlyWritten bytes out now

-- ==== The status with which the program ends, and the word that it prints
-- the exit status: 2 for the arguments, 3 for the input, 4 for the rest
abbrev pub failure_status : ErrorCode → ℕ
failure_status failure.Value = 2
failure_status failure.Unframed = 3
failure_status failure.CutShort = 3
failure_status failure.Read = 3
failure_status failure.Limit = 3
failure_status (failure.Token fault) = 3
failure_status (failure.Rect fault) = 3
failure_status failure.TooManyCells = 3
failure_status failure.Broken = 4
failure_status failure.Memory = 4
failure_status failure.Store = 4
failure_status failure.Write = 4
failure_status failure.Network = 4
failure_status failure.Clock = 4
failure_status failure.NotADesk = 4
failure_status failure.OldSchema = 4
failure_status failure.DamagedLog = 4
failure_status failure.NoRecord = 3
failure_status failure.Differs = 3

-- the error code of a text that is no S2 token
abbrev pub token_word : TokenFault → List ℕ
token_word token.Empty = codes "empty"
token_word token.TooLong = codes "too_long"
token_word token.NotHex = codes "not_hex"
token_word token.NotACell = codes "not_a_cell"

-- the error code of numbers that are no rectangle
abbrev pub rect_word : RectFault → List ℕ
rect_word rect.Face = codes "face"
rect_word rect.Coordinate = codes "coordinate"
rect_word rect.Order = codes "order"
rect_word rect.Level = codes "level"

-- the error code as it is printed
abbrev pub failure_word : ErrorCode → List ℕ
failure_word failure.Value = codes "value"
failure_word failure.Unframed = codes "unframed"
failure_word failure.CutShort = codes "cut_short"
failure_word failure.Read = codes "read"
failure_word failure.Limit = codes "limit"
failure_word (failure.Token fault) = token_word fault
failure_word (failure.Rect fault) = rect_word fault
failure_word failure.TooManyCells = codes "too_many_cells"
failure_word failure.Broken = codes "broken"
failure_word failure.Memory = codes "memory"
failure_word failure.Store = codes "store"
failure_word failure.Write = codes "write"
failure_word failure.Network = codes "network"
failure_word failure.Clock = codes "clock"
failure_word failure.NotADesk = codes "not_a_desk"
failure_word failure.OldSchema = codes "old_schema"
failure_word failure.DamagedLog = codes "damaged_log"
failure_word failure.NoRecord = codes "no_record"
failure_word failure.Differs = codes "differs"

-- the line that reports a failure
abbrev pub failure_line : ErrorCode → List ℕ
failure_line f = (codes "uss_desk: " ++ failure_word f) ++ codes "\n"

-- the exit status of a result: 0 if nothing failed
abbrev pub exit_status : {A : Type 0} → Result A ErrorCode → ℕ
exit_status (Ok done) = 0
exit_status (Err failure) = failure_status failure

-- how a command ended: its exit status, whether the line with its error code was cut off by a failed write,
-- and what the error writer held before and holds now
pub record Ending : Type 0 where
  pub status : ℕ
  pub cut : Bool
  pub before : Option (List ℕ)
  pub now : Option (List ℕ)

-- the end of a command, by its exit report and by what the error writer held before and holds now
abbrev pub ending : {E : Type 0} → ExitReport E → Option (List ℕ) → Option (List ℕ) → Ending
ending exit before now = record { status = exit.status; cut = is_some exit.cut; before = before; now = now }

-- after a failure the line with its error code is written, or, if `cut`, a beginning of it; else nothing is.
-- `out` is what the writer held before
abbrev pub IsExitReported :
    {A : Type 0} → Result A ErrorCode → Bool → Option (List ℕ) → Option (List ℕ) → Type 0
IsExitReported (Ok done) cut out now = (cut ≡ false) × (now ≡ out)
IsExitReported (Err f) cut out now = IsWrittenOrCut cut (failure_line f) out now

-- a command ended with the result `done`: the exit status and the printed error code are those of `done`
abbrev pub EndsWith : {A : Type 0} → Result A ErrorCode → Ending → Type 0
EndsWith done end = (end.status ≡ exit_status done) × IsExitReported done end.cut end.before end.now

-- no error code was printed
abbrev pub IsSilent : Ending → Type 0
IsSilent end = (end.cut ≡ false) × (end.now ≡ end.before)

-- a command ended with the status 0, and no error code was printed
abbrev pub EndsWell : Ending → Type 0
EndsWell end = (end.status ≡ 0) × IsSilent end

-- a command ended with the status of this failure, and its error code was printed, perhaps cut off
abbrev pub FailsWith : ErrorCode → Ending → Type 0
FailsWith f end = (end.status ≡ failure_status f) × IsWrittenOrCut end.cut (failure_line f) end.before end.now

-- a line is printed whole if the result is Ok; after a failure it is printed whole or not at all, or, if the
-- failure is that of a write, cut off
abbrev pub IsAnnounced :
    {A : Type 0} → Result A ErrorCode → List ℕ → Option (List ℕ) → Option (List ℕ) → Type 0
IsAnnounced (Ok done) line out now = Appends out now line
IsAnnounced (Err f) line out now =
    Appends out now line ⊎ (now ≡ out) ⊎ ((f ≡ failure.Write) × IsPartlyWritten line out now)

-- what stops an enrolment of a valid operator: memory ran out, or the store failed
abbrev pub IsLineBreakdown : ErrorCode → Type 0
IsLineBreakdown f = (f ≡ failure.Memory) ⊎ (f ≡ failure.Store)

-- a command ended so
abbrev pub IsBrokenDown : Ending → Type 0
IsBrokenDown end = FailsWith failure.Memory end ⊎ FailsWith failure.Store end

-- the error code of a request that got no whole answer
abbrev pub serving_failure : ServeFault → ErrorCode
serving_failure serve.Read = failure.Read
serving_failure (serve.Write sent) = failure.Write
serving_failure serve.CutShort = failure.CutShort
serving_failure serve.OutOfMemory = failure.Memory

-- the error code of a run over the input; None if the run ended with the input
abbrev pub failure_after : PlayEnd → Option ErrorCode
failure_after play.End = None
failure_after play.Unframed = Some failure.Unframed
failure_after play.Broken = Some failure.Broken
failure_after play.Limit = Some failure.Limit
failure_after (play.Fault fault) = Some (serving_failure fault)

-- the error code of an enrolment that failed
abbrev pub enrolment_failure : DeskFault → ErrorCode
enrolment_failure desk.OutOfMemory = failure.Memory
enrolment_failure desk.Store = failure.Store
enrolment_failure desk.UnknownOperator = failure.Value
enrolment_failure desk.NoSuchPlan = failure.Value
enrolment_failure desk.Ceiling = failure.Value

-- the error code of a rectangle for which no cover was made
abbrev pub cover_failure : CoverFault → ErrorCode
cover_failure (cover.TooManyCells looked) = failure.TooManyCells
cover_failure cover.OutOfMemory = failure.Memory

-- why the desk at a port stops after the request of a connection; None if it goes on
abbrev pub failure_at : Result Served ServeFault → Option ErrorCode
failure_at (Ok (Answered status framed)) = if status == 500 then Some failure.Broken else None
failure_at (Ok End) = None
failure_at (Err serve.OutOfMemory) = Some failure.Memory
failure_at (Err serve.Read) = None
failure_at (Err (serve.Write sent)) = None
failure_at (Err serve.CutShort) = None

-- ==== What `token` and `cover` print
-- the line that reports a cell: a leaf's token is its id in 16 hex digits
unfoldable pub cell_line : ℕ → List ℕ
cell_line id =
    token_text id ++ (codes " face " ++ (decimal (face_of id) ++ (codes " level " ++ (decimal (level_of id)
    ++ (codes " leaves " ++ (token_text (first_leaf_id id) ++ (codes " " ++ (token_text (last_leaf_id id)
    ++ codes "\n"))))))))

-- the result of `token`: the line of the cell, or the failure that the text is no token
abbrev pub reported_of_token : Result ℕ TokenFault → Result (List ℕ) ErrorCode
reported_of_token (Ok id) = Ok (cell_line id)
reported_of_token (Err fault) = Err (failure.Token fault)

-- the numbers of a rectangle, as the arguments of `cover` give them
abbrev pub rect_parts : CoverArgs → RectParts
rect_parts words = record {
  face = words.face;
  i_min = words.i_min;
  i_max = words.i_max;
  j_min = words.j_min;
  j_max = words.j_max;
  level = words.level;
}

-- the token of each cell on its own line
abbrev pub token_lines : List ℕ → List ℕ
token_lines [] = []
token_lines (id ∷ ids) = token_text id ++ (codes "\n" ++ token_lines ids)

-- the same, then the line with the numbers of cells and of ranges
unfoldable pub cover_lines : List ℕ → ℕ → List ℕ
cover_lines ids ranges =
    token_lines ids
    ++ (decimal (length ids) ++ (codes " cells, " ++ (decimal ranges ++ codes " ranges\n")))

-- the lines of the canonical cover of a set of leaves, if it has few enough cells
pub record IsCoverText (set : ℕ → Bool) (text : List ℕ) : Type 0 where
  pub ids : List ℕ
  pub canonical : IsCanonical set ids
  pub few : length ids ≤ max_cover
  pub spans : List Span
  pub ranges : IsRanges set spans
  pub lines : text ≡ cover_lines ids (length spans)

-- the canonical cover of a set of leaves has too many cells
abbrev pub IsLong : (ℕ → Bool) → Type 0
IsLong set = (ids : List ℕ) × (IsCanonical set ids × (max_cover < length ids))

-- the result of `cover`, where `picture` says whether a picture was asked for: the lines of the cover, a
-- picture (any text: the contracts of cell_picture say which), or the failure if there is no cover
abbrev pub IsRectReported : Bool → Result RectParts RectFault → Result (List ℕ) ErrorCode → Type 0
IsRectReported picture (Err fault) reported = reported ≡ Err (failure.Rect fault)
IsRectReported picture (Ok rect) (Err f) = (f ≡ failure.TooManyCells) × IsLong (rect_leaves rect)
IsRectReported true (Ok rect) (Ok text) = ⊤
IsRectReported false (Ok rect) (Ok text) = IsCoverText (rect_leaves rect) text

-- the command line is `token` or `cover`
abbrev pub IsTokenOrCover : Line → Type 0
IsTokenOrCover (line.Token token) = ⊤
IsTokenOrCover (line.Cover words) = ⊤
IsTokenOrCover _ = ⊥

-- the result of `token` or `cover`
abbrev pub IsTextOf : Line → Result (List ℕ) ErrorCode → Type 0
IsTextOf (line.Token token) reported = reported ≡ reported_of_token (read_token (string_bytes token))
IsTextOf (line.Cover words) reported
    = IsRectReported words.is_picture (rect_or_fault (rect_parts words)) reported
IsTextOf _ reported = ⊥

-- memory ran out and nothing is printed, or a write failed after a beginning of the result was printed
abbrev pub IsPrintingGivenUp : Line → ErrorCode → Option (List ℕ) → Option (List ℕ) → Type 0
IsPrintingGivenUp line f out now = ((f ≡ failure.Memory) × (now ≡ out))
    ⊎ ((f ≡ failure.Write) × ((text : List ℕ) × IsTextOf line (Ok text) × IsPartlyWritten text out now))

-- what is printed: the result; nothing, if the result is a failure; or what was printed until memory ran out
-- or a write failed
abbrev pub IsShown : Line → Result ⊤ ErrorCode → Option (List ℕ) → Option (List ℕ) → Type 0
IsShown line (Ok done) out now = (text : List ℕ) × IsTextOf line (Ok text) × Appends out now text
IsShown line (Err f) out now = IsPrintingGivenUp line f out now ⊎ (IsTextOf line (Err f) × (now ≡ out))

-- what `token` or `cover` prints, and how it ends
pub record IsPrinted (line : Line) (end : Ending) (out now : Option (List ℕ)) : Type 0 where
  pub done : Result ⊤ ErrorCode
  pub ends : EndsWith done end
  pub shown : IsShown line done out now
