-- The texts of answers: responses of RFC 9112 whose bodies are JSON (RFC 8259).
use Rattle.std.specs.Prelude.{ℕ, List, [], ◌++◌, length, Option, Some, None, codes, decimal, true, map}
use Rattle.serde_json.specs.{Data.Data, Data.string, Data.object, Data.member, Data.no_members, Data.Members, Data.number, Data.unsigned, Data.boolean, Data.array, Written.compact_text, Find.of_integer, View.items_of}
use Rattle.http.specs.StatusCode.{status_text}
use Rattle.uuid.specs.Text.{hyphenated_text, lower}
use Rattle.s2_cellid.specs.Cell.{leaf_id, token_text}
use Rattle.s2_cover.specs.Covers.{RectParts}
use Rattle.volume4d.specs.{Sweep.Spot, Volume.Shape, Volume.cells, Volume.rectangle, Volume.Block, Volume.WindowParts}
use Rattle.desk_rules.specs.declared.words.{PlanStatus.PlanStatus, PlanStatus.TheVariants.NotPlanned, PlanStatus.TheVariants.Planned, PlanStatus.TheVariants.OkToFly, PlanStatus.TheVariants.OffNominal, PlanStatus.TheVariants.Closed, PlanResult.PlanResult, PlanResult.TheVariants.Completed, PlanResult.TheVariants.Rejected, PlanResult.TheVariants.NotSupported, Note.Note, Usage.Usage, Aircraft.Aircraft}
use Rattle.desk_rules.specs.declared.reply.Shown.{Shown}
use Rattle.desk_rules.specs.Outcome.{ReplyParts, ready, plans, plan, answered, cleared}

-- ==== The texts of answers: a response of RFC 9112 with its whole head and a body of JSON
-- the line of the field `allow` with these methods; the empty text if there are none
abbrev pub allow_line : Option (List ℕ) → List ℕ
allow_line None = []
allow_line (Some methods) = codes "allow: " ++ (methods ++ codes "\r\n")

-- the response with this status, the field `allow` if it is given, and this body: the status line and the
-- fields, each line ended by CR LF, an empty line, the body
unfoldable pub answer_text : ℕ → Option (List ℕ) → List ℕ → List ℕ
answer_text status allow body =
    codes "HTTP/1.1 " ++ (status_text status
    ++ (codes "\r\ncontent-type: application/json\r\ncontent-length: " ++ (decimal (length body)
    ++ (codes "\r\n" ++ (allow_line allow ++ (codes "connection: close\r\n\r\n" ++ body))))))

-- the response whose body is this JSON value, without white space
unfoldable pub json_answer : ℕ → Option (List ℕ) → Data → List ℕ
json_answer status allow value = answer_text status allow (compact_text value)

-- `{"error":"WORD"}`
abbrev pub error_data : List ℕ → Data
error_data word = object (member (codes "error") (string word) no_members)

-- the response with an error: its status, and `word` as its error code. `allow` are the methods that it
-- lists, if its status is 405 (RFC 9110, section 15.5.6)
unfoldable pub error_text : ℕ → Option (List ℕ) → List ℕ → List ℕ
error_text status allow word = json_answer status allow (error_data word)

-- ==== The words of InterUSS flight_planning v1 in answers, and the desk's own notes
-- `flight_plan_status`
abbrev pub status_word : PlanStatus → List ℕ
status_word NotPlanned = codes "NotPlanned"
status_word Planned = codes "Planned"
status_word OkToFly = codes "OkToFly"
status_word OffNominal = codes "OffNominal"
status_word Closed = codes "Closed"

-- `planning_result`
abbrev pub result_word : PlanResult → List ℕ
result_word Completed = codes "Completed"
result_word Rejected = codes "Rejected"
result_word NotSupported = codes "NotSupported"

-- `usage_state`
abbrev pub usage_word : Usage → List ℕ
usage_word Usage.Planned = codes "Planned"
usage_word Usage.InUse = codes "InUse"
usage_word Usage.Closed = codes "Closed"

-- `uas_state`
abbrev pub aircraft_word : Aircraft → List ℕ
aircraft_word Aircraft.Nominal = codes "Nominal"
aircraft_word Aircraft.OffNominal = codes "OffNominal"
aircraft_word Aircraft.Contingent = codes "Contingent"

-- the word of a note, which says why a PUT was rejected or not supported
abbrev pub note_word : Note → List ℕ
note_word Note.Style = codes "style"
note_word Note.State = codes "state"
note_word Note.Closed = codes "closed"
note_word Note.NotPlanned = codes "not_planned"
note_word Note.Ended = codes "ended"
note_word Note.Horizon = codes "horizon"
note_word Note.Priority = codes "priority"
note_word Note.PlansLimit = codes "plans_limit"
note_word Note.SpansLimit = codes "spans_limit"
note_word Note.CellsLimit = codes "cells_limit"
note_word Note.Conflict = codes "conflict"

-- `notes`: the note's word, or the empty text
abbrev pub notes_text : Option Note → List ℕ
notes_text None = []
notes_text (Some note) = note_word note

-- ==== The bodies of answers: JSON (RFC 8259) with the members in byte order
-- `conflict`: the first blocked point, its leaf cell by its S2 token, and the greatest priority held there
abbrev pub conflict_data : Spot → Data
conflict_data spot = object (
    member (codes "altitude") (number (of_integer spot.point.altitude)) (
    member (codes "cell") (string (token_text (leaf_id spot.point.leaf))) (
    member (codes "priority") (number (unsigned spot.priority)) (
    member (codes "second") (number (of_integer spot.point.second)) no_members))))

-- the members that say what came of a PUT or a DELETE
abbrev pub outcome_members : PlanStatus → PlanResult → Option Note → Members
outcome_members status result note =
    member (codes "flight_plan_status") (string (status_word status)) (
    member (codes "notes") (string (notes_text note)) (
    member (codes "planning_result") (string (result_word result)) no_members))

-- the member `conflict`, if there is one, and then the others
abbrev pub with_conflict : Option Spot → Members → Members
with_conflict None rest = rest
with_conflict (Some spot) rest = member (codes "conflict") (conflict_data spot) rest

-- the body of the answer to a PUT or a DELETE
abbrev pub put_data : PlanStatus → PlanResult → Option Note → Option Spot → Data
put_data status result note conflict = object (with_conflict conflict (outcome_members status result note))

-- the body of the answer to `GET /status`: the desk is ready
abbrev pub ready_data : Data
ready_data = object (member (codes "status") (string (codes "Ready")) no_members)

-- the body of the answer to a clear that removed so many plans
abbrev pub cleared_data : ℕ → Data
cleared_data count = object (member (codes "outcome") (object (
    member (codes "message") (string (codes "cleared " ++ decimal count)) (
    member (codes "success") (boolean true) no_members))) no_members)

-- ==== Plans in answers: JSON (RFC 8259) with the members in byte order
-- a cell by its printed token
abbrev pub cell_data : ℕ → Data
cell_data id = string (token_text id)

-- the tokens of cells, in their order
abbrev pub cells_data : List ℕ → Data
cells_data ids = array (items_of (map cell_data ids))

-- a rectangle as it was requested
abbrev pub rectangle_data : RectParts → Data
rectangle_data r = object (
    member (codes "face") (number (unsigned r.face)) (
    member (codes "i_max") (number (unsigned r.i_max)) (
    member (codes "i_min") (number (unsigned r.i_min)) (
    member (codes "j_max") (number (unsigned r.j_max)) (
    member (codes "j_min") (number (unsigned r.j_min)) (
    member (codes "level") (number (unsigned r.level)) no_members))))))

-- the member for the footprint of a volume, as it was requested, and then the others
abbrev pub with_footprint : Shape → Members → Members
with_footprint (cells ids) rest = member (codes "cells") (cells_data ids) rest
with_footprint (rectangle r) rest = member (codes "rectangle") (rectangle_data r) rest

-- a volume in a window: `between` puts the member for its footprint between its altitudes and its seconds
abbrev pub volume_with : WindowParts → (Members → Members) → Data
volume_with window between = object (
    member (codes "altitude_lower") (number (of_integer window.lower)) (
    member (codes "altitude_upper") (number (of_integer window.upper)) (
    between (
    member (codes "second_end") (number (of_integer window.end)) (
    member (codes "second_start") (number (of_integer window.start)) no_members)))))

-- a volume, and the volumes of an area in their order
abbrev pub volume_data : Block → Data
volume_data v = volume_with v.window (with_footprint v.footprint)

abbrev pub area_data : List Block → Data
area_data area = array (items_of (map volume_data area))

-- the members of a plan that come after its area and its conflict
abbrev pub row_members : Shown → Members
row_members shown =
    member (codes "flight_plan_id") (string (hyphenated_text lower shown.row.id)) (
    member (codes "flight_plan_status") (string (status_word shown.status)) (
    member (codes "priority") (number (unsigned shown.row.priority)) (
    member (codes "uas_state") (string (aircraft_word shown.row.aircraft)) (
    member (codes "usage_state") (string (usage_word shown.row.usage)) no_members))))

-- a plan, with its conflict if it has one
abbrev pub shown_data : Shown → Data
shown_data shown = object (
    member (codes "area") (area_data shown.row.area) (
    with_conflict shown.conflict (row_members shown)))

-- the body that lists plans, in their order
abbrev pub plans_data : List Shown → Data
plans_data shown = object (member (codes "flight_plans") (array (items_of (map shown_data shown))) no_members)

-- the JSON body of the answer that gives a reply
abbrev pub reply_data : ReplyParts → Data
reply_data ready = ready_data
reply_data (plans shown) = plans_data shown
reply_data (plan shown) = shown_data shown
reply_data (answered r) = put_data r.status r.result r.note r.meeting
reply_data (cleared count) = cleared_data count

-- the whole response, with the status 200
unfoldable pub reply_text : ReplyParts → List ℕ
reply_text said = json_answer 200 None (reply_data said)
