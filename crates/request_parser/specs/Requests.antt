-- What a request asks: which call its bytes are, and whose, or its first fault; bodies are JSON (RFC 8259).
use Rattle.std.specs.Prelude.{ℕ, ℤ, List, [], ◌∷◌, if◌then◌else◌, Option, Some, None, option_and_then, is_some, Ok, pos, negsuc, codes, Bool, false, not, Err, nat_le}
use Rattle.std.specs.{Str.is_utf8, Str.bytes_eq, Int.is_in_range, Result.result_ok}
use Rattle.serde_json.specs.{Data.Data, Data.Items, Data.no_items, Data.item, Find.get, Find.as_null, Find.as_number, Find.as_i64, Find.as_str, Find.as_array, Find.as_object, Read.read, Events.items_len}
use Rattle.uuid.specs.Text.{parsed}
use Rattle.s2_cellid.specs.Cell.{read_token}
use Rattle.s2_cover.specs.Covers.{RectParts, rect_or_fault}
use Rattle.volume4d.specs.{VolumeLimits.max_volumes, Volume.WindowParts, Volume.window_or_fault, Volume.Shape, Volume.cells, Volume.rectangle, Volume.is_footprint, Volume.Block}
use Rattle.desk_rules.specs.Limits.{max_priority, is_operator_name}
use Rattle.desk_rules.specs.declared.{plan.PutCall.PutCall, call.Asked.Asked, call.Call.Call}
use Rattle.desk_rules.specs.declared.words.{Style.Style, Style.TheVariants.Hypothetical, Style.TheVariants.IfAllowed, Style.TheVariants.InReality, Usage.Usage, Usage.TheVariants.Planned, Usage.TheVariants.InUse, Usage.TheVariants.Closed, Aircraft.Aircraft, Aircraft.TheVariants.Nominal, Aircraft.TheVariants.OffNominal, Aircraft.TheVariants.Contingent}
use Rattle.desk_rules.specs.declared.call.Call.TheVariants as call
use Rattle.request_parser.specs.{Messages.Reading, Messages.or_fault, Messages.or_met, Messages.guard, Messages.MessageParts, Messages.message_in, Times.start_of, Times.end_of, Routes.value_beside, Routes.action_of, Routes.route_in, Heads.Count, Heads.absent, Heads.once, Heads.more, Heads.count_in, Heads.HeadParts}
use Rattle.request_parser.specs.declared.{wire_fault.WireFault.TheVariants.BadJson, wire_fault.WireFault.TheVariants.BadVolume, wire_fault.WireFault.TheVariants.TooManyCells, wire_fault.WireFault.TheVariants.BadMember, wire_fault.WireFault.TheVariants.NoRoute, wire_fault.WireFault.TheVariants.Method, wire_fault.WireFault.TheVariants.BadOperator, wire_fault.WireFault.TheVariants.BadPlanId, wire_fault.WireFault.WireFault}
use Rattle.request_parser.specs.declared.{address.Address.Address, resource.Action.Action, resource.Action.TheVariants.Status, resource.Action.TheVariants.List as ListPlans, resource.Action.TheVariants.Show, resource.Action.TheVariants.Put, resource.Action.TheVariants.Delete, resource.Action.TheVariants.Clear}

-- ==== Reading JSON (RFC 8259): a body's value as `serde_json` reads it, its members, or the first fault
-- the value of a body
unfoldable pub body_value : List ℕ → Reading Data
body_value body = or_fault (if is_utf8 body then read body else None) BadJson Ok

-- the member `key` of an object, if it is a text
abbrev pub text_at : List ℕ → Data → Option (List ℕ)
text_at key d = option_and_then as_str (get key d)

-- a value, if it is an integer that fits an `i64`, and such a member of an object
abbrev pub integer_in : Data → Option ℤ
integer_in d = option_and_then as_i64 (as_number d)

abbrev pub integer_at : List ℕ → Data → Option ℤ
integer_at key d = option_and_then integer_in (get key d)

-- the member `key` of an object, if it is an array
abbrev pub array_at : List ℕ → Data → Option Items
array_at key d = option_and_then as_array (get key d)

-- a value, if it is not null, and the member `key` of an object, if it is there and not null
abbrev pub unless_null : Data → Option Data
unless_null d = if is_some (as_null d) then None else Some d

abbrev pub present : List ℕ → Data → Option Data
present key d = option_and_then unless_null (get key d)

-- what `f` reads from each item, in their order, or the first fault
abbrev pub each : {A : Type 0} → (Data → Reading A) → Items → Reading (List A)
each f no_items = Ok []
each f (item d ds) = or_met (f d) λ x. or_met (each f ds) λ xs. Ok (x ∷ xs)

-- ==== A volume in a request: altitudes in whole decimetres, S2 tokens or a rectangle of the S2 grid, and RFC
-- 3339 times, under the member names of InterUSS flight_planning v1 if it has them

-- whether a text is there and is `RFC3339`
abbrev pub is_rfc3339 : Option (List ℕ) → Bool
is_rfc3339 None = false
is_rfc3339 (Some text) = bytes_eq text (codes "RFC3339")

-- the text of a time: `format` is the text `RFC3339`, and `value` is the time's text
unfoldable pub time_text : Data → Option (List ℕ)
time_text d = if is_rfc3339 (text_at (codes "format") d) then text_at (codes "value") d else None

-- the texts of the times of a volume, and the Unix seconds that these are
abbrev pub time_at : List ℕ → Data → Option (List ℕ)
time_at key d = option_and_then time_text (get key d)

abbrev pub start_at : Data → Option ℤ
start_at d = option_and_then start_of (time_at (codes "time_start") d)

abbrev pub end_at : Data → Option ℤ
end_at d = option_and_then end_of (time_at (codes "time_end") d)

-- the window of the volume `d`: the altitudes are members of `shape`, its member `volume`, the times its own
unfoldable pub window_of : Data → Data → Reading WindowParts
window_of d shape =
    or_fault (integer_at (codes "altitude_lower") shape) BadVolume λ lower.
    or_fault (integer_at (codes "altitude_upper") shape) BadVolume λ upper.
    or_fault (start_at d) BadVolume λ start.
    or_fault (end_at d) BadVolume λ end.
    or_fault (result_ok (window_or_fault
    (record { lower = lower; upper = upper; start = start; end = end }))) BadVolume Ok

-- an S2 token, as the id of its cell
abbrev pub token_of : Data → Reading ℕ
token_of d = or_fault (option_and_then (λ text. result_ok (read_token text)) (as_str d)) BadVolume Ok

-- a cell list: an array of tokens
unfoldable pub cells_of : Data → Reading (List ℕ)
cells_of list = or_fault (as_array list) BadVolume (each token_of)

-- a number that is not negative, and a member that is such an integer
abbrev pub natural : ℤ → Option ℕ
natural (pos n) = Some n
natural (negsuc n) = None

abbrev pub natural_at : List ℕ → Data → Option ℕ
natural_at key d = option_and_then natural (integer_at key d)

-- a rectangle: its face, its coordinates and its level
unfoldable pub rectangle_of : Data → Reading RectParts
rectangle_of d =
    or_fault (natural_at (codes "face") d) BadVolume λ face.
    or_fault (natural_at (codes "i_min") d) BadVolume λ i_min.
    or_fault (natural_at (codes "i_max") d) BadVolume λ i_max.
    or_fault (natural_at (codes "j_min") d) BadVolume λ j_min.
    or_fault (natural_at (codes "j_max") d) BadVolume λ j_max.
    or_fault (natural_at (codes "level") d) BadVolume λ level.
    or_fault (result_ok (rect_or_fault (record {
      face = face;
      i_min = i_min;
      i_max = i_max;
      j_min = j_min;
      j_max = j_max;
      level = level;
    }))) BadVolume Ok

-- the footprint, if exactly one of a cell list and a rectangle is there
abbrev pub one_of : Option Data → Option Data → Reading Shape
one_of (Some list) None = or_met (cells_of list) λ ids. Ok (cells ids)
one_of None (Some d) = or_met (rectangle_of d) λ rect. Ok (rectangle rect)
one_of (Some list) (Some d) = Err BadVolume
one_of None None = Err BadVolume

-- the footprint of a volume's `volume`: its `cells` or its `rectangle`; one that is null is not there
unfoldable pub footprint_of : Data → Reading Shape
footprint_of shape = one_of (present (codes "cells") shape) (present (codes "rectangle") shape)

-- the fault of a footprint out of its limits: a cell list of none or too many, a rectangle of too many cells
abbrev pub past_limit : Shape → WireFault
past_limit (cells ids) = BadVolume
past_limit (rectangle rect) = TooManyCells

-- the volume over a footprint in a window
unfoldable pub volume_over : Shape → WindowParts → Reading Block
volume_over footprint window =
    guard (not (is_footprint footprint)) (past_limit footprint) (
    Ok (record { footprint = footprint; window = window }))

-- the volume that a JSON value is, or its first fault
unfoldable pub volume_of : Data → Reading Block
volume_of d =
    or_fault (get (codes "volume") d) BadVolume λ shape.
    or_met (window_of d shape) λ window.
    or_met (footprint_of shape) λ footprint.
    volume_over footprint window

-- the volumes of a plan's area, as many as an area may have
unfoldable pub area_of : Items → Reading (List Block)
area_of items = guard (not (is_in_range 1 max_volumes (items_len items))) BadVolume (each volume_of items)

-- ==== A plan request's body: members and words of InterUSS flight_planning v1, the desk's members of areas
-- the words of flight_planning v1 for execution styles
abbrev pub style_words : List (List ℕ × Style)
style_words =
    (codes "Hypothetical", Hypothetical)
    ∷ (codes "IfAllowed", IfAllowed)
    ∷ (codes "InReality", InReality)
    ∷ []

-- the words of flight_planning v1 for usage states
abbrev pub usage_words : List (List ℕ × Usage)
usage_words =
    (codes "Planned", Planned)
    ∷ (codes "InUse", InUse)
    ∷ (codes "Closed", Closed)
    ∷ []

-- the words of flight_planning v1 for aircraft states
abbrev pub aircraft_words : List (List ℕ × Aircraft)
aircraft_words =
    (codes "Nominal", Nominal)
    ∷ (codes "OffNominal", OffNominal)
    ∷ (codes "Contingent", Contingent)
    ∷ []

-- what a word means. None for every other word
unfoldable pub style_of : List ℕ → Option Style
style_of word = value_beside style_words word

unfoldable pub usage_of : List ℕ → Option Usage
usage_of word = value_beside usage_words word

unfoldable pub aircraft_of : List ℕ → Option Aircraft
aircraft_of word = value_beside aircraft_words word

-- the members that have such words
abbrev pub style_at : Data → Option Style
style_at d = option_and_then style_of (text_at (codes "execution_style") d)

abbrev pub usage_at : Data → Option Usage
usage_at d = option_and_then usage_of (text_at (codes "usage_state") d)

abbrev pub aircraft_at : Data → Option Aircraft
aircraft_at d = option_and_then aircraft_of (text_at (codes "uas_state") d)

-- a number, if it is a priority: from 0 to `max_priority`
abbrev pub priority_number : ℤ → Option ℕ
priority_number (pos n) = if nat_le n max_priority then Some n else None
priority_number (negsuc n) = None

-- the priority in the member `priority`: 0 if there is no such member
abbrev pub priority_or_zero : Option Data → Reading ℕ
priority_or_zero None = Ok 0
priority_or_zero (Some d) = or_fault (option_and_then priority_number (integer_in d)) BadMember Ok

-- the priority in the member `astm_f3548_21`, which has to be an object: 0 if there is no such member
abbrev pub priority_by : Option Data → Reading ℕ
priority_by None = Ok 0
priority_by (Some rules) =
    or_fault (as_object rules) BadMember λ _.
    priority_or_zero (present (codes "priority") rules)

-- the priority of a `flight_plan`
unfoldable pub priority_of : Data → Reading ℕ
priority_of plan = priority_by (present (codes "astm_f3548_21") plan)

-- the request that a body's JSON is for the plan of this id, or its first fault: those of volumes come last
unfoldable pub put_of : List ℕ → Data → Reading PutCall
put_of id d =
    or_fault (style_at d) BadMember λ style.
    or_fault (get (codes "flight_plan") d) BadMember λ plan.
    or_fault (get (codes "basic_information") plan) BadMember λ information.
    or_fault (usage_at information) BadMember λ usage.
    or_fault (aircraft_at information) BadMember λ aircraft.
    or_fault (array_at (codes "area") information) BadMember λ items.
    or_met (priority_of plan) λ priority.
    or_met (area_of items) λ area.
    Ok (record {
      id = id;
      style = style;
      usage = usage;
      aircraft = aircraft;
      priority = priority;
      area = area;
    })

-- the request that a body is
unfoldable pub put_in : List ℕ → List ℕ → Reading PutCall
put_in id body = or_met (body_value body) (put_of id)

-- ==== The body of a request to clear, with the member names of InterUSS flight_planning v1
-- the volume to clear, from the JSON of a body: its member `extent`, an object
unfoldable pub clear_of : Data → Reading Block
clear_of d =
    or_fault (get (codes "extent") d) BadMember λ extent.
    or_fault (as_object extent) BadMember λ _.
    volume_of extent

-- the volume that a body asks to clear
unfoldable pub clear_in : List ℕ → Reading Block
clear_in body = or_met (body_value body) clear_of

-- ==== Who asks for what at which resource, by the head of a request
-- the action, the operator's name, and the id in the path, which is empty if the path has none
pub record AddressParts : Type 0 where
  pub action : Action
  pub operator : List ℕ
  pub id : List ℕ

-- the address that the code's `Address` stands for
abbrev pub address_shown : Address → AddressParts
address_shown a = record { action = a.action; operator = a.operator; id = a.id.now }

-- the operator's name, if the field occurs once and has one
abbrev pub operator_of : Count → Option (List ℕ)
operator_of absent = None
operator_of (once value) = if is_operator_name value then Some value else None
operator_of more = None

-- the address that a head gives, or its first fault: the path has to be that of a resource, the resource has
-- to have the method, and the field `x-operator` has to occur once, with an operator's name
unfoldable pub address_of : HeadParts → Reading AddressParts
address_of head =
    or_fault (route_in head.target) NoRoute λ place.
    or_fault (action_of place.route head.method) (Method place.route) λ action.
    or_fault (operator_of (count_in (codes "x-operator") head.fields)) BadOperator λ operator.
    Ok (record { action = action; operator = operator; id = place.id })

-- ==== What a request asks: the call that its bytes are, and whose, or its first fault
-- the id of a flight plan: a UUID in any of the forms of RFC 9562, section 4
abbrev pub id_of : List ℕ → Reading (List ℕ)
id_of text = or_fault (parsed text) BadPlanId Ok

-- the call that an action with an id and a body is. Only a PUT and a clear read the body.
abbrev pub call_by : Action → List ℕ → List ℕ → Reading Call
call_by Status id body = Ok call.Status
call_by ListPlans id body = Ok call.List
call_by Show id body = or_met (id_of id) λ plan_id. Ok (call.Show plan_id)
call_by Delete id body = or_met (id_of id) λ plan_id. Ok (call.Delete plan_id)
call_by Put id body = or_met (id_of id) λ plan_id. or_met (put_in plan_id body) λ put. Ok (call.Put put)
call_by Clear id body = or_met (clear_in body) λ extent. Ok (call.Clear extent)

-- the operator of an address, and the call that its action, its id and a body are
abbrev pub asked_at : AddressParts → List ℕ → Reading Asked
asked_at address body =
    or_met (call_by address.action address.id body) λ made.
    Ok (record { operator = address.operator; call = made })

-- what a message asks, or its first fault: those of the address come before those of the body
unfoldable pub asked_by : MessageParts → Reading Asked
asked_by message = or_met (address_of message.head) λ address. asked_at address message.body

-- what the bytes of one whole request ask, or their first fault: those of the framing come first
unfoldable pub asked : List ℕ → Reading Asked
asked text = or_met (message_in text) asked_by
