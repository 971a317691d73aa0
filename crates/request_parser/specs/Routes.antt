-- Which resource a request names, the methods of resources, and the words of refusals.
use Rattle.std.specs.Prelude.{ℕ, List, [], ◌∷◌, if◌then◌else◌, Option, Some, None, bytes_eq, codes, Bool, false, not, drop, length, nat_eq, ◌==◌, option_and_then, option_map}
use Rattle.std.specs.{List.join_by, List.before_first, List.list_any, List.starts_with, Str.is_utf8}
use Rattle.request_parser.specs.declared.{resource.Action.Action, resource.Route.Route, resource.Route.TheVariants.Status, resource.Route.TheVariants.FlightPlans, resource.Route.TheVariants.FlightPlan, resource.Route.TheVariants.ClearAreaRequests, routes.Target.Target}
use Rattle.request_parser.specs.declared.resource.Action.TheVariants as action
use Rattle.request_parser.specs.declared.wire_fault.{WireFault.WireFault, WireFault.TheVariants.HeadTooLarge, WireFault.TheVariants.BadHead, WireFault.TheVariants.TransferEncoding, WireFault.TheVariants.ContentLength, WireFault.TheVariants.BodyTooLarge, WireFault.TheVariants.NoRoute, WireFault.TheVariants.Method, WireFault.TheVariants.BadOperator, WireFault.TheVariants.BadPlanId, WireFault.TheVariants.BadJson, WireFault.TheVariants.BadMember, WireFault.TheVariants.BadVolume, WireFault.TheVariants.TooManyCells, ReadError.ReadError, ReadError.TheVariants.OutOfMemory, ReadError.TheVariants.Fault}

-- what stands beside a word in a table
abbrev pub value_beside : {A : Type 0} → List (List ℕ × A) → List ℕ → Option A
value_beside [] word = None
value_beside (row ∷ rows) word = if bytes_eq word row.0 then Some row.1 else value_beside rows word

-- ==== The methods of the desk's resources: RFC 9110, sections 9.1 and 10.2.1
-- the methods that a resource has, each with what it does, in the order of `allow`
abbrev pub methods_of : Route → List (List ℕ × Action)
methods_of Status = (codes "GET", action.Status) ∷ []
methods_of FlightPlans = (codes "GET", action.List) ∷ []
methods_of FlightPlan =
    (codes "DELETE", action.Delete) ∷ (codes "GET", action.Show) ∷ (codes "PUT", action.Put) ∷ []
methods_of ClearAreaRequests = (codes "POST", action.Clear) ∷ []

-- what a method does at a resource, if the resource has it
unfoldable pub action_of : Route → List ℕ → Option Action
action_of route method = value_beside (methods_of route) method

-- these methods, as the field `allow` of an answer lists them
abbrev pub allow_text : Route → List ℕ
allow_text route = join_by (λ (row : List ℕ × Action). row.0) (codes ", ") (methods_of route)

-- ==== Which resource a request names: RFC 9112, section 3.2.1, and RFC 3986, sections 3.3 and 3.4
-- b'?'
abbrev pub question_mark : ℕ
question_mark = 63

-- b'/'
abbrev pub slash : ℕ
slash = 47

-- the path of a request target: what stands before its first `?`, or all of it
abbrev pub path_of : List ℕ → List ℕ
path_of target = before_first (λ b. b == question_mark) target

-- whether a slash is among the bytes
abbrev pub has_slash : List ℕ → Bool
has_slash bytes = list_any (λ b. b == slash) bytes

-- one segment of a path that isn't empty
abbrev pub is_segment : List ℕ → Bool
is_segment [] = false
is_segment (b ∷ bytes) = not (has_slash (b ∷ bytes))

-- the path of the flight plans, as far as an id
abbrev pub plans_folder : List ℕ
plans_folder = codes "/flight_plans/"

-- what follows that in a path. None if the path doesn't begin with it
abbrev pub rest_in : List ℕ → Option (List ℕ)
rest_in path = if starts_with nat_eq path plans_folder then Some (drop (length plans_folder) path) else None

-- the id of a flight plan that a path names: one segment that isn't empty
unfoldable pub plan_id_in : List ℕ → Option (List ℕ)
plan_id_in path = option_and_then (λ id. if is_segment id then Some id else None) (rest_in path)

-- a resource, and the plan id in its path, which is empty if the path has none
pub record ResourcePlace : Type 0 where
  pub route : Route
  pub id : List ℕ

-- the place of a resource whose path has no plan id, and that of the flight plan of an id
abbrev pub place_without_id : Route → ResourcePlace
place_without_id route = record { route = route; id = [] }

abbrev pub plan_at : List ℕ → ResourcePlace
plan_at id = record { route = FlightPlan; id = id }

-- the resource that a path names
unfoldable pub route_of : List ℕ → Option ResourcePlace
route_of path =
    if bytes_eq path (codes "/clear_area_requests") then Some (place_without_id ClearAreaRequests)
    else if bytes_eq path (codes "/flight_plans") then Some (place_without_id FlightPlans)
    else if bytes_eq path (codes "/status") then Some (place_without_id Status)
    else option_map plan_at (plan_id_in path)

-- the same for a request target: one that isn't UTF-8 names no resource
unfoldable pub route_in : List ℕ → Option ResourcePlace
route_in target = if is_utf8 target then route_of (path_of target) else None

-- the place that the code's `Target` stands for
abbrev pub target_shown : Target → ResourcePlace
target_shown target = record { route = target.route; id = target.id.now }

-- ==== The answers' status codes and words for requests that are refused by their faults
-- the status code (RFC 9110, section 15)
abbrev pub fault_status : WireFault → ℕ
fault_status HeadTooLarge = 413
fault_status BadHead = 400
fault_status TransferEncoding = 501
fault_status ContentLength = 400
fault_status BodyTooLarge = 413
fault_status NoRoute = 404
fault_status (Method route) = 405
fault_status BadOperator = 400
fault_status BadPlanId = 400
fault_status BadJson = 400
fault_status BadMember = 400
fault_status BadVolume = 400
fault_status TooManyCells = 400

-- the error code in the answer's body, `{"error":WORD}`
abbrev pub fault_word : WireFault → List ℕ
fault_word HeadTooLarge = codes "too_large"
fault_word BadHead = codes "bad_head"
fault_word TransferEncoding = codes "transfer_encoding"
fault_word ContentLength = codes "bad_head"
fault_word BodyTooLarge = codes "too_large"
fault_word NoRoute = codes "no_route"
fault_word (Method route) = codes "method"
fault_word BadOperator = codes "bad_operator"
fault_word BadPlanId = codes "bad_plan_id"
fault_word BadJson = codes "bad_json"
fault_word BadMember = codes "bad_member"
fault_word BadVolume = codes "bad_volume"
fault_word TooManyCells = codes "too_many_cells"

-- the field `allow`, which the answer has if the method is at fault (RFC 9110, section 15.5.6)
abbrev pub fault_allow : WireFault → Option (List ℕ)
fault_allow (Method route) = Some (allow_text route)
fault_allow fault = None

-- the fault as a sentence
abbrev pub fault_text : WireFault → List ℕ
fault_text HeadTooLarge = codes "the head is too large"
fault_text BadHead = codes "the head is malformed, or the body has another length"
fault_text TransferEncoding = codes "a transfer encoding is not supported"
fault_text ContentLength = codes "the content length is malformed"
fault_text BodyTooLarge = codes "the body is too large"
fault_text NoRoute = codes "no resource has this path"
fault_text (Method route) = codes "the resource has no such method"
fault_text BadOperator = codes "the operator's name is missing or malformed"
fault_text BadPlanId = codes "the id of the plan is not a UUID"
fault_text BadJson = codes "the body is not JSON"
fault_text BadMember = codes "a member of the body is missing or has a wrong form"
fault_text BadVolume = codes "a volume is malformed or out of its limits"
fault_text TooManyCells = codes "a rectangle takes too many cells"

-- the same for a reader's error
abbrev pub read_error_text : ReadError → List ℕ
read_error_text OutOfMemory = codes "out of memory"
read_error_text (Fault fault) = fault_text fault
