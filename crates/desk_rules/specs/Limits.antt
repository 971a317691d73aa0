-- The desk's own limits, the names of operators, and the equal priorities that are permitted.
use Rattle.std.specs.Prelude.{ℕ, Bool, List, length, ◌&&◌, ◌||◌, nat_le, ◌==◌, ◌+◌, nat_lt, [], ◌∷◌, codes, true, false, not, cond, Option, Some, None, Result, Ok, Err}
use Rattle.std.specs.List.{list_all, list_any}
use Rattle.desk_rules.specs.declared.permission.PermitFault.{PermitFault}
use Rattle.desk_rules.specs.declared.permission.PermitFault.TheVariants as fault

-- the most bytes of an operator's name
abbrev pub max_name_length : ℕ
max_name_length = 32

-- the most plans that an operator may have, closed ones too
abbrev pub max_plans : ℕ
max_plans = 200

-- the greatest priority of a plan, and the greatest ceiling of an operator (of two plans the one with
-- the higher priority goes first, ASTM F3548-21)
abbrev pub max_priority : ℕ
max_priority = 1000

-- the greatest number of spans that an administrator may name as the most of an operator's live plans
abbrev pub max_spans : ℕ
max_spans = 5000000

-- the greatest number of cells that an administrator may name as the most of an operator's plans
abbrev pub max_total_cells : ℕ
max_total_cells = 5000000

-- the greatest time between a request and the start of its plan, in seconds: thirty days
abbrev pub max_ahead : ℕ
max_ahead = 2592000

-- the most priorities that may be permitted to plans of equal priority
abbrev pub max_permitted : ℕ
max_permitted = 32

-- ==== The names of operators, by a rule of this desk's own
-- A request gives the name in its header `x-operator`.

-- a letter a to z (97 to 122), a digit (48 to 57), or a dash (45)
abbrev pub is_name_byte : ℕ → Bool
is_name_byte b = (nat_le 97 b && nat_le b 122) || (nat_le 48 b && nat_le b 57) || b == 45

-- 1 to 32 bytes, each of them such a byte
abbrev pub is_operator_name : List ℕ → Bool
is_operator_name name =
    nat_le 1 (length name) && nat_le (length name) max_name_length && list_all is_name_byte name

-- ==== Equal priorities: ASTM F3548-21 leaves it to the regulator whether plans of equal priority may share
-- points
-- The administrator of a desk names the priorities for which they may.

-- each is a priority that a plan may have
abbrev pub are_in_range : List ℕ → Bool
are_in_range priorities = list_all (λ p. nat_le p max_priority) priorities

-- each is less than the next
abbrev pub are_ascending : List ℕ → Bool
are_ascending [] = true
are_ascending (p ∷ []) = true
are_ascending (p ∷ q ∷ rest) = nat_lt p q && are_ascending (q ∷ rest)

-- the priorities themselves if they can be permitted, else the first fault that they have
abbrev pub permitted_in : List ℕ → Result (List ℕ) PermitFault
permitted_in priorities =
    cond (nat_lt max_permitted (length priorities)) (Err fault.TooMany)
    (cond (not (are_in_range priorities)) (Err fault.Range)
    (cond (not (are_ascending priorities)) (Err fault.Order) (Ok priorities)))

-- whether plans of a priority may share points
abbrev pub is_permitted : List ℕ → ℕ → Bool
is_permitted permitted priority = list_any (λ p. p == priority) permitted

-- whether the greatest priority that others hold at a point blocks a plan there: it is higher than the
-- plan's own, or equal to it and not permitted
abbrev pub blocks : List ℕ → ℕ → Option ℕ → Bool
blocks permitted priority None = false
blocks permitted priority (Some level) =
    nat_lt priority level || (level == priority && not (is_permitted permitted priority))

-- the least priority of another plan that blocks a plan of this priority: one more if this one is permitted
abbrev pub least_blocking : List ℕ → ℕ → ℕ
least_blocking permitted priority = cond (is_permitted permitted priority) (priority + 1) priority

-- the sentence for a fault, in ASCII codes
abbrev pub permit_fault_text : PermitFault → List ℕ
permit_fault_text fault.TooMany = codes "at most 32 priorities are permitted"
permit_fault_text fault.Range = codes "a priority is above 1,000"
permit_fault_text fault.Order = codes "the priorities do not ascend"
