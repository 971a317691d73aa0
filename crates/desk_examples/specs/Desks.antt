-- What an operator may rely on at a desk.
use Rattle.std.specs.Prelude.{ℕ, List, IsTrue, IsOkAnd, ◌≡◌, ◌≢◌, [], map, Option, Some, None, IsSomeAnd, true}
use Rattle.s2_hilbert.specs.Grid.{GridLeaf, IsLeaf}
use Rattle.s2_cellid.specs.Cell.{cell_has_leaf, read_token}
use Rattle.volume4d.specs.Volume.{Point, area_has}
use Rattle.desk_rules.specs.{Conflict.at_least, Limits.least_blocking, Outcome.ReplyParts, declared.plan.PlanRow.PlanRow, declared.plan.PutCall.PutCall, declared.reply.PutReply.PutReply}
use Rattle.desk_rules.specs.declared.words.PlanResult.TheVariants as result
use Rattle.desk_rules.specs.declared.words.PlanStatus.TheVariants as status
use Rattle.desk_rules.specs.Outcome as said
use Rattle.desk_store.specs.World.{stored_of}
use Rattle.desk_run.specs.Verdicts.{DeskWorld, held_in, row_asked}

-- the cell of a token has a leaf
abbrev pub TokenHas : List ℕ → GridLeaf → Type 0
TokenHas token leaf = IsOkAnd (read_token token) (λ id. IsTrue (cell_has_leaf id leaf))

-- the cells of two tokens have a leaf in common
abbrev pub TokensShare : List ℕ → List ℕ → Type 0
TokensShare one other = (leaf : GridLeaf) × IsLeaf leaf × TokenHas one leaf × TokenHas other leaf

-- ==== What an operator may rely on at a desk
-- the reply to a request to plan
abbrev pub given_in : ReplyParts → Option PutReply
given_in said.ready = None
given_in (said.plans shown) = None
given_in (said.plan shown) = None
given_in (said.answered given) = Some given
given_in (said.cleared count) = None

-- the plans that a reply lists
abbrev pub rows_in : ReplyParts → List PlanRow
rows_in said.ready = []
rows_in (said.plans shown) = map (λ s. s.row) shown
rows_in (said.plan shown) = []
rows_in (said.answered given) = []
rows_in (said.cleared count) = []

-- a request is completed that leaves a plan, which is not closed
pub record LeavesPlan (given : PutReply) : Type 0 where
  pub completed : given.result ≡ result.Completed
  pub planned : given.status ≢ status.NotPlanned
  pub live : given.status ≢ status.Closed

-- a reply says so
abbrev pub IsPlanned : ReplyParts → Type 0
IsPlanned reply = IsSomeAnd (given_in reply) LeavesPlan

-- the plan that is asked for is listed
abbrev pub IsPlanListed : PutCall → ReplyParts → Type 0
IsPlanListed asked reply = stored_of asked.id (rows_in reply) ≡ Some (row_asked asked)

-- at each point of the area that is asked for, what others hold in two worlds is the same so far as it could
-- block the plan: plans of lower priority don't count
abbrev pub BlockAlike : List ℕ → PutCall → DeskWorld → DeskWorld → Type 0
BlockAlike operator asked v w =
    let least = least_blocking w.terms.permitted asked.priority in
    (x : Point) → area_has asked.area x ≡ true
    → at_least least (held_in v operator x) ≡ at_least least (held_in w operator x)
