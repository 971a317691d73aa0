-- The headline of this project:
--
--     For every list of requests, each answer, byte for byte, is decided by that request's bytes and
--     moment, its operator's own plans and ceiling, and the greatest priority that other operators hold
--     at each leaf cell, altitude and second, and by nothing else; and no other operator's request changes
--     this operator's plans.
--
-- The record `Headline` at the end of this file says this sentence, and `desk_wire::laws::headline` proves
-- it. Part by part:
--
--   "For every list of requests": each field speaks of any lists of any bytes with any moments, answered
--   one after the other from any world on. That a desk gives these answers is the contract of `answer_all`,
--   and of `play_all` for the requests of a stream; the laws `answers_given` and `stream_given` say what
--   follows for the answers that were really given, and `desk_program::laws::port_given` for those that the
--   clients of a port were sent.
--
--   "each answer": a list of requests has as many answers, in their order (`each`).
--
--   "is decided by .., and by nothing else": take a request, with its moment, at any place of any two
--   lists, answered from any two worlds. If the worlds just before it look alike to its operator, then the
--   two answers are equal byte for byte (`decided`), and just after it its operator owns the same
--   (`owned`). Nothing else is asked of the two worlds, of the other requests or of the two places, so
--   nothing else has a part in the answer.
--
--   "that request's .. operator": whom the request names (`sender`). A request that has a fault names
--   nobody, and its bytes alone decide its answer (`nobodys`).
--
--   "own plans and ceiling": `own`, compared by `OwnAlike`. "The greatest priority that other operators
--   hold at each leaf cell, altitude and second": `held` at each point of a leaf, compared by `HoldAlike`.
--   The two together are `LookAlike`. The desk's terms, which are the permitted priorities and the most spans
--   and cells of an operator's plans, are part of the desk, set by its administrator and by no request:
--   worlds that look alike have the same terms, and a request leaves them.
--
--   "no other operator's request changes this operator's plans": after a request, every operator but the
--   one that it names owns what it did before, its ceiling too (`others`).
use Rattle.std.specs.Prelude.{◌≡◌, ◌≢◌, ◌+◌, ℕ, List, Option, None, Some, Ok, Err, length, take, ⊤}
use Rattle.std.specs.List.{slice_get}
use Rattle.desk_rules.specs.declared.call.Asked.{Asked}
use Rattle.desk_run.specs.{Verdicts.DeskWorld, Calls.OwnAlike, Calls.HoldAlike}
use Rattle.request_parser.specs.{Messages.Reading, Requests.asked}
use Rattle.desk_wire.specs.Bytes.{Sent, answers_to, world_left}

-- whom a request names, by what it asks: nobody if it has a fault
abbrev pub operator_in : Reading Asked → Option (List ℕ)
operator_in (Ok a) = Some a.operator
operator_in (Err fault) = None

abbrev pub sender : Sent → Option (List ℕ)
sender r = operator_in (asked r.1)

-- two worlds look alike to an operator: it owns the same, and others hold the same at each leaf cell,
-- altitude and second; to nobody, any two do
abbrev pub LookAlike : Option (List ℕ) → DeskWorld → DeskWorld → Type 0
LookAlike None v w = ⊤
LookAlike (Some o) v w = OwnAlike o v w × HoldAlike o v w

-- the operator, if there is one, owns the same
abbrev pub OwnsAlike : Option (List ℕ) → DeskWorld → DeskWorld → Type 0
OwnsAlike None v w = ⊤
OwnsAlike (Some o) v w = OwnAlike o v w

-- the world after the first n requests: the one before the request at place n, counted from 0
abbrev pub world_at : DeskWorld → List Sent → ℕ → DeskWorld
world_at w rs n = world_left w (take n rs)

-- v and w are worlds, rs and ss lists of requests, i and j places in them, r and s requests, o an operator
pub record Headline : Type 0 where
  pub each : (w : DeskWorld) (rs : List Sent) → length (answers_to w rs) ≡ length rs
  pub decided : (v w : DeskWorld) (rs ss : List Sent) (i j : ℕ) (r : Sent)
      → slice_get rs i ≡ Some r → slice_get ss j ≡ Some r
      → LookAlike (sender r) (world_at v rs i) (world_at w ss j)
      → slice_get (answers_to v rs) i ≡ slice_get (answers_to w ss) j
  pub owned : (v w : DeskWorld) (rs ss : List Sent) (i j : ℕ) (r : Sent)
      → slice_get rs i ≡ Some r → slice_get ss j ≡ Some r
      → LookAlike (sender r) (world_at v rs i) (world_at w ss j)
      → OwnsAlike (sender r) (world_at v rs (i + 1)) (world_at w ss (j + 1))
  pub nobodys : (v w : DeskWorld) (rs ss : List Sent) (i j : ℕ) (r s : Sent)
      → slice_get rs i ≡ Some r → slice_get ss j ≡ Some s → r.1 ≡ s.1 → sender r ≡ None
      → slice_get (answers_to v rs) i ≡ slice_get (answers_to w ss) j
  pub others : (w : DeskWorld) (rs : List Sent) (i : ℕ) (r : Sent) (o : List ℕ)
      → slice_get rs i ≡ Some r → sender r ≢ Some o
      → OwnAlike o (world_at w rs (i + 1)) (world_at w rs i)
