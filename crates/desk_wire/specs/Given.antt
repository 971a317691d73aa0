-- How many answers a desk gave, the headline of these answers, and what a start finds of their requests.
use Rattle.std.specs.Prelude.{◌≡◌, ℕ, List, [], ◌⊎◌, ◌-◌, ◌+◌, ℤ, ◌∷◌, ◌++◌, length, Option, IfSome, ◌<◌, Some, take, ◌≢◌, ⊤, Result, Ok, Err}
use Rattle.std.specs.{List.concat, List.slice_get, Io.KnownBytes.Appends}
use Rattle.desk_store.specs.{Changes.IsHonest, World.World}
use Rattle.desk_store.specs.declared.store.PlanStore.{Ghosts}
use Rattle.desk_run.specs.{Verdicts.DeskWorld, Verdicts.Side, Verdicts.side, Verdicts.IsSettled, Verdicts.Parts, Verdicts.world_of, Calls.OwnAlike, Calls.beside, Calls.along}
use Rattle.request_parser.specs.Requests.{asked}
use Rattle.io_ends.specs.declared.{playing.PlayEnd.PlayEnd, playing.PlayEnd.TheVariants.End, playing.PlayEnd.TheVariants.Unframed, playing.PlayEnd.TheVariants.Broken as PlayBroken, playing.PlayEnd.TheVariants.Limit, playing.PlayEnd.TheVariants.Fault}
use Rattle.io_ends.specs.declared.{serving.ServeFault.TheVariants.Read, serving.ServeFault.TheVariants.Write, serving.ServeFault.TheVariants.CutShort, serving.ServeFault.TheVariants.OutOfMemory, serving.Served.Served, serving.ServeFault.ServeFault}
use Rattle.io_ends.specs.declared.playing.PlayEnd.TheVariants as play
use Rattle.io_ends.specs.declared.serving.Served.TheVariants as served
use Rattle.desk_wire.specs.{Bytes.world_after, Bytes.Sent, Bytes.answers_to, Bytes.world_left, Bytes.server_error_text, Bytes.AreAnswers, Bytes.AreFirst, Headline.sender, Headline.LookAlike, Headline.world_at, Streams.Passage, Streams.requests_in, Streams.IsTaken, Playing.at_moment, Playing.HasPlayed}
use Rattle.desk_wire.specs.declared.{batch.AnswersEnd.AnswersEnd, batch.AnswersEnd.TheVariants.All, batch.AnswersEnd.TheVariants.Broken, batch.AnswersEnd.TheVariants.NoMemory, response.ServerError.ServerError}

-- the world that the request `r` leaves in the world `w`
abbrev pub left : DeskWorld → Sent → DeskWorld
left w r = world_after w r.0 (asked r.1)

-- the operator's requests, bytes with moments, in their order
abbrev pub requests_of : List ℕ → List Sent → List Sent
requests_of o rs = beside sender o rs rs

-- the answers to them
abbrev pub answers_for : List ℕ → DeskWorld → List Sent → List (List ℕ)
answers_for o w rs = beside sender o rs (answers_to w rs)

-- the worlds just before each of them
abbrev pub met_by : List ℕ → DeskWorld → List Sent → List DeskWorld
met_by o w rs = beside sender o rs (along left (λ u r. u) w rs)

-- what the operator owns just after each of them
abbrev pub owned_by : List ℕ → DeskWorld → List Sent → List Side
owned_by o w rs = beside sender o rs (along left (λ u r. side (left u r) o) w rs)

-- an operator that sent none of the requests owns after them what it did before
abbrev pub SparesQuiet : DeskWorld → List Sent → DeskWorld → Type 0
SparesQuiet w requests after =
    (operator : List ℕ) → requests_of operator requests ≡ [] → OwnAlike operator after w

-- two runs are the same for the operator `o`, that of `rs` from `v` and that of `ss` from `w`: its answers
-- are equal byte for byte, and it owns the same after each of its requests and at the end
pub record IsSameFor (o : List ℕ) (v : DeskWorld) (rs : List Sent) (w : DeskWorld)
    (ss : List Sent) : Type 0 where
  pub answers : answers_for o v rs ≡ answers_for o w ss
  pub owned : owned_by o v rs ≡ owned_by o w ss
  pub at_end : OwnAlike o (world_left v rs) (world_left w ss)

-- ==== How many of a desk's answers, to a list of requests or to a stream of them, are those of the rules
-- how many of a list of answers are those of the rules: all but a last one that says why the desk failed
abbrev pub answered : AnswersEnd → List (List ℕ) → ℕ
answered All answers = length answers
answered Broken answers = length answers - 1
answered NoMemory answers = length answers

-- how many of the `count` requests of a stream that were answered have the answer that the rules say: all of
-- them, but for a last one at which the desk failed
abbrev pub reported_in_play : PlayEnd → ℕ → ℕ
reported_in_play play.End count = count
reported_in_play play.Unframed count = count
reported_in_play play.Limit count = count
reported_in_play play.Broken count = count - 1
reported_in_play (play.Fault fault) count = count

-- `more` is what was written after their answers: an answer that says why the desk failed, the first bytes of
-- an answer that was not written whole, or nothing
abbrev pub FollowsBy : PlayEnd → List ℕ → Type 0
FollowsBy play.End more = more ≡ []
FollowsBy play.Unframed more = more ≡ []
FollowsBy play.Limit more = more ≡ []
FollowsBy play.Broken more = (why : ServerError) × (more ≡ server_error_text why)
FollowsBy (play.Fault (Write fault)) more = length more ≡ fault.sent
FollowsBy (play.Fault Read) more = more ≡ []
FollowsBy (play.Fault CutShort) more = more ≡ []
FollowsBy (play.Fault OutOfMemory) more = more ≡ []

-- the world `after`, by the world `w` that these requests leave: the same; or, if the next answer was not
-- written whole, the world that its request leaves, or the same if that answer said that the desk failed
abbrev pub LeavesBy : PlayEnd → (List ℕ → Type 0) → DeskWorld → ℤ → DeskWorld → Type 0
LeavesBy play.End IsNext w moment after = after ≡ w
LeavesBy play.Unframed IsNext w moment after = after ≡ w
LeavesBy play.Limit IsNext w moment after = after ≡ w
LeavesBy play.Broken IsNext w moment after = after ≡ w
LeavesBy (play.Fault (Write fault)) IsNext w moment after =
    (next : List ℕ) × IsNext next × ((after ≡ world_after w moment (asked next)) ⊎ (after ≡ w))
LeavesBy (play.Fault Read) IsNext w moment after = after ≡ w
LeavesBy (play.Fault CutShort) IsNext w moment after = after ≡ w
LeavesBy (play.Fault OutOfMemory) IsNext w moment after = after ≡ w

-- `next` follows the first n requests of a stream, `requests`; if the bytes of the stream, `old`, are known
abbrev pub IsNextIn : Option (List ℕ) → ℕ → List (List ℕ) → List ℕ → Type 0
IsNextIn old n requests next = IfSome old (λ stream. requests_in (n + 1) stream ≡ requests ++ next ∷ [])

-- the first n requests of a stream, all sent at one moment, from the world `w` on, have these answers by the
-- rules; the answers were written one after the other, and then what `FollowsBy` says
pub record AreGiven (ended : PlayEnd) (n : ℕ) (p : Passage) (w : DeskWorld) (moment : ℤ)
    (after : DeskWorld) (requests answers : List (List ℕ)) : Type 0 where
  pub count : length requests ≡ n
  pub first : IfSome p.reads.before (λ stream. requests ≡ requests_in n stream)
  pub reported : answers ≡ answers_to w (at_moment moment requests)
  pub more : List ℕ
  pub written : Appends p.writes.before p.writes.after (concat answers ++ more)
  pub follows : FollowsBy ended more
  pub left : LeavesBy ended (IsNextIn p.reads.before n requests) (world_left w (at_moment moment requests))
      moment after

-- ==== The headline, of the answers that a desk gave
-- of the answers to lists of requests. Up to an answer 500 they are those that the rules say (`first`). So
-- one request, answered in two lists at worlds that look alike to its operator, was given equal bytes
-- (`decided`). An operator that sent nothing owns what it did before (`quiet`)
pub record AnswersGiven : Type 0 where
  pub first : (end : AnswersEnd) (w after : DeskWorld) (requests : List Sent) (answers : List (List ℕ))
      → AreAnswers end w requests answers after
      → AreFirst w requests (answered end answers) (take (answered end answers) answers) after
  pub decided : (e f : AnswersEnd) (v w v_after w_after : DeskWorld) (rs ss : List Sent)
      (xs ys : List (List ℕ)) (i j : ℕ) (r : Sent)
      → AreAnswers e v rs xs v_after → AreAnswers f w ss ys w_after
      → i < answered e xs → j < answered f ys → slice_get rs i ≡ Some r → slice_get ss j ≡ Some r
      → LookAlike (sender r) (world_at v rs i) (world_at w ss j) → slice_get xs i ≡ slice_get ys j
  pub quiet : (end : AnswersEnd) (w after : DeskWorld) (requests : List Sent) (answers : List (List ℕ))
      → AreAnswers end w requests answers after → SparesQuiet w requests after

-- of what was written for streams of requests, if the store is honest. The first requests of the stream, all
-- sent at one moment, have the answers that the rules say, and these are written one after the other
-- (`first`). So one request, sent at one moment in two streams at worlds that look alike to its operator, was
-- given equal bytes (`decided`). An operator that sent nothing owns what it did before (`quiet`)
pub record StreamGiven : Type 0 where
  pub first : (ended : PlayEnd) (doubt count : ℕ) (p : Passage) (w : DeskWorld) (moment : ℤ)
      (after : DeskWorld) → HasPlayed (IsHonest doubt) ended count p w moment after → IsHonest doubt
      → (requests answers : List (List ℕ))
      × AreGiven ended (reported_in_play ended count) p w moment after requests answers
  pub decided : (e f : PlayEnd) (m n : ℕ) (p q : Passage) (v w v_after w_after : DeskWorld) (moment : ℤ)
      (rs ss xs ys : List (List ℕ)) (i j : ℕ) (r : List ℕ)
      → AreGiven e m p v moment v_after rs xs → AreGiven f n q w moment w_after ss ys
      → slice_get rs i ≡ Some r → slice_get ss j ≡ Some r
      → LookAlike (sender (moment, r)) (world_at v (at_moment moment rs) i)
      (world_at w (at_moment moment ss) j) → slice_get xs i ≡ slice_get ys j
  pub quiet : (ended : PlayEnd) (doubt count : ℕ) (p : Passage) (stream : List ℕ) (w : DeskWorld)
      (moment : ℤ) (after : DeskWorld) → HasPlayed (IsHonest doubt) ended count p w moment after
      → IsHonest doubt → p.reads.before ≡ Some stream
      → SparesQuiet w (at_moment moment (requests_in (count + 1) stream)) after

-- ==== Kept: what a start may find of the requests of a stream, whatever ended the program that served them
-- It is the content that the answered requests left, or the content that these and the next one left.

-- `found` is the content that the next request leaves in the world `w`
abbrev pub IsLeftBy : (List ℕ → Type 0) → DeskWorld → ℤ → Option World → Type 0
IsLeftBy IsNext w moment found =
    (next : List ℕ) × IsNext next × (found ≡ Some (world_after w moment (asked next)).content)

-- `found` is the content of the world `w`, or the one that the next request leaves
abbrev pub IsOldOrNext : (List ℕ → Type 0) → DeskWorld → ℤ → Option World → Type 0
IsOldOrNext IsNext w moment found = (found ≡ Some w.content) ⊎ IsLeftBy IsNext w moment found

-- by the result of serving one request it is certain whether a start finds its change: the request was
-- answered whole and not by a 500, or no whole request was read
abbrev pub IsCertain : Result Served ServeFault → Type 0
IsCertain (Ok (served.Answered status framed)) = status ≢ 500
IsCertain (Ok served.End) = ⊤
IsCertain (Err Read) = ⊤
IsCertain (Err CutShort) = ⊤
IsCertain (Err OutOfMemory) = ⊥
IsCertain (Err (Write fault)) = ⊥

-- `found` is what a start may find after one request, served in the world `w`, which is now `after`: the
-- content of `after`; or, if nothing changed, what might have been found before, or, unless `IsCertain` holds,
-- the content that the request would have left
abbrev pub IsFoundNow :
    Result Served ServeFault → (Option World → Type 0) → (List ℕ → Type 0) → DeskWorld → ℤ → DeskWorld
    → Option World → Type 0
IsFoundNow served before IsNext w moment after found = (found ≡ Some after.content)
    ⊎ ((after ≡ w) × (before found ⊎ ((¬ IsCertain served) × IsLeftBy IsNext w moment found)))

-- what a start may find after one request, wherever the program ends while it serves it
pub record IsServedKept {S : Type 0} (g : Ghosts S) (old new : Parts S) (served : Result Served ServeFault)
    (p : Passage) (moment : ℤ) : Type 0 where
  pub crash : IsHonest (g.doubt new.store) → (found : Option World) → g.may_leave new.store found
      → g.may_leave old.store found
      ⊎ IsLeftBy (IsTaken p.reads.before p.reads.after) (world_of g.content old) moment found
  pub kept : IsHonest (g.doubt new.store) → IsCertain served → IsSettled g.content g.may_leave old
      → IsSettled g.content g.may_leave new
  pub found : IsHonest (g.doubt new.store) → (found : Option World) → g.may_leave new.store found
      → IsFoundNow served (g.may_leave old.store) (IsTaken p.reads.before p.reads.after)
      (world_of g.content old) moment (world_of g.content new) found

-- `found` is what a start may find after the first requests of a stream left the world `w`, by why serving
-- ended: the content of `w`; and after `Broken`, `OutOfMemory` and `Write`, maybe the content that the next
-- request leaves
abbrev pub FindsBy : PlayEnd → (List ℕ → Type 0) → DeskWorld → ℤ → Option World → Type 0
FindsBy End IsNext w moment found = found ≡ Some w.content
FindsBy Unframed IsNext w moment found = found ≡ Some w.content
FindsBy Limit IsNext w moment found = found ≡ Some w.content
FindsBy PlayBroken IsNext w moment found = IsOldOrNext IsNext w moment found
FindsBy (Fault Read) IsNext w moment found = found ≡ Some w.content
FindsBy (Fault CutShort) IsNext w moment found = found ≡ Some w.content
FindsBy (Fault OutOfMemory) IsNext w moment found = IsOldOrNext IsNext w moment found
FindsBy (Fault (Write fault)) IsNext w moment found = IsOldOrNext IsNext w moment found

-- the first n requests of a stream have the answers that the rules say, which were written; and `found` is
-- what a start may find
pub record IsKept (ended : PlayEnd) (n : ℕ) (p : Passage) (w : DeskWorld) (moment : ℤ) (after : DeskWorld)
    (found : Option World) : Type 0 where
  pub requests : List (List ℕ)
  pub answers : List (List ℕ)
  pub given : AreGiven ended n p w moment after requests answers
  pub finds : FindsBy ended (IsNextIn p.reads.before n requests)
      (world_left w (at_moment moment requests)) moment found

-- after n answers, a start finds the content after the first n requests of a list, or that after n + 1
abbrev pub IsFoundInRequests : DeskWorld → List Sent → ℕ → Option World → Type 0
IsFoundInRequests w requests n found = (found ≡ Some (world_at w requests n).content)
    ⊎ (found ≡ Some (world_at w requests (n + 1)).content)

-- the content that the first n requests of a stream leave
abbrev pub content_after : DeskWorld → ℤ → List ℕ → ℕ → World
content_after w moment stream n = (world_left w (at_moment moment (requests_in n stream))).content

-- after n answers, a start finds the content after the first n requests of a stream, or that after n + 1
abbrev pub IsFoundInStream : DeskWorld → ℤ → List ℕ → ℕ → Option World → Type 0
IsFoundInStream w moment stream n found = (found ≡ Some (content_after w moment stream n))
    ⊎ (found ≡ Some (content_after w moment stream (n + 1)))
