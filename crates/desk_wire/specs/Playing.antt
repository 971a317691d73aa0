-- Playing: the result of serving the requests of a stream one after the other.
use Rattle.std.specs.Prelude.{◌≡◌, ◌≢◌, ℕ, ℤ, ◌+◌, true, false, List, length, map, All, Option, Err}
use Rattle.std.specs.{List.concat, Io.KnownBytes.Appends, Io.KnownBytes.Consumes, Io.KnownBytes.IsAtEnd}
use Rattle.desk_run.specs.Verdicts.{DeskWorld}
use Rattle.io_ends.specs.declared.playing.{PlayEnd.PlayEnd, PlayEnd.TheVariants.End, PlayEnd.TheVariants.Unframed, PlayEnd.TheVariants.Broken, PlayEnd.TheVariants.Limit, PlayEnd.TheVariants.Fault}
use Rattle.desk_wire.specs.declared.response.ServerError.{ServerError}
use Rattle.desk_wire.specs.{Bytes.Sent, Bytes.answers_to, Bytes.world_left, Bytes.IsServerError, Streams.Passage, Streams.passed, Streams.HasServed, Streams.IsServed, Streams.IsTaken, Streams.IsUntouched, Streams.IsRequest, Streams.is_framed}

-- the most requests that one run answers: this desk's own limit
abbrev pub max_answered : ℕ
max_answered = 1000000

-- requests that are all sent at one moment
abbrev pub at_moment : ℤ → List (List ℕ) → List Sent
at_moment moment requests = map (λ request. (moment, request)) requests

-- a whole request, after which it is known where the next one begins
pub record IsWhole (request : List ℕ) : Type 0 where
  pub whole : IsRequest request
  pub framed : is_framed request ≡ true

-- `count` requests were read one after the other, from the world `w` on; and if the store is honest (`H`),
-- their answers were written, and `after` is the world that they leave
pub record ArePlayed (H : Type 0) (count : ℕ) (p : Passage) (w : DeskWorld) (moment : ℤ)
    (after : DeskWorld) : Type 0 where
  pub requests : List (List ℕ)
  pub count_is : length requests ≡ count
  pub whole : All IsWhole requests
  pub taken : Consumes p.reads.before p.reads.after (concat requests)
  pub written : H → Appends p.writes.before p.writes.after (concat (answers_to w (at_moment moment requests)))
  pub left : H → after ≡ world_left w (at_moment moment requests)

-- one more request was read, and its answer says that the desk failed
pub record IsBroken (p : Passage) (w after : DeskWorld) : Type 0 where
  pub request : List ℕ
  pub taken : IsTaken p.reads.before p.reads.after request
  pub answer : List ℕ
  pub written : Appends p.writes.before p.writes.after answer
  pub failed : (why : ServerError) × IsServerError why w answer after

-- one more request was answered with another status than 500, and it is unknown where the next one begins
pub record IsUnframed (H : Type 0) (p : Passage) (w : DeskWorld) (moment : ℤ) (after : DeskWorld) :
    Type 0 where
  pub status : ℕ
  pub served : IsServed H p w moment after status false
  pub answered : status ≢ 500

-- what follows the first `count` requests, by why serving ended; `answered` counts all answered requests
abbrev pub EndsRunBy : Type 0 → PlayEnd → ℕ → ℕ → Passage → DeskWorld → ℤ → DeskWorld → Type 0
EndsRunBy H End count answered p w moment after =
    (answered ≡ count) × IsAtEnd p.reads.before × IsUntouched p.writes.before p.writes.after w after
EndsRunBy H Unframed count answered p w moment after = (answered ≡ count + 1) × IsUnframed H p w moment after
EndsRunBy H Broken count answered p w moment after = (answered ≡ count + 1) × IsBroken p w after
EndsRunBy H Limit count answered p w moment after = (answered ≡ count) × (count ≡ max_answered)
    × IsUntouched p.writes.before p.writes.after w after
EndsRunBy H (Fault fault) count answered p w moment after =
    (answered ≡ count) × HasServed H (Err fault) p w moment after

-- the result of serving a stream from the world `w` to the world `after`: the first `count` requests are
-- answered in their order, and then serving ends for the reason `ended`. `H` says that the store is honest;
-- `p` are the bytes read and written; `input`, `output` and `world` are those after these first requests
pub record HasPlayed (H : Type 0) (ended : PlayEnd) (answered : ℕ) (p : Passage) (w : DeskWorld)
    (moment : ℤ) (after : DeskWorld) : Type 0 where
  pub count : ℕ
  pub input : Option (List ℕ)
  pub output : Option (List ℕ)
  pub world : DeskWorld
  pub first : ArePlayed H count (passed p.reads.before input p.writes.before output) w moment world
  pub last : EndsRunBy H ended count answered (passed input p.reads.after output p.writes.after) world moment
      after
