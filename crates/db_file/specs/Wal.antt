-- The WAL of a database (the SQLite file format, section 4): its commits, its damage, how far it was read.
use Rattle.std.specs.Prelude.{◌≤◌, ℕ, List, ◌≡◌, ◌<◌, zero, suc, ◌+◌, ◌==◌, ◌&&◌, not, nat_le, if◌then◌else◌, Bool, true, false, length, ⊤, drop, Option, Some, None, ◌≢◌, ◌⊎◌, ◌-◌, ◌^◌, IfSome, Result, Ok, Err}
use Rattle.std.specs.{Str.bytes_eq, IoError.error_kind}
use Rattle.std.specs.declared.io.{Error.Error, ErrorKind.TheVariants.Interrupted}
use Rattle.sqlite_wal.specs.{PageSize.IsPageSize, Recovery.Replays, Recovery.Passes, Recovery.frame, Recovery.frame_at, Recovery.header, Recovery.sum_before, Format.part, Format.be32, Format.IsHeader, Format.commit_size}
use Rattle.db_file.specs.declared.{judging.WalState.WalState, judging.WalState.TheVariants.Damaged, judging.WalState.TheVariants.Sound, judging.WalError.WalError, judging.WalError.TheVariants.Endless, judging.WalError.TheVariants.Unread}
use Rattle.io_ends.specs.Reading.{HaveGivenUp}

-- ==== Logs of which recovery takes a commit (the SQLite file format, sections 4.1 and 4.4)
-- a log has a commit: recovery takes its first `frames` (one or more), of pages of `page` bytes, a valid size
pub record HasCommit (log : List ℕ) : Type 0 where
  pub page : ℕ
  pub size : IsPageSize page
  pub frames : ℕ
  pub some : 1 ≤ frames
  pub taken : Replays page log frames

-- how many bytes a log with a commit has at least: a header, and a frame of the smallest pages
abbrev pub least_with_commit : ℕ
least_with_commit = 568

-- ==== A log that damage has cut short, and no crash (the SQLite file format, section 4, "The WAL file
-- format").  A commit is written after all frames that an earlier commit has synced
-- The place after its last frame lacks the log's salts until the next commit is written there. Take the
-- frames that follow one another with these salts, from the first that recovery does not accept: a crash
-- leaves the end of one commit at most among them. Two ends were written by two commits, and the first commit
-- was synced before the second began. So the first was damaged afterwards.

-- frame i, counted from 0, is whole
abbrev pub is_frame_whole : ℕ → List ℕ → ℕ → Bool
is_frame_whole page log i = nat_le (frame_at page i + (24 + page)) (length log)

-- a frame has the salts of the header `head`: eight bytes at 8 of the frame, and at 16 of the header
abbrev pub has_salts : List ℕ → List ℕ → Bool
has_salts head frame = bytes_eq (part frame 8 8) (part head 16 8)

-- frame i is whole, and has the log's salts: it was written since the log was last emptied
abbrev pub is_salted : ℕ → List ℕ → ℕ → Bool
is_salted page log i = is_frame_whole page log i && has_salts (header log) (frame page log i)

-- a frame ends a commit
abbrev pub ends_commit : List ℕ → Bool
ends_commit frame = not (commit_size frame == 0)

-- how many of the n frames from `from` on end a commit
unfoldable pub ends_in : ℕ → List ℕ → ℕ → ℕ → ℕ
ends_in page log from zero = 0
ends_in page log from (suc n) =
    ends_in page log from n + (if ends_commit (frame page log (from + n)) then 1 else 0)

-- just n frames from frame `from` on have the log's salts: the next one is not whole or lacks the salts
pub record IsRunOfFrames (page : ℕ) (log : List ℕ) (from n : ℕ) : Type 0 where
  pub salted : (i : ℕ) → i < n → is_salted page log (from + i) ≡ true
  pub ended : is_salted page log (from + n) ≡ false

-- A log of pages of `page` bytes is damaged at frame `stop`, and loses `commits` commits: recovery stops at
-- that frame, and in the run of frames with the log's salts from there on two commits end or more.
pub record IsDamagedAt (page : ℕ) (log : List ℕ) (stop commits : ℕ) : Type 0 where
  pub head : IsHeader page (header log)
  pub size : IsPageSize page
  pub taken : (i : ℕ) → i < stop → Passes page log i
  pub refused : ¬ Passes page log stop
  pub frames : ℕ
  pub run : IsRunOfFrames page log stop frames
  pub lost : commits ≡ ends_in page log stop frames
  pub several : 2 ≤ commits

-- the log is damaged at a frame, and loses so many commits: with pages of the size that its header names
abbrev pub IsDamaged : List ℕ → ℕ → ℕ → Type 0
IsDamaged log = IsDamagedAt (be32 (header log) 8) log

-- how many bytes a damaged log has at least: a header, and two frames of the smallest pages
abbrev pub least_damaged : ℕ
least_damaged = 1_104

-- a log's state: it is sound if it is damaged at no frame; else the frame, and the number of lost commits
abbrev pub IsStateOf : List ℕ → WalState → Type 0
IsStateOf log Sound = (stop commits : ℕ) → ¬ IsDamaged log stop commits
IsStateOf log (Damaged stop commits) = IsDamaged log stop commits

-- ==== How far a log was read, frame by frame
-- Here `bytes` is the buffer for a frame, and `left` is what is still to be read; frames are counted from 0.

-- what is still to be read begins at frame n
abbrev pub IsBefore : ℕ → List ℕ → ℕ → Option (List ℕ) → Type 0
IsBefore page log n left = left ≡ Some (drop (frame_at page n) log)

-- frame n is whole and in the buffer, and what is still to be read begins after it
pub record HasFrame (page : ℕ) (log : List ℕ) (n : ℕ) (bytes : List ℕ) (left : Option (List ℕ)) : Type 0 where
  pub whole : is_frame_whole page log n ≡ true
  pub same : bytes ≡ frame page log n
  pub behind : IsBefore page log (suc n) left

-- the result of reading frame n: true if it is in the buffer, false if the log ends within it
abbrev pub IsNext : ℕ → List ℕ → ℕ → List ℕ → Option (List ℕ) → Bool → Type 0
IsNext page log n bytes left true = HasFrame page log n bytes left
IsNext page log n bytes left false = is_frame_whole page log n ≡ false

-- recovery accepts the first n frames and not the next, which is in the buffer
pub record IsStop (page : ℕ) (log : List ℕ) (n : ℕ) (bytes : List ℕ) (left : Option (List ℕ)) : Type 0 where
  pub taken : (i : ℕ) → i < n → Passes page log i
  pub refused : ¬ Passes page log n
  pub next : HasFrame page log n bytes left

-- recovery accepts all whole frames: those before frame n, the first that is not whole
abbrev pub IsAllTaken : ℕ → List ℕ → Type 0
IsAllTaken page log = (n : ℕ) × (is_frame_whole page log n ≡ false) × ((i : ℕ) → i < n → Passes page log i)

-- the frame at which recovery stops: its number, and it is in the buffer; None if it accepts all whole frames
abbrev pub StopsAt : ℕ → List ℕ → List ℕ → Option (List ℕ) → Option ℕ → Type 0
StopsAt page log bytes left None = IsAllTaken page log
StopsAt page log bytes left (Some n) = IsStop page log n bytes left

-- so many commits end in the run of frames with the log's salts from frame n on
pub record LosesCommits (page : ℕ) (log : List ℕ) (n commits : ℕ) : Type 0 where
  pub frames : ℕ
  pub run : IsRunOfFrames page log n frames
  pub lost : commits ≡ ends_in page log n frames

-- the state of a log in which recovery stops at frame n: sound if fewer than two commits are lost
abbrev pub IsStopState : ℕ → List ℕ → ℕ → WalState → Type 0
IsStopState page log n Sound = (commits : ℕ) × LosesCommits page log n commits × (commits < 2)
IsStopState page log n (Damaged stop commits) = (stop ≡ n) × LosesCommits page log n commits × (2 ≤ commits)

-- at least `count` bytes were read: what was still to be read before and after, and the count
abbrev pub HasRead : Option (List ℕ) → Option (List ℕ) → ℕ → Type 0
HasRead None now count = ⊤
HasRead (Some old) None count = ⊥
HasRead (Some old) (Some now) count = count + length now ≤ length old

-- the most reads that fill one buffer, for a header or a frame: a limit of the desk
abbrev pub most_reads : ℕ
most_reads = 2 ^ 32 - 1

-- why a log was not checked to its end: reading was given up; or the log has 2 ^ 64 bytes or more
abbrev pub IsUnchecked : Option (List ℕ) → WalError → Type 0
IsUnchecked log (Unread reads) = HaveGivenUp most_reads reads
IsUnchecked log Endless = IfSome log (λ bytes. 2 ^ 64 ≤ length bytes)
