-- The paths of a desk's open files, how files are opened, and the steps of a folder.
use Rattle.std.specs.Prelude.{◌≡◌, ◌⊎◌, ℕ, List, [], ◌∷◌, Bool, true, false, Option, None, Some, Result, Ok, Err}
use Rattle.std.specs.declared.io.ErrorKind.{ErrorKind}
use Rattle.desk_wire.specs.Streams.{course, Course}
use Rattle.desk_program.specs.Serving.{Grows}
use Rattle.host_files.specs.declared.naming.Folder as folder
use Rattle.host_files.specs.{Naming.Steps, Naming.log_of, Access.Answers, declared.files.Found.Found, declared.files.Identity.Identity, declared.paths.LocalOpenPaths.LocalOpenPaths}
use Rattle.host_files.specs.declared.files.HostFiles as files

-- the steps that a `Folder` has taken, before a call and after it
abbrev pub steps_of : {P : Type 0} → folder.Ghosts P → P → P → Steps
steps_of p before now = course (p.steps before) (p.steps now)

-- between two states of the machine, the file at a path is opened as SQLite does once at most, and no other
abbrev pub OpensAtMost : {F R : Type 0} → files.Ghosts F R → List ℕ → F → F → Type 0
OpensAtMost f path before now = (f.openings now ≡ f.openings before)
    ⊎ Grows (f.openings before) (f.openings now) (path ∷ [])

-- ==== OpenPaths: the checks of the paths of a desk's open files, which are made before each change
-- a check: whether the path of the database file, or that of its WAL, leads to the file that is open
pub data Look : Type 0 where
  File : Bool → Look
  Log : Bool → Look

-- both paths are checked in this order, and lead to the open files (true); or one of them doesn't, and no
-- more is checked (false)
abbrev pub AreAtPaths : Course (Option (List Look)) → Bool → Type 0
AreAtPaths looks true = Grows looks.before looks.after (File true ∷ Log true ∷ [])
AreAtPaths looks false = Grows looks.before looks.after (File false ∷ [])
    ⊎ Grows looks.before looks.after (File true ∷ Log false ∷ [])

-- the path of a file's WAL: beside the file to which the path leads, or beside the path if it leads nowhere
abbrev pub log_by : List ℕ → Result (List ℕ) ErrorKind → List ℕ
log_by path (Ok real) = log_of real
log_by path (Err error) = log_of path

abbrev pub log_at : Answers → List ℕ → List ℕ
log_at it path = log_by path (it.real path)

-- the identity of the file to which a path leads, if it leads to one
abbrev pub identity_of : Result Found ErrorKind → Option Identity
identity_of (Ok found) = Some found.identity
identity_of (Err error) = None

abbrev pub identity_at : Answers → List ℕ → Option Identity
identity_at it path = identity_of (it.found path)

-- the paths of a file, while no file is noted as open and nothing was reported
pub record IsUnheldAt (file : List ℕ) (paths : LocalOpenPaths) : Type 0 where
  pub path : paths.file.now ≡ file
  pub no_file : paths.held_file ≡ None
  pub no_log : paths.held_log ≡ None
  pub unreported : paths.is_reported ≡ false
