-- What a start finds in what is left of files that were not opened.
use Rattle.std.proofs.Common.{◌⊎◌, ◌≡◌, ◌≤◌, ℕ, ◌+◌, ◌*◌, ◌%◌, eq-eqb, ne_eqb, Bool, cond, List, [], ◌∷◌, Option, Some, None, IsTrue, refl, sym, ap, subst, ◌∙◌, inl, inr, arith}
use Rattle.std.proofs.lemmas.Bool.{cases_eq}
use Rattle.std.proofs.Math.Logic.{∥∥₁_elim, ∥∥₁_map}
use Rattle.std.specs.Prelude.{IfErr, IfSome, Result, Ok, Err}
use Rattle.std.specs.Option.{IsSomeAnd}
use Rattle.sqlite_disk.specs.declared.Disk as disk
use Rattle.sqlite_disk.specs.declared.Files.{Files}
use Rattle.sqlite_disk.specs.Events.{Event, replay, settled}
use Rattle.sqlite_disk.specs.History.{MayLeave as MayStay}
use Rattle.sqlite_wal.specs.Files.{outcomes}
use Rattle.sqlite_wal.specs.Format.{be32}
use Rattle.sqlite_wal.specs.PageSize.{IsPageSize}
use Rattle.sqlite_wal.specs.Recovery.{Image, IsIgnored, Pages}
use Rattle.sqlite_wal.specs.Recovery as raw
use Rattle.sqlite_wal.proofs.RecoveryLemmas.{recovers_once}
use Rattle.sqlite_pool.specs.Stored.{is_summed, reserved, stored_size, StandsAs}
use Rattle.sqlite_pool.proofs.ProbeLemmas.{reserved_word, size_by_file, size_by_log}
use Rattle.sqlite_store.specs.Unopened.{state_of}
use Rattle.sqlite_store.specs.FileStore as file
use Rattle.sqlite_store.specs.declared.store.FileStore.{FileStore}
use Rattle.sqlite_trees.specs.Tree.{Trees}
use Rattle.sqlite.specs.Opening.{HoldsIn}
use Rattle.sqlite.specs.State.{State}
use Rattle.sqlite.specs.Start.{FindsIn}
use Rattle.sqlite.specs.Held.{Held}
use Rattle.sqlite.specs.Files.{file_state, image_of, AreFoundIn, HoldsDatabase, IsCleanLeft, IsNothing, LeavesFiles, NamesSize, SaysSums}
use Rattle.sqlite.specs.declared.file.Leftover.{Leftover}
use Rattle.sqlite.specs.declared.file.Leftover.TheVariants as left
use Rattle.sqlite.proofs.FileLemmas.{is_something}
use Rattle.sqlite.proofs.Theorems.{opens_again}
use Rattle.table_load.specs.Files.{FindsFirst, IsUnread, IsUnreached, IsFoundAfter, IsImageLeft, IsKeptBySqlite, IsLeftOf, MayRemain, RemainsOf}
use Rattle.table_load.specs.declared.path.NotOpened.{NotOpened}

-- what a crash may leave of a file after these calls, the newest first
abbrev MayStayIn : Bool → List ℕ → List ℕ → Bool → List Event → List ℕ → Type 0
MayStayIn mixes log db is_log calls c =
    let m = replay (cond is_log log db) calls in MayStay mixes m.seen m.synced m.steps c

-- a file that was synced and had no call since stays as it is
pub stays_as_is : (mixes : Bool) (log db : List ℕ) (is_log which : Bool) (calls : List Event) (key : ℕ)
    → is_log ≡ which → calls ≡ settled key ∷ [] → (c : List ℕ) → MayStayIn mixes log db is_log calls c
    → c ≡ cond which log db
stays_as_is mixes log db is_log which calls key is fresh c may =
    elim (subst (λ calls. MayStayIn mixes log db which calls c) fresh
    (subst (λ b. MayStayIn mixes log db b calls c) is may)) [ inl seen ↦ seen | inr synced ↦ synced ]

-- what is left of files that were synced
left_if : {D T : Type 0} {g : disk.Ghosts D} (image : Image) (files : Files D) (value : T → Leftover D g)
    → image_of g files ≡ image → ((next : Image) → outcomes g files.log files.db next → next ≡ image)
    → (o : Option T) → IsSomeAnd o (λ s. IsCleanLeft (value s) → LeavesFiles files (value s))
    → IfSome o (λ s. IsLeftOf image (value s))
left_if image files value held synced None is = tt
left_if image files value held synced (Some s) is =
    record { files = files; held = held; synced = synced; left = is }

-- pages end in sums of eight bytes, or in none
reserved_is : (size : ℕ) → ((reserved size ≡ 8) × IsTrue (is_summed size))
    ⊎ ((reserved size ≡ 0) × (¬ IsTrue (is_summed size)))
reserved_is size = elim (cases_eq (size % 16) 8) [
  | inl is ↦ inl (rw (eq-eqb (size % 16) 8 is) (refl, refl))
  | inr other ↦ inr (rw (ne_eqb (size % 16) 8 other) (refl, λ is. cc))
]

-- files that were not opened are reported so, with what is left of them
pub unread_if : {D V : Type 0} {g : disk.Ghosts D} (image : Image) (files : Files D)
    → image_of g files ≡ image → ((next : Image) → outcomes g files.log files.db next → next ≡ image)
    → (r : Result V (NotOpened D g))
    → IfErr r (λ it. IsUnread it.fault)
    → IfErr r (λ it. IsSomeAnd it.left (λ s. IsCleanLeft s.value → LeavesFiles files s.value))
    → IfErr r (IsUnreached image)
unread_if image files held synced (Ok v) unread left = tt
unread_if image files held synced (Err it) unread left =
    record { unread = unread; left = left_if image files (λ s. s.value) held synced it.left left }

-- what the first page of a database says
module _ (image : Image) (db : Trees) (held : HoldsDatabase image db) where
  large : 504 ≤ held.0
  large = let few : reserved held.0 ≤ 8 = grind arith in omega (arith, held.1.0)

  same_stored : (size : ℕ) → NamesSize image size → stored_size held.0 ≡ size
  same_stored size names = elim (cases_eq (stored_size held.0) size) [
    | inl same ↦ same
    | inr other ↦
        let read = λ (seen : ¬ IsIgnored image.log). other
        (sym (size_by_log held.0 image held.2.pages held.2.found seen) ∙ sym (names.0 seen)) in
        absurd (read (λ ignored. other (sym (size_by_file held.0 image held.2.pages held.2.found large
        held.2.ours.file.sound ignored) ∙ sym (names.1 ignored))))
  ]

  -- its first page says whether there are sums
  says_sums : (size : ℕ) → stored_size held.0 ≡ size → reserved held.0 ≡ 8 → SaysSums size image
  says_sums size same summed pages first found is len =
      let (page, at, long, word, magic) =
      reserved_word held.0 image held.2.pages held.2.found large held.2.ours.file.sound in
      let once : pages ≡ held.2.found.stored =
      recovers_once size image pages held.2.found.stored found
      (subst (λ s. raw.Recovers s image held.2.found.stored) same held.2.found.found) in
      let both : Some first ≡ Some page = sym is ∙ ap (λ (p : Pages). p 1) once ∙ at in
      let equal : first ≡ page = cc in
      ap (λ b. be32 b 20) equal ∙ word ∙ ap (λ n. n * 0x100_0000 + 0x0040_2020) summed

  has_checksums : (size : ℕ) → stored_size held.0 ≡ size → SaysSums size image → reserved held.0 ≡ 8
  has_checksums size same says =
      let (page, at, long, word, magic) =
      reserved_word held.0 image held.2.pages held.2.found large held.2.ours.file.sound in
      let is : be32 page 20 ≡ 0x0840_2020 = says held.2.found.stored page
      (subst (λ s. raw.Recovers s image held.2.found.stored) same held.2.found.found) at (long ∙ same) in
      omega (arith, word, is)

  same_size : (size : ℕ) → NamesSize image (stored_size size)
      → (IsTrue (is_summed size) → SaysSums (stored_size size) image)
      → (SaysSums (stored_size size) image → IsTrue (is_summed size)) → held.0 ≡ size
  same_size size names says takes =
      let same = same_stored (stored_size size) names in
      let alike : reserved size ≡ reserved held.0 = elim (reserved_is size) [
        | inl (eight, summed) ↦ eight ∙ sym (has_checksums (stored_size size) same (says summed))
        | inr (none, unsummed) ↦ elim (reserved_is held.0) [
          | inl (eight, summed) ↦ absurd (unsummed (takes (says_sums (stored_size size) same eight)))
          | inr (zero, plain) ↦ none ∙ sym zero
        ]
      ] in
      omega (arith, same, alike)

  -- what stands for the same pages holds the same database
  holds_again : (size : ℕ) → held.0 ≡ size → (next : Image) → StandsAs size image next → HoldsDatabase next db
  holds_again size same next stands =
      let it : HoldsIn size image db = subst (λ s. HoldsIn s image db) same held.2 in (
        size,
        subst (λ s. IsPageSize (stored_size s)) same held.1,
        record {
          pages = it.pages;
          wanted = it.wanted;
          schema = it.schema;
          found = stands.1 it.pages it.found;
          ours = it.ours;
          reads = it.reads;
          sound = it.sound;
        },
      )

  -- the trees of a database are found in its files
  found_in : AreFoundIn image db
  found_in = inl (held.0, held.2.pages, held.2.wanted, held.2.found, ∣ held.2.ours ∣₁, held.2.reads)

module _ {D : Type 0} {g : disk.Ghosts D} (files : Files D)
    (synced : (next : Image) → outcomes g files.log files.db next → next ≡ image_of g files)
  where
    -- what is left of files that held a database holds it
    still_held : (it : Leftover D g) → LeavesFiles files it → IsKeptBySqlite (image_of g files) it
        → (next : Image)
        → MayRemain it next → (db : Trees) → HoldsDatabase (image_of g files) db
        → ∥ HoldsDatabase next db ∥₁
    still_held (left.Files now) leaves taken next may db held =
        ∣ subst (λ i. HoldsDatabase i db) (sym (synced next (leaves next may))) held ∣₁
    still_held (left.Unopened now) (inl (nothing, way)) taken next may db held =
        absurd (is_something (image_of g files) db held nothing)
    still_held (left.Unopened now) (inr (some, names, begins, says, kept)) taken next may db held =
        elim ((kept next may).same) [
          | inl old ↦ ∣ subst (λ i. HoldsDatabase i db) (sym (synced next old)) held ∣₁
          | inr stands ↦ ∣ holds_again (image_of g files) db held (state_of now).page_size
              (same_size (image_of g files) db held (state_of now).page_size names says taken) next stands ∣₁
        ]
    still_held (left.Store now) leaves taken next may db held =
        ∥∥₁_map (opens_again now taken.0 taken.1 next may)
        (λ it. subst (HoldsDatabase next) ((leaves it.0 it.1).1 db held) it.2)

    -- what a start finds in it, it would find in the files as they were
    found_again : (it : Leftover D g) → LeavesFiles files it → IsKeptBySqlite (image_of g files) it
        → (next : Image)
        → MayRemain it next → (db : Trees) → HoldsDatabase (image_of g files) db → (s : State)
        → FindsIn next s → ∥ FindsIn (image_of g files) s ∥₁
    found_again (left.Files now) leaves taken next may db held s found =
        ∣ subst (λ i. FindsIn i s) (synced next (leaves next may)) found ∣₁
    found_again (left.Unopened now) (inl (nothing, way)) taken next may db held s found =
        absurd (is_something (image_of g files) db held nothing)
    found_again (left.Unopened now) (inr (some, names, begins, says, kept)) taken next may db held s found =
        elim ((kept next may).same) [
          | inl old ↦ ∣ subst (λ i. FindsIn i s) (synced next old) found ∣₁
          | inr stands ↦
              let size = (state_of now).page_size in
              let holds = λ (other : Trees) (has : HoldsDatabase (image_of g files) other). found.holds other
              (holds_again (image_of g files) other has size
              (same_size (image_of g files) other has size names says taken) next stands) in
              ∣ record {
                holds = holds;
                reads = subst (AreFoundIn (image_of g files)) (sym (holds db held))
                    (found_in (image_of g files) db held);
              } ∣₁
        ]
    found_again (left.Store now) leaves taken next may db held s found =
        ∥∥₁_map (opens_again now taken.0 taken.1 next may) (λ it.
        let is = found.holds it.0 it.2 in
        let was = leaves s.committed.trees (subst (file.recovers now) (sym is) it.1) in
        let r : FindsIn (image_of g files) s = record { holds = was.1; reads = was.0 } in r)

    -- where there was no database there is none, or one with what was found
    none_held : (it : Leftover D g) → LeavesFiles files it → IsKeptBySqlite (image_of g files) it
        → (next : Image)
        → MayRemain it next → IsNothing (image_of g files)
        → IsNothing next ⊎ ∥ ((db : Trees) × HoldsDatabase next db × AreFoundIn (image_of g files) db) ∥₁
    none_held (left.Files now) leaves taken next may nothing =
        inl (subst IsNothing (sym (synced next (leaves next may))) nothing)
    none_held (left.Unopened now) (inl (is, way)) taken next may nothing = elim (way next may) [
      | inl old ↦ inl (subst IsNothing (sym (synced next old)) nothing)
      | inr (inl still) ↦ inl still
      | inr (inr made) ↦ inr (∥∥₁_map made (λ it. let r : (db : Trees) × HoldsDatabase next db
          × AreFoundIn (image_of g files) db = (it.0, it.1, inr (nothing, it.2)) in r))
    ]
    none_held (left.Unopened now) (inr (some, names, begins, says, kept)) taken next may nothing =
        absurd (some nothing)
    none_held (left.Store now) leaves taken next may nothing =
        inr (∥∥₁_map (opens_again now taken.0 taken.1 next may) (λ it. let r : (db : Trees)
        × HoldsDatabase next db × AreFoundIn (image_of g files) db = (it.0, it.2, (leaves it.0 it.1).0) in r))

-- files hold what a crash may have left of files whose opening failed
module _ {E : Type 0} {k : disk.Ghosts E} (image next : Image) (it : Leftover E k)
    (remains : RemainsOf image it next)
  where
    abbrev files : Files E
    files = remains.left.files

    synced : (other : Image) → outcomes k files.log files.db other → other ≡ image_of k files
    synced other may = remains.left.synced other may ∙ sym remains.left.held

    taken : IsKeptBySqlite (image_of k files) it
    taken = subst (λ i. IsKeptBySqlite i it) (sym remains.left.held) remains.taken

    leaves : LeavesFiles files it
    leaves = remains.left.left remains.clean

    pub holds_still : (db : Trees) → HoldsDatabase image db → ∥ HoldsDatabase next db ∥₁
    holds_still db held = still_held files synced it leaves taken next remains.may db
        (subst (λ i. HoldsDatabase i db) (sym remains.left.held) held)

    pub none_still : IsNothing image
        → IsNothing next ⊎ ∥ ((db : Trees) × HoldsDatabase next db × AreFoundIn image db) ∥₁
    none_still nothing =
        subst (λ i. IsNothing next ⊎ ∥ ((db : Trees) × HoldsDatabase next db × AreFoundIn i db) ∥₁)
        remains.left.held (none_held files synced it leaves taken next remains.may
        (subst IsNothing (sym remains.left.held) nothing))

    module _ {D : Type 0} {g : disk.Ghosts D} (found : Held (FileStore D g)) (first : FindsFirst next found)
      where
        pub finds_first : (db : Trees) → HoldsDatabase image db → ∥ FindsFirst image found ∥₁
        finds_first db held =
            let before : ∥ FindsIn image (file_state found) ∥₁ =
            subst (λ i. ∥ FindsIn i (file_state found) ∥₁) remains.left.held
            (found_again files synced it leaves taken next remains.may db
            (subst (λ i. HoldsDatabase i db) (sym remains.left.held) held) (file_state found) first.1) in
            ∥∥₁_map before (λ f. let r : FindsFirst image found = (first.0, f) in r)

        pub found_after : {F : Type 0} {f : disk.Ghosts F} (last : Held (FileStore F f))
            → IsImageLeft last image
            → ∥ IsFoundAfter last found ∥₁
        found_after last by =
            ∥∥₁_elim (opens_again last.store by.connected.numbered by.connected.sound image by.left) squash₁
            (λ db. ∥∥₁_map (finds_first db.0 db.2)
            (λ at. let r : IsFoundAfter last found = record { image = image; files = by; first = at } in r))
