-- What a commit of a first page in order comes to.
use Rattle.std.proofs.Common.{◌≡◌, ◌≢◌, ◌⊎◌, ◌∙◌, ◌&&◌, ◌+◌, ℕ, Bool, true, false, List, [], ◌∷◌, Some, None, IsSome, Result, Ok, Err, OnOk, IsTrue, cond, ap, ap₂, inl, inr, refl, subst, sym}
use Rattle.std.proofs.lemmas.Bool.{true≢false}
use Rattle.sqlite_disk.specs.declared.Disk.{Ghosts}
use Rattle.sqlite_disk.specs.declared.Files.{Files}
use Rattle.sqlite_disk.specs.Events.{Event, replay, settled as begun}
use Rattle.sqlite_disk.specs.History.{MayLeave as MayStay}
use Rattle.sqlite_wal.specs.Files.{outcomes, seen_image}
use Rattle.sqlite_wal.specs.Format.{be32}
use Rattle.sqlite_wal.specs.Outcome.{FailsFor, HasCause, OnlyIf}
use Rattle.sqlite_wal.specs.PageSize.{IsPageSize, Names, bytes_of, size_in_file}
use Rattle.sqlite_wal.specs.declared.page_size.PageSize.{PageSize}
use Rattle.sqlite_wal.specs.Reads.{AreClean, OnlyReads}
use Rattle.sqlite_wal.specs.Recovery.{AddsNothing, AreWhole, Image, IsIgnored, IsUnreadable, Pages, Recovers, RecoversAs}
use Rattle.sqlite_wal.specs.State.{IsSettled, Keeps, MayCommit, State, StaysOrFails}
use Rattle.sqlite_wal.specs.declared.error.Error.{Error}
use Rattle.sqlite_wal.specs.declared.error.Error.TheVariants.{Corrupt, Full}
use Rattle.sqlite_wal.proofs.LogLemmas.{SeenMayStay}
use Rattle.sqlite_wal.proofs.OutcomeLemmas.{HasCause-weaker}
use Rattle.sqlite_pager.specs.Pager.{IsAtLimit, IsClean, RefusesCommit, RefusesPage, RefusesWrite, files, image, state, visible}
use Rattle.sqlite_pager.specs.declared.pager.Pager.{Pager}
use Rattle.sqlite_pager.proofs.PagerLemmas.{settled}
use Rattle.db_file.specs.Orders.{AreAsOpened, IsInOrder, IsLeft, IsFreshPager, IsUncommitted, IsUnread, LeavesInOrder, LeavesOrdered, MayOrder, NamesSize, OrdersFirst, RefusesFiles, RefusesFirst, faults_of, image_of, in_order, leaves}
use Rattle.db_file.specs.declared.committing.Left.{Left}
use Rattle.db_file.specs.declared.committing.Left.TheVariants as kind

-- what holds of a call that ended well, from two clauses on it
pub on_both : {T E A B C : Type 0} (r : Result T E) → OnOk r A → OnOk r B → (A → B → C) → OnOk r C
on_both (Ok it) a b f = f a b
on_both (Err e) a b f = tt

and_right : (a b : Bool) → IsTrue (a && b) → IsTrue b
and_right a true both = refl
and_right true false both = both
and_right false false both = both

-- what is open takes no lie for true
pub clean_if_open : (it : State) → IsTrue it.is_open → IsTrue it.is_clean
clean_if_open it live = and_right it.is_ready it.is_clean (subst IsTrue it.open_is live)

-- the first page was written over
pub orders_first : (seen mid wrote : Pages) (page new : List ℕ) → mid ≡ seen → seen 1 ≡ Some page
    → wrote 1 ≡ Some new → new ≡ in_order page → ((n : ℕ) → n ≢ 1 → wrote n ≡ mid n) → OrdersFirst seen wrote
orders_first seen mid wrote page new same was is order others = record {
  page = page;
  was = was;
  is = is ∙ ap Some order;
  others = λ n other. others n other ∙ ap (λ pages. pages n) same;
}

adds_none : (size : ℕ) (a b c : Image → Type 0) → AddsNothing size a b → AddsNothing size b c
    → AddsNothing size a c
adds_none size a b c first next image may =
    let mid = next image may in
    let before = first mid.0 mid.1 in
    (before.0, before.1, λ pages recovers. mid.2 pages (before.2 pages recovers))

module _ (old mid wrote : State) (read : Keeps old mid) (write : Keeps mid wrote) where
  both_add : AddsNothing old.page_size old.may_leave wrote.may_leave
  both_add = adds_none old.page_size old.may_leave mid.may_leave wrote.may_leave read.crash
      (subst (λ size. AddsNothing size mid.may_leave wrote.may_leave) read.stays.size write.crash)

  -- nothing is committed
  pub order_kept : (seen : Pages) → MayOrder old seen wrote
  order_kept seen image may = inl (both_add image may)

  -- these pages are committed
  pub order_commits : (new : State) (seen pages : Pages) → MayCommit wrote pages new
      → (IsTrue wrote.is_open → OrdersFirst seen pages) → MayOrder old seen new
  order_commits new seen pages commit ordered image may =
      let size : wrote.page_size ≡ old.page_size = write.stays.size ∙ read.stays.size in
      elim (commit.crash image may) [
        | inl it ↦
            let before = both_add it.0 it.1 in
            let last = subst (λ n. RecoversAs n it.0 image) size it.2 in
            inl (before.0, before.1, λ its recovers. last its (before.2 its recovers))
        | inr it ↦ inr (record {
          pages = pages;
          ordered = ordered it.0;
          recovers = subst (λ n. Recovers n image pages) size it.1;
        })
      ]

-- ---- what a commit comes to

-- a call fails for what each of its steps may fail for
pub fails_weaker : {T : Type 0} (r : Result T Error) (Clean : Type 0) (old new : ℕ) (P Q : Error → Type 0)
    → ((e : Error) → r ≡ Err e → Clean → P e → Q e) → FailsFor r Clean old new P → FailsFor r Clean old new Q
fails_weaker (Ok it) Clean old new P Q weaker fails = fails
fails_weaker (Err e) Clean old new P Q weaker fails =
    (λ clean. HasCause-weaker old new old new P Q e (λ more. more) (weaker e refl clean) (fails.0 clean), fails.1)

pub settled_if : {T : Type 0} {D : Type 0} {g : Ghosts D} (r : Result T Error) (it : Pager D g) → SeenMayStay g
    → OnOk r (IsTrue (state it).is_clean → IsClean it)
    → OnOk r (IsTrue (state it).is_clean → IsSettled (state it))
settled_if (Ok u) it stays clean = λ is. settled it (clean is).0 stays
settled_if (Err e) it stays clean = tt

module _ {D : Type 0} {g : Ghosts D} (old mid : Pager D g)
    (ready : (state mid).is_ready ≡ (state old).is_ready) (pages : visible mid ≡ visible old)
  where
    pub page_refused : (e : Error) → RefusesPage mid 1 e → RefusesPage old 1 e
    page_refused e (inl shut) = inl (shut.0, sym ready ∙ shut.1)
    page_refused e (inr none) = inr (none.0, ap (λ (p : Pages). p 1) (sym pages) ∙ none.1)

    -- the page was not written
    pub write_fails : {T : Type 0} (r : Result T Error) (new : Pager D g)
        → (state mid).faults ≡ (state old).faults → (r ≡ Err Full → IsAtLimit new)
        → FailsFor r (IsTrue (state new).is_clean) (state mid).faults (state new).faults (RefusesWrite mid 1)
        → FailsFor r (IsTrue (state new).is_clean) (state old).faults (state new).faults (RefusesFirst old new)
    write_fails r new same full fails =
        fails_weaker r (IsTrue (state new).is_clean) (state old).faults (state new).faults (RefusesWrite mid 1)
        (RefusesFirst old new) (λ e is clean. λ refused. elim refused [
          | inl page ↦ inl (page_refused e page)
          | inr long ↦ inr (long.0, full (is ∙ ap Err long.0))
        ]) (subst (λ n. FailsFor r (IsTrue (state new).is_clean) n (state new).faults (RefusesWrite mid 1))
        same fails)

-- what was written was not committed
pub commit_fails : {T : Type 0} {D : Type 0} {g : Ghosts D} (r : Result T Error) (old wrote new : Pager D g)
    → IsTrue (state wrote).is_ready → (state wrote).faults ≡ (state old).faults → (r ≡ Err Full → IsAtLimit new)
    → FailsFor r (IsTrue (state new).is_clean) (state wrote).faults (state new).faults (RefusesCommit wrote)
    → FailsFor r (IsTrue (state new).is_clean) (state old).faults (state new).faults (RefusesFirst old new)
commit_fails r old wrote new ready same full fails =
    fails_weaker r (IsTrue (state new).is_clean) (state old).faults (state new).faults (RefusesCommit wrote)
    (RefusesFirst old new) (λ e is clean. λ refused. elim refused [
      | inl shut ↦ absurd (true≢false (sym ready ∙ shut.1))
      | inr long ↦ inr (long.0, full (is ∙ ap Err long.0))
    ]) (subst (λ n. FailsFor r (IsTrue (state new).is_clean) n (state new).faults (RefusesCommit wrote)) same fails)

-- ---- files that are recovered, and then put in order

no_page : (pages : Pages) → IsSome (pages 1) → pages 1 ≡ None → ⊥
no_page pages some none = let shut : IsSome {T = List ℕ} None = subst IsSome none some in cc

module _ {D : Type 0} {g : Ghosts D} (old found new : Pager D g)
    (size : (state found).page_size ≡ (state old).page_size)
    (clean : IsTrue (state found).is_clean → IsClean found)
    (recovers : IsTrue (state found).is_clean
    → Recovers (state old).page_size (image old) (state found).committed)
    (stays : StaysOrFails (state found) (state new))
  where
    pub finds_and_orders : {T : Type 0} (r : Result T Error)
        → OnOk r (IsTrue (state new).is_clean → OrdersFirst (visible found) (state new).committed)
        → OnOk r (IsTrue (state new).is_clean → IsSettled (state new))
        → OnOk r (IsTrue (state new).is_clean → IsInOrder (image old) (state new))
    finds_and_orders r ordered settles = on_both r ordered settles (λ orders ends is. record {
      seen = (state found).committed;
      found = subst (λ n. Recovers n (image old) (state found).committed) (sym (stays.size ∙ size))
          (recovers (stays.clean is));
      ordered = subst (λ p. OrdersFirst p (state new).committed) (clean (stays.clean is)).1 (orders is);
      settled = ends is;
    })

    pub leaves_ordered : AddsNothing (state old).page_size (state old).may_leave (state found).may_leave
        → MayOrder (state found) (visible found) (state new)
        → LeavesOrdered (state old).page_size (image old) (state old).may_leave (state new).may_leave
    leaves_ordered adds may left is = elim (may left is) [
      | inl it ↦
          let before = adds it.0 it.1 in
          let last = subst (λ n. RecoversAs n it.0 left) size it.2 in
          inl (before.0, before.1, λ pages recovered. last pages (before.2 pages recovered))
      | inr it ↦
          let same = (clean (stays.clean is.0)).1 in
          inr (
            (state found).committed,
            recovers (stays.clean is.0),
            subst (λ p. LeavesInOrder (state old).page_size p left) same
                (subst (λ n. LeavesInOrder n (visible found) left) size it),
          )
    ]

    module _ (stay : SeenMayStay g) where
      whole : IsTrue (state new).is_clean → AreWhole (state found).page_size (state found).committed
      whole is = (settled found (clean (stays.clean is)).0 stay).whole

      -- what was put in order stood for a database
      pub still_readable : IsUnreadable (state old).page_size (image old) → (left : Image)
          → (state new).may_leave left → (state old).may_leave left
      still_readable none left is =
          absurd (none (state found).committed (recovers (stays.clean is.0))
          (subst (λ n. AreWhole n (state found).committed) size (whole is.0)))

      pub order_fails : {T : Type 0} (r : Result T Error) → IsTrue (state found).is_ready
          → (state found).faults ≡ (state old).faults
          → FailsFor r (IsTrue (state new).is_clean) (state found).faults (state new).faults (RefusesFirst found new)
          → FailsFor r (IsTrue (state new).is_clean) (state old).faults (state new).faults
          (RefusesFiles (state old).page_size (image old) new)
      order_fails r ready same fails =
          fails_weaker r (IsTrue (state new).is_clean) (state old).faults (state new).faults (RefusesFirst found new)
          (RefusesFiles (state old).page_size (image old) new) (λ e is ends. λ refused. elim refused [
            | inl (inl shut) ↦ absurd (true≢false (sym ready ∙ shut.1))
            | inl (inr none) ↦ absurd (no_page (state found).committed (whole ends).first
                (ap (λ (p : Pages). p 1) (sym (clean (stays.clean ends)).1) ∙ none.1))
            | inr long ↦ inr long
          ]) (subst (λ n. FailsFor r (IsTrue (state new).is_clean) n (state new).faults (RefusesFirst found new))
          same fails)

-- ---- the files themselves

abbrev pub image_from : List ℕ → List ℕ → Image
image_from log db = record { log = log; db = db }

module _ {D : Type 0} {g : Ghosts D} (old read : Files D) (log : OnlyReads g old.log read.log)
    (db : OnlyReads g old.db read.db)
  where
    pub over_read : (it : Pager D g) → files it ≡ (read.log, read.db) → faults_of g read ≡ faults_of g old
        → (AreClean g read.log read.db → NamesSize (image_of g old) (state it).page_size) → IsFreshPager old it
    over_read it is faults sized = record {
      usable = subst (λ (p : D × D). IsTrue (g.is_usable p.0) × IsTrue (g.is_usable p.1)) (sym is)
          (log.usable, db.usable);
      same = ap (λ (p : D × D). seen_image g p.0 p.1) is ∙ ap₂ image_from log.seen db.seen;
      faults = ap (λ (p : D × D). g.faults p.0 + g.faults p.1) is ∙ faults;
      crash = λ left may.
          let now = subst (λ (p : D × D). outcomes g p.0 p.1 left) is may.1 in
          (log.crash left.log now.0, db.crash left.db now.1);
      sized = λ clean. sized (subst (λ (p : D × D). AreClean g p.0 p.1) is clean);
    }

    -- whatever kept them from more
    pub unread : (e : Error)
        → (AreClean g read.log read.db → HasCause (faults_of g old) (faults_of g read)
        (OnlyIf Corrupt ((size : ℕ) → NamesSize (image_of g old) size → ¬ IsPageSize size)) e)
        → IsUnread g (image_of g old) (leaves g old) (faults_of g old) e read
    unread e cause =
        record { cause = cause; crash = λ left may. (log.crash left.log may.0, db.crash left.db may.1) }

-- the size that is named
pub size_named : (was : Image) (size : PageSize) (Clean : Type 0)
    → (Clean → ¬ IsIgnored was.log → Names (Some size) (be32 was.log 8))
    → (Clean → IsIgnored was.log → Names (Some size) (size_in_file was.db))
    → Clean → NamesSize was (bytes_of size)
size_named was size Clean by_log by_file clean =
    (λ some. (by_log clean some).1, λ none. (by_file clean none).1)

none_names : (n : ℕ) → Names None n → ¬ IsPageSize n
none_names n names is = let some : IsSome {T = PageSize} None = names.0.1 is in cc

-- no size is named
pub none_named : (was : Image) (Clean : Type 0) → (Clean → ¬ IsIgnored was.log → Names None (be32 was.log 8))
    → (Clean → IsIgnored was.log → Names None (size_in_file was.db))
    → Clean → (size : ℕ) → NamesSize was size → ¬ IsPageSize size
none_named was Clean by_log by_file clean size names is =
    let some : ¬ IsIgnored was.log = λ none. none_names _ (by_file clean none) (subst IsPageSize (names.1 none) is) in
    none_names _ (by_log clean some) (subst IsPageSize (names.0 some) is)

-- what a crash leaves, once
abbrev Left_or : ℕ → Image → (Image → Type 0) → Image → Type 0
Left_or size was old left = ((before : Image) × old before × RecoversAs size before left)
    ⊎ ((seen : Pages) × Recovers size was seen × LeavesInOrder size seen left)

-- what is left of files whose pages were recovered
pub uncommitted : {D : Type 0} {g : Ghosts D} (old : Files D) (over it : Pager D g) (size : ℕ) (e : Error)
    → IsFreshPager old over → (state over).page_size ≡ size → (state it).page_size ≡ size
    → (IsTrue (state it).is_clean → IsTrue (state over).is_clean)
    → (IsTrue (state it).is_clean
    → HasCause (state over).faults (state it).faults (RefusesFiles size (image over) it) e)
    → LeavesOrdered size (image over) (state over).may_leave (state it).may_leave
    → (IsUnreadable size (image over) → (left : Image) → (state it).may_leave left → (state over).may_leave left)
    → IsUncommitted (image_of g old) (leaves g old) (faults_of g old) e it
uncommitted {g = g} old over it size e is was now clean cause crash none =
    let same = was ∙ sym now in record {
      sized = λ ends. subst (NamesSize (image_of g old)) same (is.sized (clean ends));
      cause = λ ends.
          let by : Image → ℕ → ℕ → Type 0 = λ i n f. HasCause f (state it).faults (RefusesFiles n i it) e in
          subst (by (image_of g old) (state it).page_size) is.faults
          (subst (λ i. by i (state it).page_size (state over).faults) is.same
          (subst (λ n. by (image over) n (state over).faults) (sym now) (cause ends)));
      crash = λ left may. elim (subst (λ i. Left_or (state it).page_size i (state over).may_leave left) is.same
          (subst (λ n. Left_or n (image over) (state over).may_leave left) (sym now) (crash left may))) [
            | inl it ↦ inl (it.0, is.crash it.0 it.1, it.2)
            | inr it ↦ inr it
          ];
      none = λ unreadable left may. is.crash left (none (subst (λ i. IsUnreadable size i) (sym is.same)
          (subst (λ n. IsUnreadable n (image_of g old)) now unreadable)) left may);
    }

-- ---- files as they were opened

module _ {D : Type 0} {g : Ghosts D} (was now : Image) (old new : Image → Type 0) (faults count : ℕ)
    (same : was ≡ now) (counted : faults ≡ count) (within : (image : Image) → old image → new image)
  where
    pub left_since : (it : Left D g) → IsLeft was old faults it → IsLeft now new count it
    left_since (kind.Unread e read) is =
        let by : Image → ℕ → Type 0 = λ i n. HasCause n (faults_of g read)
        (OnlyIf Corrupt ((size : ℕ) → NamesSize i size → ¬ IsPageSize size)) e in record {
          cause = λ clean. subst (by now) counted (subst (λ i. by i faults) same (is.cause clean));
          crash = λ image may. within image (is.crash image may);
        }
    left_since (kind.Uncommitted e it) is =
        let by : Image → ℕ → Type 0 = λ i n. HasCause n (state it).faults
        (RefusesFiles (state it).page_size i it) e in record {
          sized = λ clean. subst (λ i. NamesSize i (state it).page_size) same (is.sized clean);
          cause = λ clean. subst (by now) counted (subst (λ i. by i faults) same (is.cause clean));
          crash = λ image may. elim (subst (λ i. Left_or (state it).page_size i old image) same
              (is.crash image may)) [
                | inl before ↦ inl (before.0, within before.0 before.1, before.2)
                | inr seen ↦ inr seen
              ];
          none = λ unreadable image may. within image (is.none
              (subst (λ i. IsUnreadable (state it).page_size i) (sym same) unreadable) image may);
        }

-- what is left of files that were as they were opened
pub left_of : {D : Type 0} {g : Ghosts D} (files : Files D) (was : Image) → AreAsOpened g files was
    → (it : Left D g) → IsLeft (image_of g files) (leaves g files) (faults_of g files) it
    → IsLeft was (λ image. image ≡ was) 0 it
left_of {g = g} files was opened it is =
    left_since (image_of g files) was (leaves g files) (λ image. image ≡ was) (faults_of g files) 0 opened.held
    opened.sound opened.synced it is

-- what a crash may leave of a file after these calls, the newest first
abbrev MayStayIn : Bool → List ℕ → List ℕ → Bool → List Event → List ℕ → Type 0
MayStayIn mixes log db is_log calls c =
    let m = replay (cond is_log log db) calls in MayStay mixes m.seen m.synced m.steps c

-- a file that was synced and had no call since stays as it is
pub stays_as_is : (mixes : Bool) (log db : List ℕ) (is_log which : Bool) (calls : List Event) (key : ℕ)
    → is_log ≡ which → calls ≡ begun key ∷ [] → (c : List ℕ) → MayStayIn mixes log db is_log calls c
    → c ≡ cond which log db
stays_as_is mixes log db is_log which calls key is fresh c may =
    elim (subst (λ calls. MayStayIn mixes log db which calls c) fresh
    (subst (λ b. MayStayIn mixes log db b calls c) is may)) [ inl seen ↦ seen | inr synced ↦ synced ]
