-- The order in which a database file lists its tables and indexes, the checksums of its pages, and the commit
-- that puts it in canonical order.
use Rattle.std.specs.Prelude.{ℕ, ◌==◌, Bool, List, slice_index_or, zero, suc, ◌+◌, ◌-◌, ◌/◌, false, if◌then◌else◌, [], ◌++◌, take, drop, length, ◌*◌, ◌≤◌, nat_lt, nat_le, ◌&&◌, not, true, ◌∷◌, codes, slice_set, Option, None, Some, is_some, option_map, option_and_then, unwrap_or, ◌≡◌, ◌≢◌, ◌⊎◌, IsTrue}
use Rattle.std.specs.{Int.to_le_bytes, Int.w32, Str.bytes_eq}
use Rattle.sqlite_wal.specs.{Format.checksum, Format.be32, PageSize.size_in_file, PageSize.IsPageSize, Files.RefusesToRecover, Files.outcomes, Files.seen_image, Outcome.HasCause, Outcome.OnlyIf, Reads.AreClean, Recovery.Image, Recovery.IsIgnored, Recovery.IsUnreadable, Recovery.Pages, Recovery.Recovers, Recovery.RecoversAs, State.IsSettled, State.State}
use Rattle.sqlite_disk.specs.declared.{Disk.Ghosts, Files.Files}
use Rattle.sqlite_wal.specs.declared.error.{Error.Error, Error.TheVariants.Corrupt, Error.TheVariants.Full}
use Rattle.sqlite_pager.specs.Pager.{AreUsable, IsAtLimit, RefusesPage, image as seen_by, state}
use Rattle.sqlite_pager.specs.declared.pager.Pager.{Pager}
use Rattle.db_file.specs.declared.committing.Left.{Left}
use Rattle.db_file.specs.declared.committing.Left.TheVariants as kind

-- ==== What the header of a database file says of its pages (the SQLite file format, section 1.3)
-- the byte at the index `at`, and 0 past the end
abbrev pub byte : List ℕ → ℕ → ℕ
byte bytes at = slice_index_or bytes at 0

-- byte 20 of the file's header reserves eight bytes at each page's end: pages have checksums (section 1.3.4)
abbrev pub has_checksum_space : List ℕ → Bool
has_checksum_space header = byte header 20 == 8

-- ==== The checksums of a database's pages, as SQLite's cksumvfs has them
-- the checksum of these bytes, as a file has it: two numbers, the lowest byte of each first
unfoldable pub sum_of : List ℕ → List ℕ
sum_of bytes = let sum = checksum false (0, 0) bytes in to_le_bytes w32 sum.0 ++ to_le_bytes w32 sum.1

-- the bytes of a page before its checksum, and those of the checksum
abbrev pub before_sum : List ℕ → List ℕ
before_sum page = take (length page - 8) page

abbrev pub sum_in : List ℕ → List ℕ
sum_in page = drop (length page - 8) page

-- a page ends with the right checksum: that of the bytes before it
abbrev pub has_sum : List ℕ → Bool
has_sum page = bytes_eq (sum_in page) (sum_of (before_sum page))

-- 1 if a page ends with a wrong checksum, else 0
abbrev pub bad_checksums_in_page : List ℕ → ℕ
bad_checksums_in_page page = if has_sum page then 0 else 1

-- the page, with its last eight bytes replaced by the checksum of the others
abbrev pub with_checksum : List ℕ → List ℕ
with_checksum page = before_sum page ++ sum_of (before_sum page)

-- the first pages of a file, each with the right checksum: by the page size, and how many pages
unfoldable pub checksummed_pages : ℕ → ℕ → List ℕ → List ℕ
checksummed_pages size zero bytes = []
checksummed_pages size (suc n) bytes =
    with_checksum (take size bytes) ++ checksummed_pages size n (drop size bytes)

-- how many of the first pages of a file end with a wrong checksum: by the page size, and how many pages
unfoldable pub bad_checksums_in_pages : ℕ → ℕ → List ℕ → ℕ
bad_checksums_in_pages size zero bytes = 0
bad_checksums_in_pages size (suc n) bytes =
    bad_checksums_in_page (take size bytes) + bad_checksums_in_pages size n (drop size bytes)

-- how many of all whole pages of a file end with a wrong checksum
abbrev pub bad_checksums_in : ℕ → List ℕ → ℕ
bad_checksums_in size bytes = bad_checksums_in_pages size (length bytes / size) bytes

-- the pages of a file have checksums: its header says so, and names their size
abbrev pub HasChecksums : List ℕ → Type 0
HasChecksums bytes = IsTrue (has_checksum_space bytes) × IsPageSize (size_in_file bytes)

-- how many pages of a file of so many bytes end with a wrong checksum; None if they have no checksums
abbrev pub IsBadCount : ℕ → List ℕ → Option ℕ → Type 0
IsBadCount len bytes None = ¬ HasChecksums bytes
IsBadCount len bytes (Some count) = HasChecksums bytes
    × (length bytes ≡ len → count ≡ bad_checksums_in (size_in_file bytes) bytes)

-- all whole pages of a file, each with the right checksum
abbrev pub checksummed_file : ℕ → List ℕ → List ℕ
checksummed_file size bytes = checksummed_pages size (length bytes / size) bytes

-- ==== The order in which a file lists its tables and indexes
-- They are rows of a table whose root is the file's first page, in the order of their rowids (the SQLite file
-- format, sections 1.6, 2.1 and 2.6); the desk finds a table's rows by the rowid under which it is listed.

-- the names of the schema's tables and indexes, in its own order
abbrev pub own_names : List (List ℕ)
own_names =
    codes "operator" ∷ codes "sqlite_autoindex_operator_1" ∷ codes "plan" ∷ codes "sqlite_autoindex_plan_1"
    ∷ codes "volume" ∷ codes "sqlite_autoindex_volume_1" ∷ codes "span" ∷ codes "sqlite_autoindex_span_1"
    ∷ codes "span_first" ∷ codes "volume2" ∷ codes "sqlite_autoindex_volume2_1" ∷ codes "span2"
    ∷ codes "sqlite_autoindex_span2_1" ∷ codes "span2_first" ∷ []

-- the place in that order of what a packed file, one left by VACUUM, has at a place
abbrev pub packed_place : ℕ → ℕ
packed_place place =
    if nat_lt place 8 then place
    else (if nat_lt place 12 then place + 1 else (if place == 12 then 8 else place))

-- the name at a place of the packed order (true) or of the schema's own, canonical order (false)
abbrev pub name_at : Bool → ℕ → List ℕ
name_at packed place = slice_index_or own_names (if packed then packed_place place else place) []

-- the message about a file that lists them in an order that the desk doesn't read
abbrev pub order_text : List ℕ
order_text = codes "its tables stand in another order than a desk's: copy makes a desk of it"

-- ---- the rows of a page
-- a page may by its length be a file's first page; nothing is said of its bytes. It has 136 bytes or more:
-- 100 of the file's header, 8 of the page header, and 2 for the slot of each of the schema's 14 tables and
-- indexes. It has 65,536 or fewer, as any page
pub record IsFirstPage (page : List ℕ) : Type 0 where
  pub room : 136 ≤ length page
  pub fits : length page ≤ 65536

-- the first page is a leaf of a table's tree, and how many rows it has: by its page header, which follows the
-- file's header at byte 100
abbrev pub is_leaf_page : List ℕ → Bool
is_leaf_page page = byte page 100 == 13

abbrev pub count : List ℕ → ℕ
count page = byte page 103 * 256 + byte page 104

-- where the cell of a row begins: the two bytes of the row's slot, and the slots follow the page header
abbrev pub cell : List ℕ → ℕ → ℕ
cell page slot = byte page (108 + slot * 2) * 256 + byte page (109 + slot * 2)

-- the row's size takes two bytes of the cell, and not one
abbrev pub is_long : List ℕ → ℕ → Bool
is_long page slot = nat_le 128 (byte page (cell page slot))

-- where its rowid is, and how many bytes the row has after the rowid
abbrev pub rowid_at : List ℕ → ℕ → ℕ
rowid_at page slot = cell page slot + (if is_long page slot then 2 else 1)

abbrev pub size : List ℕ → ℕ → ℕ
size page slot =
    let first = byte page (cell page slot) in
    if is_long page slot then (first - 128) * 128 + byte page (cell page slot + 1) else first

-- its size has one byte or two, its rowid has one, and it lies within the page
abbrev pub is_plain : List ℕ → ℕ → Bool
is_plain page slot =
    nat_lt (byte page (cell page slot + 1)) 128 && nat_lt (byte page (cell page slot + 2)) 128
    && nat_le (rowid_at page slot + 1 + size page slot) (length page)

-- the bytes of the row: how long the row's header is, the serial types of its five values, and the values
abbrev pub row : List ℕ → ℕ → List ℕ
row page slot = take (size page slot) (drop (rowid_at page slot + 1) page)

-- how many bytes a text has, by its serial type
abbrev pub text_len : ℕ → ℕ
text_len code = (code - 13) / 2

-- a row has a name: its second value, after the first, the text of its kind
abbrev pub name_begins : List ℕ → ℕ
name_begins row = byte row 0 + text_len (byte row 1)

abbrev pub has_name : List ℕ → List ℕ → Bool
has_name row name =
    let len = text_len (byte row 2) in
    nat_le (name_begins row + len) (length row) && bytes_eq (take len (drop (name_begins row) row)) name

abbrev pub is_slot_named : List ℕ → ℕ → List ℕ → Bool
is_slot_named page slot name = is_plain page slot && has_name (row page slot) name

-- the first slot whose row has a name: of n slots from `from` on, and of all slots of a page
unfoldable pub slot_from : List ℕ → List ℕ → ℕ → ℕ → Option ℕ
slot_from page name from zero = None
slot_from page name from (suc n) =
    if is_slot_named page from name then Some from else slot_from page name (from + 1) n

abbrev pub slot_of : List ℕ → List ℕ → Option ℕ
slot_of page name = slot_from page name 0 (count page)

-- ---- another order
-- the slot `to` of a page has the row of the slot `from` of the page `old`: its cell is at the same place,
-- with the same bytes, but its rowid is the number of the slot, counted from 1
abbrev pub is_moved : List ℕ → ℕ → List ℕ → ℕ → Bool
is_moved old from page to =
    is_plain page to && cell page to == cell old from && byte page (rowid_at page to) == to + 1
    && bytes_eq (row page to) (row old from)

-- the slot `to` of a page has the row of `old` whose name is at place `to` of the packed or canonical order
abbrev pub is_moved_by_name : Bool → List ℕ → List ℕ → ℕ → Bool
is_moved_by_name packed old page to =
    unwrap_or (option_map (λ from. is_moved old from page to) (slot_of old (name_at packed to))) false

-- each of the n slots from the slot `to` on has its row in this way
unfoldable pub are_moved : Bool → List ℕ → List ℕ → ℕ → ℕ → Bool
are_moved packed old page to zero = true
are_moved packed old page to (suc n) =
    is_moved_by_name packed old page to && are_moved packed old page (to + 1) n

-- the rows of a page are in the packed or canonical order, with the rowids 1, 2 and so on
abbrev pub are_listed : Bool → List ℕ → Bool
are_listed packed page = are_moved packed page page 0 (count page)

-- a leaf page with 14 rows at most lists them neither in canonical nor in packed order; the packed order
-- has all 14
abbrev pub is_in_other_order : List ℕ → Bool
is_in_other_order page =
    is_leaf_page page && nat_le (count page) 14 && not (are_listed false page)
    && not (count page == 14 && are_listed true page)

-- a page after its slot `to` was pointed to the cell of the slot `from` of the page `old`, and the row got
-- the rowid `to + 1`
abbrev pub moved : List ℕ → ℕ → ℕ → List ℕ → List ℕ
moved old from to page =
    let front = slice_set page (108 + to * 2) (byte old (108 + from * 2)) in
    slice_set (slice_set front (109 + to * 2) (byte old (109 + from * 2))) (rowid_at old from) (to + 1)

-- a page after its slot `to` got the row of `old` whose name is at place `to` of the canonical order; None
-- if `old` has no such row
abbrev pub placed_by_name : List ℕ → ℕ → List ℕ → Option (List ℕ)
placed_by_name old to page = option_map (λ from. moved old from to page) (slot_of old (name_at false to))

-- a page after each of the n slots from the slot `to` on got its row in this way; None if `old` lacks one
unfoldable pub placed : List ℕ → ℕ → ℕ → List ℕ → Option (List ℕ)
placed old to zero page = Some page
placed old to (suc n) page = option_and_then (placed old (to + 1) n) (placed_by_name old to page)

-- The page with its rows in canonical order, if it lists the schema's tables and indexes, or the first few of
-- them, in neither canonical nor packed order; else None. Each row keeps its cell and bytes, but the rowid.
abbrev pub ordered : List ℕ → Option (List ℕ)
ordered page = if is_in_other_order page
    then option_and_then (λ new. if are_moved false page new 0 (count page) then Some new else None)
    (placed page 0 (count page) page)
    else None

-- a file's first page lists them in an order that is neither canonical nor packed
abbrev pub has_other_order : List ℕ → Bool
has_other_order bytes = is_some (ordered (take (size_in_file bytes) bytes))

-- and its header names the size of its pages
abbrev pub HasOtherOrder : List ℕ → Type 0
HasOtherOrder bytes = IsPageSize (size_in_file bytes) × IsTrue (has_other_order bytes)

-- the page in canonical order, if it is in another; else the page as it is
abbrev pub ordered_page : List ℕ → List ℕ
ordered_page page = unwrap_or (ordered page) page

-- a file whose first page is put in canonical order in this way
abbrev pub ordered_file : ℕ → List ℕ → List ℕ
ordered_file size bytes = ordered_page (take size bytes) ++ drop size bytes

-- a file with the right checksum of each page, if its pages have checksums (true); else as it is
abbrev pub with_sums : Bool → ℕ → List ℕ → List ℕ
with_sums sums size bytes = if sums then checksummed_file size bytes else bytes

-- a file that is repaired: its first page is put in canonical order, then the checksums are set
abbrev pub mended : Bool → ℕ → List ℕ → List ℕ
mended sums size bytes = with_sums sums size (ordered_file size bytes)

-- ==== The first page of a database is put in canonical order, in one commit
-- a file's first page in canonical order, with its checksum, if pages have checksums
abbrev pub in_order : List ℕ → List ℕ
in_order page = if has_checksum_space page then with_checksum (ordered_page page) else ordered_page page

-- pages before and after: the first page is put in canonical order, and no other page changes
pub record OrdersFirst (old new : Pages) : Type 0 where
  pub page : List ℕ
  pub was : old 1 ≡ Some page
  pub is : new 1 ≡ Some (in_order page)
  pub others : (n : ℕ) → n ≢ 1 → new n ≡ old n

-- after a crash that leaves these files, recovery finds the pages `seen` with the first in canonical order
pub record LeavesInOrder (size : ℕ) (seen : Pages) (image : Image) : Type 0 where
  pub pages : Pages
  pub ordered : OrdersFirst seen pages
  pub recovers : Recovers size image pages

-- a crash leaves what it could leave before the commit, or the pages `seen` with the first in canonical order
abbrev pub MayOrder : State → Pages → State → Type 0
MayOrder old seen new = (image : Image) → new.may_leave image
    → ((before : Image) × old.may_leave before × RecoversAs old.page_size before image)
    ⊎ LeavesInOrder old.page_size seen image

-- ---- the files of a database
-- the page size of files: by the header of the log or, if recovery ignores the log, by that of the database
abbrev pub NamesSize : Image → ℕ → Type 0
NamesSize was size =
    (¬ IsIgnored was.log → size ≡ be32 was.log 8) × (IsIgnored was.log → size ≡ size_in_file was.db)

-- Recovery finds the pages `seen` in the files as they were. The files now hold these pages with the first in
-- canonical order, and a crash leaves nothing else.
pub record IsInOrder (was : Image) (new : State) : Type 0 where
  pub seen : Pages
  pub found : Recovers new.page_size was seen
  pub ordered : OrdersFirst seen new.committed
  pub settled : IsSettled new

-- a crash leaves what it could leave before, or the pages that recovery finds in the files as they were,
-- with the first in canonical order
abbrev pub LeavesOrdered : ℕ → Image → (Image → Type 0) → (Image → Type 0) → Type 0
LeavesOrdered size was old new = (image : Image) → new image
    → ((before : Image) × old before × RecoversAs size before image)
    ⊎ ((seen : Pages) × Recovers size was seen × LeavesInOrder size seen image)

module _ {D : Type 0} (g : Ghosts D) where
  -- what the log and the database file hold
  abbrev pub image_of : Files D → Image
  image_of files = seen_image g files.log files.db

  -- what a crash may leave of them
  abbrev pub leaves : Files D → Image → Type 0
  leaves files = outcomes g files.log files.db

  -- how many faults both have counted
  abbrev pub faults_of : Files D → ℕ
  faults_of files = g.faults files.log + g.faults files.db

  -- files once they were opened: they hold `was`, all of it is on the disk, and no call has failed
  pub record AreAsOpened (files : Files D) (was : Image) : Type 0 where
    pub held : image_of files ≡ was
    pub sound : faults_of files ≡ 0
    pub synced : (next : Image) → leaves files next → next ≡ was

module _ {D : Type 0} {g : Ghosts D} where
  -- why the first page of a recovered database can't be reordered: there is none, or the files are too large
  abbrev pub RefusesFirst : Pager D g → Pager D g → Error → Type 0
  RefusesFirst old new e = RefusesPage old 1 e ⊎ OnlyIf Full (IsAtLimit new) e

  -- why the first page of files can't be reordered: they are no database, or are too large
  abbrev pub RefusesFiles : ℕ → Image → Pager D g → Error → Type 0
  RefusesFiles size was new e = RefusesToRecover size was e ⊎ OnlyIf Full (IsAtLimit new) e

  -- the pager `it` is made for the files `old`, which were only read and are still to be recovered
  pub record IsFreshPager (old : Files D) (it : Pager D g) : Type 0 where
    pub usable : AreUsable it
    pub same : seen_by it ≡ image_of g old
    pub faults : (state it).faults ≡ faults_of g old
    pub crash : (image : Image) → (state it).may_leave image → leaves g old image
    pub sized : IsTrue (state it).is_clean → NamesSize (image_of g old) (state it).page_size

module _ {D : Type 0} (g : Ghosts D) (was : Image) (old : Image → Type 0) (faults : ℕ) where
  -- files that were only read have no pager: memory ran out, the disk failed, or they name no valid page size
  pub record IsUnread (e : Error) (files : Files D) : Type 0 where
    pub cause : AreClean g files.log files.db → HasCause faults (faults_of g files)
        (OnlyIf Corrupt ((size : ℕ) → NamesSize was size → ¬ IsPageSize size)) e
    pub crash : (image : Image) → leaves g files image → old image

module _ {D : Type 0} {g : Ghosts D} (was : Image) (old : Image → Type 0) (faults : ℕ) where
  -- the recovery of files failed, or the commit of their first page
  pub record IsUncommitted (e : Error) (it : Pager D g) : Type 0 where
    pub sized : IsTrue (state it).is_clean → NamesSize was (state it).page_size
    pub cause : IsTrue (state it).is_clean
        → HasCause faults (state it).faults (RefusesFiles (state it).page_size was it) e
    pub crash : LeavesOrdered (state it).page_size was old (state it).may_leave
    pub none : IsUnreadable (state it).page_size was
        → (image : Image) → (state it).may_leave image → old image

  -- what holds of files whose first page was not reordered: no pager was made, or recovery or commit failed
  abbrev pub IsLeft : Left D g → Type 0
  IsLeft (kind.Unread e files) = IsUnread g was old faults e files
  IsLeft (kind.Uncommitted e it) = IsUncommitted e it
