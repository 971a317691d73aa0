-- Rows that are added one after the other fit, each in its turn.
use Rattle.std.proofs.Common.{◌≡◌, ◌<◌, ◌+◌, ℕ, zero, suc, Bool, false, ◌||◌, List, [], ◌∷◌, ◌++◌, length, map, take, drop, get_or, refl, sym, ap, ap₂, subst, ◌∙◌, arith, IsPermutation}
use Rattle.std.specs.List.{AllByRecursion, list_any}
use Rattle.std.proofs.lemmas.List.Sorted.{list_any-IsPermutation}
use Rattle.sqlite.specs.Order.{Row}
use Rattle.sqlite.specs.Tree.{Trees, IsAscending}
use Rattle.sqlite.specs.Effect.{Database}
use Rattle.desk_sql.specs.Rows.{Tables, tables_of}
use Rattle.desk_changes.specs.RowChanges.{volume_row_in, cover_of, span_row_in, AddsVolumes, AddsSpans, AreNewRows, AreNewSpans, AreNewVolumes, AreShort, HasRoomFor, IsShortValue, TakesRoom}
use Rattle.desk_changes.specs.declared.writing.VolumeRecord.{VolumeRecord}
use Rattle.desk_changes.specs.declared.writing.SpanRecord.{SpanRecord}
use Rattle.desk_sql.specs.Changing.{FitsVolume, FitsSpan, HasKey, LacksKey, has_same_key}
use Rattle.desk_changes.proofs.RoomLemmas.{fewer}

-- ---- room after several changes

pub takes_none : (trees : Trees) → TakesRoom 0 0 0 trees trees
takes_none trees = record {
  of_plans = λ left. fewer left (0 + left) (trees 2) (omega arith);
  of_volumes = λ left. fewer left (0 + left) (trees 9) (omega arith);
  of_spans = λ left. fewer left (0 + left) (trees 11) (omega arith);
}

together : (a b : ℕ) (old mid new : List Row) → ((left : ℕ) → HasRoomFor (a + left) old → HasRoomFor left mid)
    → ((left : ℕ) → HasRoomFor (b + left) mid → HasRoomFor left new) → (left : ℕ)
    → HasRoomFor ((a + b) + left) old → HasRoomFor left new
together a b old mid new first second left room =
    second left (first (b + left) (fewer (a + (b + left)) ((a + b) + left) old (omega arith) room))

pub takes_both : (p v s q w t : ℕ) (old mid new : Trees) → TakesRoom p v s old mid → TakesRoom q w t mid new
    → TakesRoom (p + q) (v + w) (s + t) old new
takes_both p v s q w t old mid new first second = record {
  of_plans = together p q (old 2) (mid 2) (new 2) first.of_plans second.of_plans;
  of_volumes = together v w (old 9) (mid 9) (new 9) first.of_volumes second.of_volumes;
  of_spans = together s t (old 11) (mid 11) (new 11) first.of_spans second.of_spans;
}

-- ---- one of the rows

all_at : (P : Row → Type 0) (before : List Row) (row : Row) (after : List Row)
    → AllByRecursion P (before ++ row ∷ after) → P row
all_at P [] row after all = all.0
all_at P (r ∷ before) row after all = all_at P before row after all.1

-- each row before one is apart from it
before_apart : (R : Row → Row → Type 0) (before : List Row) (row : Row) (after : List Row)
    → IsAscending R (before ++ row ∷ after) → AllByRecursion (λ r. R r row) before
before_apart R [] row after up = tt
before_apart R (r ∷ before) row after up =
    (all_at (R r) before row after up.0, before_apart R before row after up.1)

none_of : (p : Row → Bool) (xs ys : List Row) → AllByRecursion (λ x. p x ≡ false) xs → list_any p ys ≡ false
    → list_any p (xs ++ ys) ≡ false
none_of p [] ys all none = none
none_of p (x ∷ xs) ys all none = ap₂ (λ a b. a || b) all.0 (none_of p xs ys all.1 none)

module _ (width : ℕ) (before : List Row) (row : Row) (after stored shown plans : List Row)
    (new : AreNewRows width (before ++ row ∷ after) stored shown plans) where
  pub short_at : AllByRecursion IsShortValue row
  short_at = all_at (λ r. AllByRecursion IsShortValue r) before row after new.short

  pub planned_at : HasKey 2 row plans
  planned_at = all_at (λ r. HasKey 2 r plans) before row after new.planned

  pub free_at : (now : List Row) → IsPermutation (before ++ shown) now → LacksKey width row now
  free_at now same =
      sym (list_any-IsPermutation (λ r. has_same_key width r row) (before ++ shown) now same)
      ∙ none_of (λ r. has_same_key width r row) before shown
      (before_apart (λ a b. has_same_key width a b ≡ false) before row after new.apart)
      (all_at (λ r. LacksKey width r shown) before row after new.free)

-- a list, parted at one of its elements
parted : {X : Type 0} (show : X → Row) (xs : List X) (at : ℕ) (d : X) → at < length xs
    → map show xs ≡ map show (take at xs) ++ show (get_or xs at d) ∷ map show (drop (suc at) xs)
parted show [] at d low = absurd (omega (arith, low))
parted show (x ∷ xs) zero d low = refl
parted show (x ∷ xs) (suc at) d low = ap (λ rows. show x ∷ rows) (parted show xs at d (omega (arith, low)))

length_shown : {X : Type 0} (show : X → Row) (xs : List X) → length (map show xs) ≡ length xs
length_shown show [] = refl
length_shown show (x ∷ xs) = ap suc (length_shown show xs)

-- the room for one row more in its turn
room_at : (rows : List Row) (at : ℕ) (old now : List Row)
    → ((left : ℕ) → HasRoomFor (at + left) old → HasRoomFor left now) → at < length rows
    → HasRoomFor (length rows) old → HasRoomFor 1 now
room_at rows at old now takes low room = takes 1 (fewer (at + 1) (length rows) old (omega (arith, low)) room)

pub volume_fits : (rows : List VolumeRecord) (at : ℕ) (d : VolumeRecord) (old now : Database)
    → AreNewVolumes (map volume_row_in rows) (map cover_of rows) old → at < length rows
    → AddsVolumes (map volume_row_in (take at rows)) (map cover_of (take at rows)) (tables_of old.trees)
    (tables_of now.trees)
    → TakesRoom 0 at 0 old.trees now.trees
    → FitsVolume (get_or rows at d).operator.now (get_or rows at d).id.now (get_or rows at d).asked.now
    (get_or rows at d).canon.now (volume_row_in (get_or rows at d)) now
volume_fits rows at d old now new low adds takes =
    let v = get_or rows at d in
    let t = tables_of old.trees in
    let before = map volume_row_in (take at rows) in
    let after = map volume_row_in (drop (suc at) rows) in
    let here = subst (λ rs. AreNewRows 3 rs (old.trees 9) t.volumes t.plans)
    (parted volume_row_in rows at d low) new.0 in
    let canon = all_at (λ r. AllByRecursion IsShortValue r) (map cover_of (take at rows)) (cover_of v)
    (map cover_of (drop (suc at) rows)) (subst AreShort (parted cover_of rows at d low) new.1) in
    let short = short_at 3 before (volume_row_in v) after (old.trees 9) t.volumes t.plans here in
    let free = free_at 3 before (volume_row_in v) after (old.trees 9) t.volumes t.plans here
    (tables_of now.trees).volumes adds.0 in
    let many : at < length (map volume_row_in rows) = omega (arith, low, length_shown volume_row_in rows) in
    let room = room_at (map volume_row_in rows) at (old.trees 9) (now.trees 9) takes.of_volumes many
    new.0.room in
    let same : (tables_of now.trees).plans ≡ t.plans = ap (λ (x : Tables). x.plans) adds.2 in (
      short.0,
      short.1.0,
      short.1.1.1.1.1.1.1.0,
      canon.1.1.1.0,
      (room.1, free),
      subst (HasKey 2 (volume_row_in v)) (sym same)
          (planned_at 3 before (volume_row_in v) after (old.trees 9) t.volumes t.plans here),
    )

pub span_fits : (rows : List SpanRecord) (at : ℕ) (d : SpanRecord) (old now : Database)
    → AreNewSpans (map span_row_in rows) old → at < length rows
    → AddsSpans (map span_row_in (take at rows)) (tables_of old.trees) (tables_of now.trees)
    → TakesRoom 0 0 at old.trees now.trees
    → FitsSpan (get_or rows at d).operator.now (get_or rows at d).id.now (span_row_in (get_or rows at d)) now
span_fits rows at d old now new low adds takes =
    let s = get_or rows at d in
    let all = parted span_row_in rows at d low in
    let here = subst (λ rs. AreNewSpans rs old) all new in
    let before = map span_row_in (take at rows) in
    let after = map span_row_in (drop (suc at) rows) in
    let t = tables_of old.trees in
    let short = short_at 4 before (span_row_in s) after (old.trees 11) t.spans t.plans here in
    let free = free_at 4 before (span_row_in s) after (old.trees 11) t.spans t.plans here
    (tables_of now.trees).spans adds.0 in
    let many : at < length (map span_row_in rows) = omega (arith, low, length_shown span_row_in rows) in
    let room = room_at (map span_row_in rows) at (old.trees 11) (now.trees 11) takes.of_spans many new.room in
    let same : (tables_of now.trees).plans ≡ t.plans = ap (λ (x : Tables). x.plans) adds.1 in (
      short.0,
      short.1.0,
      (room.1, free),
      subst (HasKey 2 (span_row_in s)) (sym same)
          (planned_at 4 before (span_row_in s) after (old.trees 11) t.spans t.plans here),
    )
