-- What is read stands in the rows, and what is not read stands in none.
use Rattle.std.proofs.Common.{◌≡◌, ℕ, ℤ, pos, zero, suc, ◌+◌, ◌<◌, inl, inr, IfOk, Bool, true, false, ◌&&◌, cond, List, [], ◌∷◌, ◌++◌, length, take, get_or, Option, Some, None, Result, Ok, Err, refl, sym, ap, subst, ◌∙◌, arith, IsTrue, true≢false, w32, SFits}
use Rattle.std.specs.Prelude.{IsErrAnd, IfErr, IsUtf8, ◌↔◌, ◌⊎◌}
use Rattle.std.specs.List.{AllByRecursion, AllZip}
use Rattle.std.proofs.lemmas.Int.{ints}
use Rattle.std.proofs.lemmas.Str.{IsUtf8-from_ascii}
use Rattle.uuid.specs.Text.{parsed}
use Rattle.uuid.proofs.RoundTrips.{parses_hyphenated}
use Rattle.uuid.proofs.TextLemmas.{hyphenated_ascii}
use Rattle.sqlite_value.specs.declared.value.Value.{Value}
use Rattle.sqlite_value.specs.declared.value.Value.TheVariants.{Int, Text, Blob}
use Rattle.sqlite_value.specs.Order.{Row, column}
use Rattle.volume4d.specs.Footprint.{footprint_bytes, HasValidParts, AreBytesOf}
use Rattle.volume4d.specs.Volume.{IsFaultOf, Shape, cells, rectangle, is_footprint, has_count, Block, WindowParts, window_or_fault, is_window}
use Rattle.volume4d.specs.declared.fault.VolumeFault.{VolumeFault}
use Rattle.volume4d.specs.declared.fault.VolumeFault.TheVariants.{Cells, TooManyCells, OutOfMemory}
use Rattle.volume4d.specs.VolumeLimits.{within_altitudes, within_times, within_length}
use Rattle.volume4d.specs.declared.window.WindowFault.{WindowFault}
use Rattle.volume4d.specs.declared.window.WindowFault.TheVariants.{Altitude, Time, TooLong}
use Rattle.sqlite.specs.declared.error.Error.{Error}
use Rattle.sqlite.specs.declared.error.Error.TheVariants.{SqliteFailure}
use Rattle.sqlite.specs.declared.error.ErrorCode.TheVariants as code
use Rattle.desk_store.specs.declared.fault.StoreFault.{StoreFault}
use Rattle.desk_store.specs.declared.fault.StoreFault.TheVariants as store
use Rattle.row_codec.specs.Tables.{id_text}
use Rattle.desk_store.specs.World.{IsId, IsValidVolume}
use Rattle.row_codec.specs.RowsRead.{IsVolumeAt}
use Rattle.row_codec.proofs.ReadingLemmas.{window_is, one_int, one_blob, one_more}

pub on_err : {T E : Type 0} (r : Result T E) (fault : E) (P : E → Type 0) → IsErrAnd r (λ e. e ≡ fault)
    → P fault → IfErr r P
on_err (Err e) fault P is holds = subst P (sym is) holds
on_err (Ok v) fault P is holds = tt

pub no_value : {T E : Type 0} (P : T → Type 0) (r : Result T E) (fault : E) → IsErrAnd r (λ e. e ≡ fault)
    → IfOk r P
no_value P (Err e) fault is = tt
no_value P (Ok v) fault is = absurd is

-- ids
pub id_is_text : (id : List ℕ) → IsUtf8 (id_text id)
id_is_text id = IsUtf8-from_ascii (id_text id) (hyphenated_ascii 97 id (inl refl))

pub no_id : (text : List ℕ) (v : Value) → None ≡ parsed text → v ≡ Text text → (id : List ℕ) → IsId id
    → v
    ≡ Text (id_text id) → ⊥
no_id text v e h id is k =
    let same : text ≡ id_text id = cc in
    let parses : Some id ≡ parsed (id_text id) =
    parses_hyphenated 97 id (inl refl) is.sixteen is.are_bytes in
    let both : Some id ≡ None = parses ∙ ap parsed (sym same) ∙ sym e in
    cc

-- windows
pub altitudes_fit : (lower upper : ℤ) → within_altitudes lower upper ≡ true → SFits w32 lower
    × SFits w32 upper
altitudes_fit lower upper h = (grind (arith, ints, h), grind (arith, ints, h))

first_of : (a b : Bool) → (a && b) ≡ true → a ≡ true
first_of true b h = refl
first_of false b h = h

pub window_fits : (w : WindowParts) → IsTrue (is_window w) → SFits w32 w.lower × SFits w32 w.upper
window_fits w h = altitudes_fit w.lower w.upper (first_of (within_altitudes w.lower w.upper)
    (within_times w.start w.end && within_length w.start w.end) h)

abbrev by_tests : WindowParts → Bool → Bool → Bool → Result WindowParts WindowFault
by_tests e a b c = cond a (cond b (cond c (Ok e) (Err TooLong)) (Err Time)) (Err Altitude)

pub window_taken : (e w : WindowParts) → ◌≡◌ {A = Result WindowParts WindowFault} (Ok w)
    (window_or_fault e)
    → is_window e ≡ true
window_taken e w h = taken (within_altitudes e.lower e.upper) (within_times e.start e.end)
    (within_length e.start e.end) h where
      taken : (a b c : Bool) → Ok w ≡ by_tests e a b c → (a && (b && c)) ≡ true
      taken true true true k = refl
      taken true true false k = cc
      taken true false c k = cc
      taken false b c k = cc

pub no_window : (e : WindowParts) (fault : WindowFault)
    → ◌≡◌ {A = Result WindowParts WindowFault} (Err fault) (window_or_fault e) → is_window e ≡ true → ⊥
no_window e fault h is = refused (within_altitudes e.lower e.upper) (within_times e.start e.end)
    (within_length e.start e.end) h is where
      refused : (a b c : Bool) → Err fault ≡ by_tests e a b c → (a && (b && c)) ≡ true → ⊥
      refused true true true k t = cc
      refused true true false k t = cc
      refused true false c k t = cc
      refused false b c k t = cc

-- volumes
module _ (row : Row) (at : ℕ) where
  pub no_lower : ((n : ℤ) → SFits w32 n → column row at ≡ Int n → ⊥) → (v : Block) → IsValidVolume v
      → IsVolumeAt row at v → ⊥
  no_lower none v is h = none v.window.lower (window_fits v.window is.window).0 h.lower

  pub no_upper : ((n : ℤ) → SFits w32 n → column row (at + 1) ≡ Int n → ⊥) → (v : Block) → IsValidVolume v
      → IsVolumeAt row at v → ⊥
  no_upper none v is h = none v.window.upper (window_fits v.window is.window).1 h.upper

  pub no_volume_window : (e : WindowParts) (fault : WindowFault) → column row at ≡ Int e.lower
      → column row (at + 1) ≡ Int e.upper → column row (at + 2) ≡ Int e.start → column row (at + 3)
      ≡ Int e.end
      → ◌≡◌ {A = Result WindowParts WindowFault} (Err fault) (window_or_fault e) → (v : Block)
      → IsValidVolume v
      → IsVolumeAt row at v → ⊥
  no_volume_window e fault l u s n refused v is h =
      let same : v.window ≡ e = λ i. record {
        lower = one_int v.window.lower e.lower (column row at) h.lower l i;
        upper = one_int v.window.upper e.upper (column row (at + 1)) h.upper u i;
        start = one_int v.window.start e.start (column row (at + 2)) h.start s i;
        end = one_int v.window.end e.end (column row (at + 3)) h.end n i;
      } in
      no_window e fault refused (subst (λ w. is_window w ≡ true) same is.window)

  counted : (shape : Shape) → is_footprint shape ≡ true → has_count shape ≡ true
  counted (cells ids) h = h
  counted (rectangle r) h = refl

  pub no_footprint : (asked : List ℕ) → column row (at + 4) ≡ Blob asked
      → ((shape : Shape) → AreBytesOf asked shape → ⊥) → (v : Block) → IsValidVolume v → IsVolumeAt row at v
      → ⊥
  no_footprint asked a none v is h =
      none v.footprint (record {
        limits = counted v.footprint is.limits;
        valid = is.valid;
        written = one_blob (footprint_bytes v.footprint) asked (column row (at + 4)) h.asked a;
      })

  pub no_cover : (one_shape : (one other : Shape) → HasValidParts one → HasValidParts other
      → footprint_bytes one ≡ footprint_bytes other → one ≡ other)
      (asked : List ℕ) (shape : Shape) → column row (at + 4) ≡ Blob asked → AreBytesOf asked shape
      → is_footprint shape ≡ false → (v : Block) → IsValidVolume v → IsVolumeAt row at v → ⊥
  no_cover one_shape asked shape a bytes off v is h =
      let same = one_shape v.footprint shape is.valid bytes.valid
      (one_blob (footprint_bytes v.footprint) asked (column row (at + 4)) h.asked a ∙ sym bytes.written)
      in
      true≢false (sym (subst (λ s. is_footprint s ≡ true) same is.limits) ∙ off)

  pub past_limit : (shape : Shape) (fault : VolumeFault) → IsFaultOf shape fault
      → (fault ≡ OutOfMemory → ⊥)
      → is_footprint shape ≡ false
  past_limit shape OutOfMemory h room = absurd (room refl)
  past_limit shape Cells h room = h.0
  past_limit shape TooManyCells h room = h.0

  pub volume_stands : (e window : WindowParts) (asked : List ℕ) (shape : Shape) (volume : Block)
      → column row at ≡ Int e.lower → column row (at + 1) ≡ Int e.upper → column row (at + 2)
      ≡ Int e.start
      → column row (at + 3) ≡ Int e.end → column row (at + 4) ≡ Blob asked
      → ◌≡◌ {A = Result WindowParts WindowFault} (Ok window) (window_or_fault e)
      → AreBytesOf asked shape
      → is_footprint shape ≡ true → volume ≡ record { footprint = shape; window = window }
      → IsValidVolume volume × IsVolumeAt row at volume
  volume_stands e window asked shape volume l u s n a taken bytes limits is =
      let same = window_is e window taken in
      subst (λ v. IsValidVolume v × IsVolumeAt row at v)
      (sym (is ∙ ap (λ w. record { footprint = shape; window = w }) same)) (
        record { limits = limits; valid = bytes.valid; window = window_taken e window taken },
        record { lower = l; upper = u; start = s; end = n; asked = a ∙ ap Blob (sym bytes.written) },
      )

-- areas
abbrev Stand : ℕ → List Row → List Block → Type 0
Stand at rows vs = AllZip (λ r v. IsVolumeAt r at v) rows vs

pub no_row : (at : ℕ) (rows : List Row) (i : ℕ) (row d : Row) → i < length rows → row ≡ get_or rows i d
    → ((v : Block) → IsValidVolume v → IsVolumeAt row at v → ⊥)
    → (vs : List Block) → AllByRecursion IsValidVolume vs → Stand at rows vs → ⊥
no_row at [] i row d w e none vs hv h = absurd (omega (arith, w))
no_row at (r ∷ rs) i row d w e none [] hv h = absurd h
no_row at (r ∷ rs) zero row d w e none (v ∷ vs) hv h =
    none v hv.0 (subst (λ x. IsVolumeAt x at v) (sym e) h.0)
no_row at (r ∷ rs) (suc i) row d w e none (v ∷ vs) hv h =
    no_row at rs i row d (omega (arith, w)) e none vs hv.1 h.1

pub placed_more : (at : ℕ) (rows : List Row) (i : ℕ) (row d : Row) (volumes : List Block)
    (volume : Block)
    → i < length rows → row ≡ get_or rows i d → IsVolumeAt row at volume
    → Stand at (take i rows) volumes → Stand at (take (i + 1) rows) (volumes ++ volume ∷ [])
placed_more at [] i row d volumes volume w e is h = absurd (omega (arith, w))
placed_more at (r ∷ rs) zero row d [] volume w e is h = (subst (λ x. IsVolumeAt x at volume) e is, tt)
placed_more at (r ∷ rs) zero row d (v ∷ vs) volume w e is h = absurd h
placed_more at (r ∷ rs) (suc i) row d [] volume w e is h = absurd h
placed_more at (r ∷ rs) (suc i) row d (v ∷ vs) volume w e is h =
    rw Rattle.std.proofs.Common.add-one (
      h.0,
      rw Rattle.std.proofs.Common.add-one at
          (placed_more at rs i row d vs volume (omega (arith, w)) e is h.1),
    )

pub blocks_more : (volumes : List Block) (volume : Block) → AllByRecursion IsValidVolume volumes
    → IsValidVolume volume
    → AllByRecursion IsValidVolume (volumes ++ volume ∷ [])
blocks_more [] volume h is = (is, tt)
blocks_more (v ∷ vs) volume h is = (h.0, blocks_more vs volume h.1 is)

pub take_all : (rows : List Row) → take (length rows) rows ≡ rows
take_all [] = refl
take_all (r ∷ rs) = ap (λ xs. r ∷ xs) (take_all rs)

-- the volumes of the first rows, of which those read are the first of any that stand there
pub record HaveRead (at : ℕ) (rows : List Row) (i : ℕ) (volumes : List Block) : Type 0 where
  pub read : (vs : List Block) → AllByRecursion IsValidVolume vs
      → AllZip (λ row v. IsVolumeAt row at v) rows vs
      → volumes ≡ take i vs
  pub are : AllByRecursion IsValidVolume volumes
  pub stand : AllZip (λ row v. IsVolumeAt row at v) (take i rows) volumes

pub reads_more : (at : ℕ) (rows : List Row) (i : ℕ) (row : Row) (volumes now : List Block)
    (volume : Block)
    → i < length rows → row ≡ get_or rows i row
    → ((v : Block) → IsValidVolume v → IsVolumeAt row at v → volume ≡ v) → IsValidVolume volume
    × IsVolumeAt row at volume
    → now ≡ volumes ++ volume ∷ []
    → HaveRead at rows i volumes → HaveRead at rows (i + 1) now
reads_more at rows i row volumes now volume within e value is pushed before = record {
  read = λ vs hv h. pushed ∙ one_more at rows i row volumes volume row within e value before.read vs hv
      h;
  are = subst (λ vs. AllByRecursion IsValidVolume vs) (sym pushed)
      (blocks_more volumes volume before.are is.0);
  stand = subst (λ vs. AllZip (λ r v. IsVolumeAt r at v) (take (i + 1) rows) vs) (sym pushed)
      (placed_more at rows i row row volumes volume within e is.1 before.stand);
}

pub all_stand : (at : ℕ) (rows : List Row) (i : ℕ) (volumes area : List Block) → i ≡ length rows → area
    ≡ volumes → HaveRead at rows i volumes
    → AllByRecursion IsValidVolume area × AllZip (λ r v. IsVolumeAt r at v) rows area
all_stand at rows i volumes area end is h =
    subst (λ vs. AllByRecursion IsValidVolume vs × AllZip (λ r v. IsVolumeAt r at v) rows vs) (sym is) (
      h.are,
      subst (λ rs. AllZip (λ r v. IsVolumeAt r at v) rs volumes)
          (ap (λ n. take n rows) end ∙ take_all rows) h.stand,
    )

-- an error with which a taker of rows gives up
pub refused_by : (fault : StoreFault) (e : Error) (P : Type 0)
    → ((e ≡ SqliteFailure code.OutOfMemory) ↔ (fault ≡ store.OutOfMemory)) → (fault ≡ store.Store → P)
    → (e ≡ SqliteFailure code.OutOfMemory) ⊎ P
refused_by store.OutOfMemory e P same holds = inl (same.1 refl)
refused_by store.Store e P same holds = inr (holds refl)
