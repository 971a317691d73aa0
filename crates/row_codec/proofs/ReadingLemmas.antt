-- From rows to what they stand for.
use Rattle.std.proofs.Common.{◌≡◌, ℕ, ℤ, zero, suc, ◌+◌, ◌<◌, inl, Bool, true, false, cond, List, [], ◌∷◌, ◌++◌, length, take, get_or, Option, Some, None, Result, Ok, Err, refl, sym, ap, subst, ◌∙◌, arith}
use Rattle.std.specs.List.{AllByRecursion, AllZip}
use Rattle.sqlite_value.specs.declared.value.Value.{Value}
use Rattle.sqlite_value.specs.declared.value.Value.TheVariants.{Int, Text, Blob}
use Rattle.sqlite_value.specs.Order.{Row, column}
use Rattle.volume4d.specs.Footprint.{footprint_bytes, HasValidParts, AreBytesOf}
use Rattle.volume4d.specs.VolumeLimits.{within_altitudes, within_times, within_length}
use Rattle.volume4d.specs.Volume.{Shape, Block, WindowParts, window_or_fault, is_area}
use Rattle.volume4d.specs.declared.window.WindowFault.{WindowFault}
use Rattle.volume4d.specs.declared.window.WindowFault.TheVariants.{Altitude, Time, TooLong}
use Rattle.uuid.specs.Text.{parsed}
use Rattle.uuid.proofs.RoundTrips.{parses_hyphenated}
use Rattle.row_codec.specs.Tables.{id_text}
use Rattle.desk_store.specs.World.{IsId, IsValidVolume}
use Rattle.row_codec.specs.RowsRead.{IsVolumeAt}

pub window_is : (e w : WindowParts) → ◌≡◌ {A = Result WindowParts WindowFault} (Ok w)
    (window_or_fault e) → w
    ≡ e
window_is e w h = by_tests (within_altitudes e.lower e.upper) (within_times e.start e.end)
    (within_length e.start e.end) h where
      by_tests : (a b c : Bool) → ◌≡◌ {A = Result WindowParts WindowFault} (Ok w)
          (cond a (cond b (cond c (Ok e) (Err TooLong)) (Err Time)) (Err Altitude)) → w ≡ e
      by_tests true true true k = cc
      by_tests true true false k = cc
      by_tests true false c k = cc
      by_tests false b c k = cc

pub one_int : (m n : ℤ) (v : Value) → v ≡ Int m → v ≡ Int n → m ≡ n
one_int m n v h k = cc

pub one_blob : (a b : List ℕ) (v : Value) → v ≡ Blob a → v ≡ Blob b → a ≡ b
one_blob a b v h k = cc

module _ (one_shape : (one other : Shape) → HasValidParts one → HasValidParts other
    → footprint_bytes one
    ≡ footprint_bytes other → one ≡ other) where
  pub volume_is : (row : Row) (at : ℕ) (lower upper start end : ℤ) (asked : List ℕ)
      (window : WindowParts)
      (shape : Shape) (volume : Block)
      → column row at ≡ Int lower → column row (at + 1) ≡ Int upper → column row (at + 2) ≡ Int start
      → column row (at + 3) ≡ Int end → column row (at + 4) ≡ Blob asked
      → ◌≡◌ {A = Result WindowParts WindowFault} (Ok window)
      (window_or_fault (record { lower = lower; upper = upper; start = start; end = end }))
      → AreBytesOf asked shape → volume ≡ record { footprint = shape; window = window }
      → (v : Block) → IsValidVolume v → IsVolumeAt row at v → volume ≡ v
  volume_is row at lower upper start end asked window shape volume l u s e a w bytes is v hv h =
      let same_window = window_is (record { lower = lower; upper = upper; start = start; end = end })
      window w
      in
      let asked_is = one_blob asked (footprint_bytes v.footprint) (column row (at + 4)) a h.asked in
      is ∙ (λ i. record {
        footprint = one_shape shape v.footprint bytes.valid hv.valid (bytes.written ∙ asked_is) i;
        window = (same_window ∙ (λ k. record {
          lower = one_int lower v.window.lower (column row at) l h.lower k;
          upper = one_int upper v.window.upper (column row (at + 1)) u h.upper k;
          start = one_int start v.window.start (column row (at + 2)) s h.start k;
          end = one_int end v.window.end (column row (at + 3)) e h.end k;
        })) i;
      })

abbrev Reads : ℕ → Row → Block → Type 0
Reads at row volume = (v : Block) → IsValidVolume v → IsVolumeAt row at v → volume ≡ v

-- volumes read from the first rows, and one more
pub one_more : (at : ℕ) (rows : List Row) (i : ℕ) (row : Row) (volumes : List Block) (volume : Block)
    (d : Row) → i < length rows → row ≡ get_or rows i d → Reads at row volume
    → ((vs : List Block) → AllByRecursion IsValidVolume vs → AllZip (λ r v. IsVolumeAt r at v) rows vs
    → volumes
    ≡ take i vs)
    → (vs : List Block) → AllByRecursion IsValidVolume vs → AllZip (λ r v. IsVolumeAt r at v) rows vs
    → volumes
    ++ volume ∷ [] ≡ take (i + 1) vs
one_more at rows i row volumes volume d within is reads before vs hv h =
    ap (λ xs. xs ++ volume ∷ []) (before vs hv h) ∙ next rows vs i within is hv h where
      next : (rows : List Row) (vs : List Block) (i : ℕ) → i < length rows → row ≡ get_or rows i d
          → AllByRecursion IsValidVolume vs → AllZip (λ r v. IsVolumeAt r at v) rows vs → take i vs ++ volume
          ∷ []
          ≡ take (i + 1) vs
      next [] vs i w e hb hz = absurd (omega (arith, w))
      next (r ∷ rs) [] i w e hb hz = absurd hz
      next (r ∷ rs) (v ∷ vs) zero w e hb hz = ap (λ x. x ∷ [])
          (reads v hb.0 (subst (λ x. IsVolumeAt x at v) (sym e) hz.0))
      next (r ∷ rs) (v ∷ vs) (suc i) w e hb hz = rw Rattle.std.proofs.Common.add-one
          (ap (λ xs. v ∷ xs) (rw Rattle.std.proofs.Common.add-one at
          (next rs vs i (omega arith) e hb.1 hz.1)))

pub all_read : (at : ℕ) (rows : List Row) (vs : List Block) → AllZip (λ r v. IsVolumeAt r at v) rows vs
    → take (length rows) vs ≡ vs
all_read at [] [] h = refl
all_read at [] (v ∷ vs) h = absurd h
all_read at (r ∷ rs) [] h = absurd h
all_read at (r ∷ rs) (v ∷ vs) h = ap (λ xs. v ∷ xs) (all_read at rs vs h.1)

pub area_is : (volumes area : List Block) → ◌≡◌ {A = Option (List Block)} (Some area)
    (cond (is_area volumes) (Some volumes) None) → area ≡ volumes
area_is volumes area h = by_test (is_area volumes) h where
  by_test : (b : Bool) → ◌≡◌ {A = Option (List Block)} (Some area) (cond b (Some volumes) None) → area
      ≡ volumes
  by_test true k = cc
  by_test false k = cc

-- the id whose text stands in a column
pub id_is : (text found id : List ℕ) (v : Value) → Some found ≡ parsed text → v ≡ Text text → IsId id
    → v
    ≡ Text (id_text id) → found ≡ id
id_is text found id v e h is k =
    let same : text ≡ id_text id = cc in
    let parses : Some id ≡ parsed (id_text id) =
    parses_hyphenated 97 id (inl refl) is.sixteen is.are_bytes in
    let both : Some found ≡ Some id = e ∙ ap parsed same ∙ sym parses in
    cc
