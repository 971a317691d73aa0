-- Covers that are those of the volumes in their rows are those of plans.
use Rattle.std.proofs.Common.{◌≡◌, ◌↔◌, ◌+◌, ℕ, Bool, List, [], ◌∷◌, ◌++◌, map, refl, sym, ap, ◌∙◌, IsTrue}
use Rattle.std.specs.List.{AllByRecursion}
use Rattle.std.proofs.lemmas.List.{map-append}
use Rattle.sqlite_value.specs.declared.value.Value.TheVariants.{Blob}
use Rattle.sqlite_value.specs.Order.{Row, column}
use Rattle.volume4d.specs.Volume.{Block, Shape}
use Rattle.volume4d.specs.Footprint.{HasValidParts, footprint_bytes}
use Rattle.desk_sql.specs.Rows.{cover_part, volume_part}
use Rattle.desk_store.specs.World.{IsValidVolume, Filed}
use Rattle.table_load.specs.Opening.{AreCompared, HasCoverOf, HasItsCover}
use Rattle.row_codec.specs.RowsRead.{IsVolumeAt}
use Rattle.row_codec.specs.Tables.{canon_bytes, rows_from, row_of_cover, row_of_volume, volume_rows_from, volume_rows, cover_rows}
use Rattle.row_codec.proofs.lemmas.Order.{ArePlans}

-- a row whose columns but for the cover are those of a volume
module _ (row : Row) (p : Filed) (n : ℕ) (v : Block) (is : volume_part row ≡ row_of_volume p n v) where
  has_volume : IsVolumeAt row 3 v
  has_volume = record {
    lower = ap (λ r. column r 3) is;
    upper = ap (λ r. column r 4) is;
    start = ap (λ r. column r 5) is;
    end = ap (λ r. column r 6) is;
    asked = ap (λ r. column r 7) is;
  }

  cover_is : HasCoverOf v row → cover_part row ≡ row_of_cover p n v
  cover_is e = λ i.
      ap (λ r. column r 0) is i ∷ ap (λ r. column r 1) is i ∷ ap (λ r. column r 2) is i ∷ e i ∷ []

  has_cover : IsValidVolume v → cover_part row ≡ row_of_cover p n v → HasItsCover row
  has_cover block e = record {
    volume = v;
    within = block;
    there = has_volume;
    cover = ap (λ r. column r 3) e;
  }

area_has : (p : Filed) (n : ℕ) (vs : List Block) → AllByRecursion IsValidVolume vs → (volumes covers : List Row)
    → ((rest : List Row) → map volume_part rest ≡ volumes → map cover_part rest ≡ covers
    → AllByRecursion HasItsCover rest)
    → (rows : List Row) → map volume_part rows ≡ volume_rows_from p n vs ++ volumes
    → map cover_part rows ≡ rows_from row_of_cover p n vs ++ covers → AllByRecursion HasItsCover rows
area_has p n [] h volumes covers more rows e f = more rows e f
area_has p n (v ∷ vs) h volumes covers more [] e f = cc
area_has p n (v ∷ vs) h volumes covers more (r ∷ rows) e f =
    let volume : volume_part r ≡ row_of_volume p n v = cc in
    let cover : cover_part r ≡ row_of_cover p n v = cc in
    let volumes_left : map volume_part rows ≡ volume_rows_from p (n + 1) vs ++ volumes = cc in
    let covers_left : map cover_part rows ≡ rows_from row_of_cover p (n + 1) vs ++ covers = cc in (
      has_cover r p n v volume h.0 cover,
      area_has p (n + 1) vs h.1 volumes covers more rows volumes_left
          covers_left,
    )

-- where the rows are those of plans, so are their covers if each row has its own, and only then
pub have_covers : (ps : List Filed) → ArePlans ps → (rows : List Row) → map volume_part rows ≡ volume_rows ps
    → map cover_part rows ≡ cover_rows ps → AllByRecursion HasItsCover rows
have_covers [] h [] e f = tt
have_covers [] h (r ∷ rows) e f = cc
have_covers (p ∷ ps) h rows e f =
    area_has p 0 p.row.area h.0.each (volume_rows ps) (cover_rows ps) (have_covers ps h.1) rows e f

module _ (one_shape : (one other : Shape) → HasValidParts one → HasValidParts other
    → footprint_bytes one ≡ footprint_bytes other → one ≡ other) where
  one_cover : (row : Row) (p : Filed) (n : ℕ) (v : Block) → IsValidVolume v → volume_part row ≡ row_of_volume p n v
      → HasItsCover row → cover_part row ≡ row_of_cover p n v
  one_cover row p n v block is has =
      let asked : Blob (footprint_bytes has.volume.footprint) ≡ Blob (footprint_bytes v.footprint) =
      sym has.there.asked ∙ ap (λ r. column r 7) is in
      let same : footprint_bytes has.volume.footprint ≡ footprint_bytes v.footprint = cc in
      cover_is row p n v is (has.cover ∙ ap (λ s. Blob (canon_bytes s))
      (one_shape has.volume.footprint v.footprint has.within.valid block.valid same))

  area_covered : (p : Filed) (n : ℕ) (vs : List Block) → AllByRecursion IsValidVolume vs
      → (volumes covers : List Row)
      → ((rest : List Row) → map volume_part rest ≡ volumes → AllByRecursion HasItsCover rest
      → map cover_part rest ≡ covers)
      → (rows : List Row) → map volume_part rows ≡ volume_rows_from p n vs ++ volumes
      → AllByRecursion HasItsCover rows → map cover_part rows ≡ rows_from row_of_cover p n vs ++ covers
  area_covered p n [] h volumes covers more rows e all = more rows e all
  area_covered p n (v ∷ vs) h volumes covers more [] e all = cc
  area_covered p n (v ∷ vs) h volumes covers more (r ∷ rows) e all =
      let volume : volume_part r ≡ row_of_volume p n v = cc in
      let left : map volume_part rows ≡ volume_rows_from p (n + 1) vs ++ volumes = cc in
      λ i. one_cover r p n v h.0 volume all.0 i
      ∷ area_covered p (n + 1) vs h.1 volumes covers more rows left all.1 i

  pub covers_are : (ps : List Filed) → ArePlans ps → (rows : List Row)
      → map volume_part rows ≡ volume_rows ps → AllByRecursion HasItsCover rows
      → map cover_part rows ≡ cover_rows ps
  covers_are [] h [] e all = refl
  covers_are [] h (r ∷ rows) e all = cc
  covers_are (p ∷ ps) h rows e all =
      area_covered p 0 p.row.area h.0.each (volume_rows ps) (cover_rows ps) (covers_are ps h.1) rows e all

-- ---- one row after the other

all_and_one : (rows : List Row) (row : Row)
    → AllByRecursion HasItsCover (rows ++ row ∷ []) ↔ (AllByRecursion HasItsCover rows × HasItsCover row)
all_and_one [] row = ((λ h. (tt, h.0)), λ h. (h.1, tt))
all_and_one (r ∷ rows) row = let more = all_and_one rows row in (
  λ h. let left = more.0 h.1 in ((h.0, left.0), left.1),
  λ h. (h.0.0, more.1 (h.0.1, h.1)),
)

pub compared_on : (volumes after : List Row) (agree now : Bool) (row part : Row) → part ≡ volume_part row
    → after ≡ volumes ++ part ∷ [] → (IsTrue now ↔ (IsTrue agree × HasItsCover row)) → (rows : List Row)
    → AreCompared volumes agree rows → AreCompared after now (rows ++ row ∷ [])
compared_on volumes after agree now row part is pushed reports rows h =
    let all = all_and_one rows row in record {
      volumes_are = pushed ∙ (λ i. h.volumes_are i ++ is i ∷ []) ∙ sym (map-append volume_part rows (row ∷ []));
      agreed = (
        λ t. let both = reports.0 t in all.1 (h.agreed.0 both.0, both.1),
        λ a. let both = all.0 a in reports.1 (h.agreed.1 both.0, both.1),
      );
    }
