-- The entries of the tables of four levels are those of the definition of the curve.
use Rattle.std.proofs.Common.{◌≡◌, ℕ, zero, suc, ◌+◌, ◌*◌, ◌/◌, ◌%◌, ◌<◌, List, [], ◌∷◌, length, refl, arith}
use Rattle.std.specs.Prelude.{IsTrue, Bool, true, ◌&&◌, ◌==◌, nat_lt, slice_index_or}
use Rattle.std.proofs.lemmas.Bool.{and_parts}
use Rattle.std.proofs.lemmas.Bool.Decides.{nat_tests}
use Rattle.s2_hilbert.specs.Curve.{place_of, turned, place, turn_at}
use Rattle.s2_hilbert.specs.declared.tables.FourPlaces.{FourPlaces}
use Rattle.s2_hilbert.specs.declared.tables.FourPoints.{FourPoints}
use Rattle.s2_hilbert.specs.declared.tables.TheConstants.{PLACES, POINTS}

-- each entry fits its key
unfoldable all_fit : {X : Type 0} → (ℕ → X → Bool) → ℕ → List X → Bool
all_fit fits key [] = true
all_fit fits key (entry ∷ entries) = fits key entry && all_fit fits (suc key) entries

fits_at : {X : Type 0} (fits : ℕ → X → Bool) (first key n : ℕ) (entries : List X) (default : X) → key
    ≡ first + n
    → IsTrue (all_fit fits first entries) → n < length entries → IsTrue (fits key
    (slice_index_or entries n default))
unfolding all_fit
fits_at fits first key n [] default sum all below = absurd (omega arith)
fits_at fits first key zero (entry ∷ entries) default sum all below =
    let same : key ≡ first = omega arith in
    rw same ((and_parts (fits first entry) (all_fit fits (suc first) entries) all).0)
fits_at fits first key (suc n) (entry ∷ entries) default sum all below =
    fits_at fits (suc first) key n entries default (omega arith)
    ((and_parts (fits first entry) (all_fit fits (suc first) entries) all).1) (omega arith)

unfoldable place_fits : ℕ → FourPlaces → Bool
place_fits key entry =
    entry.place == place 4 (key / 256) (key / 16 % 16) (key % 16)
    && (entry.row == 256 * turn_at 4 (key / 256) (key / 16 % 16) (key % 16) && nat_lt entry.place 256)

unfoldable point_fits : ℕ → FourPoints → Bool
point_fits key entry =
    place 4 (key / 256) entry.i entry.j == key % 256
    && (entry.row == 256 * turn_at 4 (key / 256) entry.i entry.j && (nat_lt entry.i 16 && nat_lt entry.j 16))

all_places_fit : IsTrue (all_fit place_fits 0 PLACES)
unfolding place_fits all_fit place turn_at place_of turned
all_places_fit = refl

all_points_fit : IsTrue (all_fit point_fits 0 POINTS)
unfolding point_fits all_fit place turn_at place_of turned
all_points_fit = refl

-- what is known of the entry of a point
pub record IsPlaceEntry (key : ℕ) (entry : FourPlaces) : Type 0 where
  pub place_is : entry.place ≡ place 4 (key / 256) (key / 16 % 16) (key % 16)
  pub row_is : entry.row ≡ 256 * turn_at 4 (key / 256) (key / 16 % 16) (key % 16)
  pub below : entry.place < 256

is_place_entry : (key : ℕ) (entry : FourPlaces) → IsTrue (place_fits key entry) → IsPlaceEntry key entry
unfolding place_fits
is_place_entry key entry fits = record {
  place_is = grind (arith, nat_tests);
  row_is = grind (arith, nat_tests);
  below = grind (arith, nat_tests);
}

pub place_entry : (key : ℕ) (default : FourPlaces) → key < 1024 → IsPlaceEntry key
    (slice_index_or PLACES key default)
place_entry key default below =
    is_place_entry key (slice_index_or PLACES key default)
    (fits_at place_fits 0 key key PLACES default (omega arith) all_places_fit below)

-- what is known of the entry of a place
pub record IsPointEntry (key : ℕ) (entry : FourPoints) : Type 0 where
  pub place_is : place 4 (key / 256) entry.i entry.j ≡ key % 256
  pub row_is : entry.row ≡ 256 * turn_at 4 (key / 256) entry.i entry.j
  pub i_below : entry.i < 16
  pub j_below : entry.j < 16

is_point_entry : (key : ℕ) (entry : FourPoints) → IsTrue (point_fits key entry) → IsPointEntry key entry
unfolding point_fits
is_point_entry key entry fits = record {
  place_is = grind (arith, nat_tests);
  row_is = grind (arith, nat_tests);
  i_below = grind (arith, nat_tests);
  j_below = grind (arith, nat_tests);
}

pub point_entry : (key : ℕ) (default : FourPoints) → key < 1024 → IsPointEntry key
    (slice_index_or POINTS key default)
point_entry key default below =
    is_point_entry key (slice_index_or POINTS key default)
    (fits_at point_fits 0 key key POINTS default (omega arith) all_points_fit below)
