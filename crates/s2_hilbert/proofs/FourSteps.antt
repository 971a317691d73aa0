-- The walks down a face, four levels at a step.
use Rattle.std.proofs.Common.{◌≡◌, ℕ, ◌+◌, ◌-◌, ◌*◌, ◌/◌, ◌%◌, ◌^◌, ◌<◌, ◌≤◌, bit_and, refl, sym, ◌∙◌, arith}
use Rattle.std.proofs.lemmas.Nat.{pow-add, shr-shr, and_mask}
use Rattle.std.proofs.Math.Nat.{pow-le-pow_right}
use Rattle.s2_hilbert.specs.Curve.{quadrant_at, place_of, turned, quadrant_of, place, turn_at}
use Rattle.s2_hilbert.proofs.lemmas.Place.{split_at, place_below, turn_below}
use Rattle.s2_hilbert.proofs.Steps.{HasWalked, walk_begins, walk_goes_on, HasFound, search_begins, search_goes_on}
use Rattle.s2_hilbert.proofs.lemmas.Place.{power_of_four}

-- four more levels of a walk to a place
walk_four : (turn i j step at along bit : ℕ) → step + 4 + bit ≡ 30 → HasWalked 30 turn i j step at along
    → HasWalked 30 turn i j (step + 4) (turn_at 4 at (i / 2 ^ bit % 16) (j / 2 ^ bit % 16))
    (256 * along + place 4 at (i / 2 ^ bit % 16) (j / 2 ^ bit % 16))
walk_four turn i j step at along bit sum walked =
    let above : 30 - step ≡ bit + 4 = omega arith in
    let here : 30 - (step + 4) ≡ bit = omega arith in
    let split = split_at step 4 (step + 4) turn (i / 2 ^ bit) (j / 2 ^ bit) refl in
    let turn_is = rw above at walked.turn_is in
    let place_is = rw above at walked.place_is in
    let places = rw (shr-shr i bit 4, shr-shr j bit 4, ← turn_is, ← place_is) at split.places in
    let turns = rw (shr-shr i bit 4, shr-shr j bit 4, ← turn_is) at split.turns in
    let low = place_below 4 at (i / 2 ^ bit % 16) (j / 2 ^ bit % 16) walked.turn_below in
    let power : 4 ^ (step + 4) ≡ 256 * 4 ^ step = pow-add 4 step 4 ∙ omega arith in
    record {
      turn_is = rw here (sym turns);
      turn_below = turn_below 4 at (i / 2 ^ bit % 16) (j / 2 ^ bit % 16) walked.turn_below;
      place_is = rw here (omega (arith, places));
      place_below = rw power (omega (arith, walked.place_below, low));
    }

-- the walk by two plain steps and then `step` steps of four levels
pub record HasFours (turn i j step row along : ℕ) : Type 0 where
  pub row_is : row ≡ 256 * (row / 256)
  pub walked : HasWalked 30 turn i j (2 + 4 * step) (row / 256) along

pub record IsKey (row pair key : ℕ) : Type 0 where
  pub below : key < 1024
  pub turn_is : key / 256 ≡ row / 256
  pub high : key / 16 % 16 ≡ pair / 16
  pub low : key % 16 ≡ pair % 16
  pub pair_is : key % 256 ≡ pair

pub is_key : (row pair : ℕ) → row ≡ 256 * (row / 256) → row / 256 < 4 → pair < 256 → IsKey row pair
    (row + pair)
is_key row pair row_is row_below pair_below = record {
  below = omega arith;
  turn_is = omega arith;
  high = omega arith;
  low = omega arith;
  pair_is = omega arith;
}

pub fours_begin : (turn i j first half second whole : ℕ) → turn < 4
    → first ≡ place_of turn (quadrant_of 29 i j) → half ≡ turned turn first
    → second ≡ place_of half (quadrant_of 28 i j) → whole ≡ turned half second
    → HasFours turn i j 0 (256 * whole) (4 * first + second)
fours_begin turn i j first half second whole below first_is half_is second_is whole_is =
    let one = walk_goes_on 30 turn i j 0 turn 0 29 first (omega arith) refl first_is
    (walk_begins 30 turn i j below) in
    let plain : 4 * 0 + first ≡ first = omega arith in
    let one' = rw (plain, ← half_is) at one in
    let two = walk_goes_on 30 turn i j 1 half first 28 second (omega arith) refl second_is one' in
    let row : 256 * whole / 256 ≡ whole = omega arith in
    record {
      row_is = rw row refl;
      walked = rw (row, whole_is) two;
    }

pub fours_go_on : (turn i j step row along digit pair place' row' : ℕ) → step + digit ≡ 6
    → pair ≡ 16 * (i / 2 ^ (4 * digit) % 16) + j / 2 ^ (4 * digit) % 16 → pair < 256
    → place' ≡ place 4 ((row + pair) / 256) ((row + pair) / 16 % 16) ((row + pair) % 16)
    → row' ≡ 256 * turn_at 4 ((row + pair) / 256) ((row + pair) / 16 % 16) ((row + pair) % 16)
    → HasFours turn i j step row along
    → HasFours turn i j (step + 1) row' (256 * along + place')
fours_go_on turn i j step row along digit pair place' row' sum pair_is pair_below place_is row_is
    four_levels =
    let key = is_key row pair four_levels.row_is four_levels.walked.turn_below pair_below in
    let high : pair / 16 ≡ i / 2 ^ (4 * digit) % 16 = omega arith in
    let low : pair % 16 ≡ j / 2 ^ (4 * digit) % 16 = omega arith in
    let place_is' = rw (key.turn_is, key.high, key.low, high, low) at place_is in
    let row_is' = rw (key.turn_is, key.high, key.low, high, low) at row_is in
    let next = walk_four turn i j (2 + 4 * step) (row / 256) along (4 * digit) (omega arith)
    four_levels.walked in
    let levels : 2 + 4 * (step + 1) ≡ 2 + 4 * step + 4 = omega arith in
    let turn_is : row' / 256 ≡ turn_at 4 (row / 256) (i / 2 ^ (4 * digit) % 16)
    (j / 2 ^ (4 * digit) % 16) =
    omega (arith, row_is') in
    record {
      row_is = omega (arith, row_is');
      walked = rw (levels, turn_is, place_is') next;
    }

-- one more step fits
pub fours_fit : (turn i j step row along : ℕ) → step < 7 → HasFours turn i j step row along
    → 256 * along + 256 ≤ 2 ^ 60
fours_fit turn i j step row along inside four_levels =
    let within : 2 + 4 * step ≤ 26 = omega arith in
    let power : 4 ^ (2 + 4 * step) ≤ 4 ^ 26 = pow-le-pow_right (omega arith) within in
    omega (arith, power, four_levels.walked.place_below)

-- the places four levels above
sixteenth : (along n : ℕ) → along / 4 ^ n / 256 ≡ along / 4 ^ (n + 4)
sixteenth along n =
    let power : 2 * (n + 4) ≡ 2 * n + 8 = omega arith in
    rw (power_of_four n, power_of_four (n + 4), power) (shr-shr along (2 * n) 8)

-- four more levels of a walk to a point
found_four : (turn along step at i j i4 j4 low : ℕ) → step + 4 + low ≡ 30
    → place 4 at i4 j4 ≡ along / 4 ^ low % 256 → i4 < 16 → j4 < 16
    → HasFound turn along step at i j
    → HasFound turn along (step + 4) (turn_at 4 at i4 j4) (16 * i + i4) (16 * j + j4)
found_four turn along step at i j i4 j4 low sum four_is i4_below j4_below found =
    let above : 30 - step ≡ low + 4 = omega arith in
    let here : 30 - (step + 4) ≡ low = omega arith in
    let i' = 16 * i + i4 in
    let j' = 16 * j + j4 in
    let i_high : i' / 16 ≡ i = omega arith in
    let j_high : j' / 16 ≡ j = omega arith in
    let i_low : i' % 16 ≡ i4 = omega arith in
    let j_low : j' % 16 ≡ j4 = omega arith in
    let split = split_at step 4 (step + 4) turn i' j' refl in
    let place_is = rw above at found.place_is in
    let places = rw (i_high, j_high, i_low, j_low, ← found.turn_is, place_is, four_is) at split.places
    in
    let turns = rw (i_high, j_high, i_low, j_low, ← found.turn_is) at split.turns in
    let power : 2 ^ (step + 4) ≡ 16 * 2 ^ step = pow-add 2 step 4 ∙ omega arith in
    record {
      turn_is = sym turns;
      turn_below = turn_below 4 at i4 j4 found.turn_below;
      place_is = rw here (omega (arith, places, sixteenth along low));
      i_below = rw power (omega (arith, found.i_below));
      j_below = rw power (omega (arith, found.j_below));
    }

-- the walk by two plain steps and then `step` steps of four levels
pub record HasFoundFours (turn along step row i j : ℕ) : Type 0 where
  pub row_is : row ≡ 256 * (row / 256)
  pub found : HasFound turn along (2 + 4 * step) (row / 256) i j

pub found_begin : (turn along first half second whole outer inner : ℕ) → turn < 4 → along < 4 ^ 30
    → first ≡ along / 4 ^ 29 % 4 → half ≡ turned turn first → outer ≡ quadrant_at turn first
    → second ≡ along / 4 ^ 28 % 4 → whole ≡ turned half second → inner ≡ quadrant_at half second
    → HasFoundFours turn along 0 (256 * whole) (2 * (outer / 2) + inner / 2)
    (2 * (outer % 2) + inner % 2)
found_begin turn along first half second whole outer inner turn_low along_low first_is half_is outer_is
    second_is whole_is inner_is =
    let one = search_goes_on turn along 0 turn 0 0 first (omega arith) first_is
    (search_begins turn along turn_low along_low) in
    let i : 2 * 0 + outer / 2 ≡ outer / 2 = omega arith in
    let j : 2 * 0 + outer % 2 ≡ outer % 2 = omega arith in
    let one' = rw (← outer_is, i, j, ← half_is) at one in
    let two = search_goes_on turn along 1 half (outer / 2) (outer % 2) second (omega arith) second_is
    one' in
    let row : 256 * whole / 256 ≡ whole = omega arith in
    record {
      row_is = rw row refl;
      found = rw (row, whole_is, inner_is) two;
    }

pub found_go_on : (turn along step row i j low pair i4 j4 row' : ℕ) → step + low ≡ 6
    → pair ≡ along / 4 ^ (4 * low) % 256
    → place 4 ((row + pair) / 256) i4 j4 ≡ (row + pair) % 256 → i4 < 16 → j4 < 16
    → row' ≡ 256 * turn_at 4 ((row + pair) / 256) i4 j4
    → HasFoundFours turn along step row i j
    → HasFoundFours turn along (step + 1) row' (16 * i + i4) (16 * j + j4)
found_go_on turn along step row i j low pair i4 j4 row' sum pair_is place_is i4_below j4_below row_is
    four_levels =
    let pair_below : pair < 256 = omega arith in
    let key = is_key row pair four_levels.row_is four_levels.found.turn_below pair_below in
    let place_is' = rw (key.turn_is, key.pair_is, pair_is) at place_is in
    let row_is' = rw key.turn_is at row_is in
    let next = found_four turn along (2 + 4 * step) (row / 256) i j i4 j4 (4 * low)
    (omega arith) place_is' i4_below j4_below four_levels.found in
    let levels : 2 + 4 * (step + 1) ≡ 2 + 4 * step + 4 = omega arith in
    let turn_is : row' / 256 ≡ turn_at 4 (row / 256) i4 j4 = omega (arith, row_is') in
    record {
      row_is = omega (arith, row_is');
      found = rw (levels, turn_is) next;
    }

pub found_fit : (turn along step row i j : ℕ) → step < 7 → HasFoundFours turn along step row i j
    → (i < 2 ^ 26) × (j < 2 ^ 26)
found_fit turn along step row i j inside four_levels =
    let within : 2 + 4 * step ≤ 26 = omega arith in
    let power : 2 ^ (2 + 4 * step) ≤ 2 ^ 26 = pow-le-pow_right (omega arith) within in
    (omega (arith, power, four_levels.found.i_below), omega (arith, power, four_levels.found.j_below))

-- a byte of a place has the digits of four levels
pub byte_is : (along low : ℕ) → bit_and (along / 2 ^ (8 * low)) 255 ≡ along / 4 ^ (4 * low) % 256
byte_is along low =
    let power : 2 * (4 * low) ≡ 8 * low = omega arith in
    rw (power_of_four (4 * low), power) (and_mask (along / 2 ^ (8 * low)) 8)
