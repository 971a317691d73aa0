-- The walks down the levels, one level at a step.
use Rattle.std.proofs.Common.{◌≡◌, ℕ, ◌+◌, ◌-◌, ◌*◌, ◌/◌, ◌%◌, ◌^◌, ◌<◌, bit_and, refl, sym, ◌∙◌, arith}
use Rattle.std.proofs.lemmas.Nat.{pow-add, shr-shr, and_mask}
use Rattle.s2_hilbert.specs.Curve.{quadrant_at, place_of, turned, quadrant_of, place, turn_at}
use Rattle.s2_hilbert.proofs.lemmas.Quadrant.{is_place, is_quadrant}
use Rattle.s2_hilbert.proofs.lemmas.Place.{split_at, quadrant_below, power_of_four}

-- the quadrant that the lowest bits name
abbrev pub last_quadrant : ℕ → ℕ → ℕ
last_quadrant i j = 2 * (i % 2) + j % 2

-- one more level at the end
pub record HasLast (k turn i j : ℕ) : Type 0 where
  pub places : place (k + 1) turn i j ≡ 4 * place k turn (i / 2) (j / 2)
      + place_of (turn_at k turn (i / 2) (j / 2)) (last_quadrant i j)
  pub turns : turn_at (k + 1) turn i j ≡ turned (turn_at k turn (i / 2) (j / 2))
      (place_of (turn_at k turn (i / 2) (j / 2)) (last_quadrant i j))

one_level : (turn i j : ℕ) → place 1 turn (i % 2) (j % 2) ≡ place_of turn (last_quadrant i j)
unfolding place
one_level turn i j =
    let quadrant : quadrant_of 0 (i % 2) (j % 2) ≡ last_quadrant i j = omega arith in
    rw quadrant (omega arith)

one_turn : (turn i j : ℕ) → turn_at 1 turn (i % 2) (j % 2) ≡ turned turn (place_of turn (last_quadrant i j))
unfolding turn_at
one_turn turn i j =
    let quadrant : quadrant_of 0 (i % 2) (j % 2) ≡ last_quadrant i j = omega arith in
    rw quadrant refl

pub has_last : (k turn i j : ℕ) → HasLast k turn i j
has_last k turn i j =
    let split = split_at k 1 (k + 1) turn i j refl in
    let above = turn_at k turn (i / 2) (j / 2) in
    record {
      places = split.places ∙ rw (one_level above i j) (omega arith);
      turns = split.turns ∙ one_turn above i j;
    }

-- after `step` of the levels: the place among the squares of that level, and the orientation there
pub record HasWalked (levels turn i j step at along : ℕ) : Type 0 where
  pub turn_is : at ≡ turn_at step turn (i / 2 ^ (levels - step)) (j / 2 ^ (levels - step))
  pub turn_below : at < 4
  pub place_is : along ≡ place step turn (i / 2 ^ (levels - step)) (j / 2 ^ (levels - step))
  pub place_below : along < 4 ^ step

pub walk_begins : (levels turn i j : ℕ) → turn < 4 → HasWalked levels turn i j 0 turn 0
unfolding place turn_at
walk_begins levels turn i j below =
    record { turn_is = refl; turn_below = below; place_is = refl; place_below = omega arith }

half : (i bit above : ℕ) → above ≡ bit + 1 → i / 2 ^ bit / 2 ≡ i / 2 ^ above
half i bit above is = rw is (shr-shr i bit 1)

pub walk_goes_on : (levels turn i j step at along bit next : ℕ) → step < levels → bit ≡ levels - 1 - step
    → next ≡ place_of at (quadrant_of bit i j)
    → HasWalked levels turn i j step at along
    → HasWalked levels turn i j (step + 1) (turned at next) (4 * along + next)
walk_goes_on levels turn i j step at along bit next inside bit_is next_is walked =
    let above : levels - step ≡ bit + 1 = omega arith in
    let here : levels - (step + 1) ≡ bit = omega arith in
    let last = has_last step turn (i / 2 ^ bit) (j / 2 ^ bit) in
    let places = rw (
      half i bit (levels - step) above,
      half j bit
          (levels - step) above,
      ← walked.turn_is,
      ← walked.place_is,
    ) at last.places in
    let turns = rw (
      half i bit (levels - step) above,
      half j bit
          (levels - step) above,
      ← walked.turn_is,
    ) at last.turns in
    let facts = is_quadrant at (quadrant_of bit i j) walked.turn_below (quadrant_below bit i j) in
    let next_below : next < 4 = omega (arith, facts.place_below) in
    let power : 4 ^ (step + 1) ≡ 4 * 4 ^ step = pow-add 4 step 1 ∙ omega arith in
    record {
      turn_is = rw (here, next_is) (sym turns);
      turn_below = (is_place at next walked.turn_below next_below).turned_below;
      place_is = rw (here, next_is) (sym places);
      place_below = rw power (omega (arith, walked.place_below));
    }

-- the places on the level above
quarter : (along n : ℕ) → along / 4 ^ n / 4 ≡ along / 4 ^ (n + 1)
quarter along n =
    let power : 2 * (n + 1) ≡ 2 * n + 2 = omega arith in
    rw (power_of_four n, power_of_four (n + 1), power) (shr-shr along (2 * n) 2)

-- after `step` of the levels: a point of a square of that many levels, and the orientation there
pub record HasFound (turn along step at i j : ℕ) : Type 0 where
  pub turn_is : at ≡ turn_at step turn i j
  pub turn_below : at < 4
  pub place_is : place step turn i j ≡ along / 4 ^ (30 - step)
  pub i_below : i < 2 ^ step
  pub j_below : j < 2 ^ step

pub search_begins : (turn along : ℕ) → turn < 4 → along < 4 ^ 30 → HasFound turn along 0 turn 0 0
unfolding place turn_at
search_begins turn along turn_below below =
    record {
      turn_is = refl;
      turn_below = turn_below;
      place_is = omega arith;
      i_below = omega arith;
      j_below
          = omega arith;
    }

pub digit_is : (along bits step : ℕ) → step < 30 → bits ≡ 2 * (30 - 1 - step) → bit_and (along / 2 ^ bits) 3
    ≡ along / 4 ^ (29 - step) % 4
digit_is along bits step inside bits_is =
    let same : bits ≡ 2 * (29 - step) = omega arith in
    rw (same, ← power_of_four (29 - step)) (and_mask (along / 4 ^ (29 - step)) 2)

pub search_goes_on : (turn along step at i j next : ℕ) → step < 30
    → next ≡ along / 4 ^ (29 - step) % 4 → HasFound turn along step at i j
    → HasFound turn along (step + 1) (turned at next) (2 * i + quadrant_at at next / 2)
    (2 * j + quadrant_at at next % 2)
search_goes_on turn along step at i j next inside next_is found =
    let next_below : next < 4 = omega arith in
    let facts = is_place at next found.turn_below next_below in
    let q = quadrant_at at next in
    let q_below : q < 4 = facts.quadrant_below in
    let i' = 2 * i + q / 2 in
    let j' = 2 * j + q % 2 in
    let i_half : i' / 2 ≡ i = omega arith in
    let j_half : j' / 2 ≡ j = omega arith in
    let quadrant : last_quadrant i' j' ≡ q = omega arith in
    let last = has_last step turn i' j' in
    let turns = rw (i_half, j_half, quadrant, ← found.turn_is, facts.undone) at last.turns in
    let places = rw (i_half, j_half, quadrant, ← found.turn_is, facts.undone, found.place_is) at last.places
    in
    let above : 30 - step ≡ 29 - step + 1 = omega arith in
    let here : 30 - (step + 1) ≡ 29 - step = omega arith in
    let digits : 4 * (along / 4 ^ (30 - step)) + next ≡ along / 4 ^ (29 - step) =
    rw (above, ← quarter along (29 - step)) (omega arith) in
    let power : 2 ^ (step + 1) ≡ 2 * 2 ^ step = pow-add 2 step 1 ∙ omega arith in
    record {
      turn_is = sym turns;
      turn_below = facts.turned_below;
      place_is = rw here (places ∙ digits);
      i_below = rw power (omega (arith, found.i_below));
      j_below = rw power (omega (arith, found.j_below));
    }
