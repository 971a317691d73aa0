-- The cells that begin at a position.
use Rattle.std.proofs.Common.{◌≡◌, ℕ, zero, suc, ◌+◌, ◌-◌, ◌*◌, ◌/◌, ◌%◌, ◌^◌, ◌<◌, ◌≤◌, Option, Some, None, sym, ◌∙◌, ap, arith, inl, inr}
use Rattle.std.specs.Prelude.{min}
use Rattle.std.specs.Int.{w64, bit_at, trailing_zeros}
use Rattle.std.specs.Int.Count.{trailing_of_zero}
use Rattle.std.proofs.lemmas.Nat.Bits.{bit_at-trailing_zeros}
use Rattle.std.specs.Option.{SomeIff}
use Rattle.std.proofs.Math.Nat.{pow-le-pow_right}
use Rattle.std.proofs.lemmas.Nat.{pow_pos, pow-add, shl-shr, div-add-mod', mod-mul-add}
use Rattle.std.proofs.lemmas.Bool.{cases_lt}
use Rattle.s2_cellid.specs.Cell.{lowest_place, first_leaf}
use Rattle.s2_hilbert.specs.Curve.{leaf_count}
use Rattle.s2_hilbert.proofs.lemmas.Place.{power_of_four}
use Rattle.s2_cellid.proofs.lemmas.Block.{zero_low, power_double, number_of}
use Rattle.s2_cellid.proofs.lemmas.Family.{IsCellOf, cell_of}
use Rattle.s2_cover.specs.Covers.{IsLargestFrom, EndsWithin, IsLargestFitting}
use Rattle.s2_cover.proofs.Nesting.{has_leaves, place_of}

pub some_when : {T : Type 0} (o : Option T) (P : Type 0) (v : T) → SomeIff o P v → P → o ≡ Some v
some_when None P v none holds = absurd (none holds)
some_when (Some x) P v some holds = ap Some some.1

pub at_some : {T : Type 0} (o : Option T) (P : Type 0) (v x : T) → SomeIff o P v → o ≡ Some x
    → P × (x ≡ v)
at_some None P v x none is = let clash : None ≡ Some x = is in cc
at_some (Some y) P v x some is = let same : y ≡ x = cc in (some.0, sym same ∙ some.1)

never_less : (a b : ℕ) → 2 ^ a ≡ 2 ^ b → a < b → ⊥
never_less a b same less =
    let up = pow-le-pow_right {n = 2} (omega arith) {i = a + 1} {j = b} (omega (arith, less)) in
    let twice = pow-add 2 a 1 in omega (arith, same, up, twice, pow_pos a)

pub same_place : (a b : ℕ) → 2 ^ a ≡ 2 ^ b → a ≡ b
same_place a b same = elim (cases_lt a b) [
  | inl less ↦ absurd (never_less a b same less)
  | inr at_least ↦ elim (cases_lt b a) [
    | inl more ↦ absurd (never_less b a (sym same) more)
    | inr at_most ↦ omega (arith, at_least, at_most)
  ]
]

-- a number that ends in so many zeros
aligned_below : (n place : ℕ) → n < 2 ^ 64 → place ≤ 60 → place ≤ trailing_zeros w64 n → n % 2 ^ place
    ≡ 0
aligned_below zero place fits within zeros =
    let none : 0 ≡ 0 * 2 ^ place + 0 = omega arith in
    ap (λ n. n % 2 ^ place) none ∙ mod-mul-add 0 (2 ^ place) 0 (pow_pos place)
aligned_below (suc n) place fits within zeros =
    let bits = bit_at-trailing_zeros w64 (suc n) (omega arith) fits in
    zero_low place (suc n) (λ i below. bits.2 i (omega (arith, below, zeros)))

even_bit : (n number high low : ℕ) → n ≡ number * 2 ^ high → low < high → bit_at n low ≡ 0
even_bit n number high low is below =
    let power = power_double low high below in
    let product : n ≡ (2 * (number * 2 ^ (high - low - 1))) * 2 ^ low =
    is ∙ ap (λ m. number * m) power ∙ regroup number (2 ^ (high - low - 1)) (2 ^ low) in
    let half : n / 2 ^ low ≡ 2 * (number * 2 ^ (high - low - 1)) =
    ap (λ m. m / 2 ^ low) product ∙ shl-shr (2 * (number * 2 ^ (high - low - 1))) low in
    omega (arith, half)
  where
    regroup : (a b c : ℕ) → a * (b * (2 * c)) ≡ (2 * (a * b)) * c
    regroup a b c = omega arith

zeros_of : (n place : ℕ) → n < 2 ^ 64 → place ≤ 60 → n % 2 ^ place ≡ 0 → place ≤ trailing_zeros w64 n
zeros_of zero place fits within aligned = rw (trailing_of_zero 64) (omega arith)
zeros_of (suc n) place fits within aligned =
    let bits = bit_at-trailing_zeros w64 (suc n) (omega arith) fits in
    let whole : suc n ≡ suc n / 2 ^ place * 2 ^ place =
    omega (arith, div-add-mod' (suc n) (2 ^ place)) in
    elim (cases_lt (trailing_zeros w64 (suc n)) place) [
      | inl below ↦
          absurd (omega (
            arith,
            bits.1,
            even_bit (suc n) (suc n / 2 ^ place) place (trailing_zeros w64
                (suc n)) whole below,
          ))
      | inr above ↦ above
    ]

-- the place that the zeros of the position and the positions that are left allow
pub largest_fitting : (first last room limit : ℕ) → first ≤ last → last < 6 * 2 ^ 60
    → 2 ^ room ≤ last - first + 1 → last - first + 1 < 2 * 2 ^ room
    → limit ≡ min (min (trailing_zeros w64 first) room) 60
    → IsLargestFitting first last (limit - limit % 2)
largest_fitting first last room limit ordered below low high limit_is =
    let zeros : limit ≤ trailing_zeros w64 first = omega arith in
    let fits : limit ≤ room = omega arith in
    let within : limit ≤ 60 = omega arith in
    let place = limit - limit % 2 in
    let power : 2 ^ place ≤ 2 ^ room = pow-le-pow_right {n = 2} (omega arith) {i = place} {j = room}
    (omega arith) in
    record {
      is = record {
        even = omega arith;
        at_most = omega arith;
        aligned = aligned_below first place (omega arith) (omega arith) (omega arith);
        ends = omega (arith, power);
      };
      largest = λ other is.
          let by_zeros = zeros_of first other (omega arith) is.at_most is.aligned in
          let by_room : other ≤ room = elim (cases_lt room other) [
            | inl less ↦
                let up = pow-le-pow_right {n = 2} (omega arith) {i = room + 1} {j = other} (omega
                (arith, less)) in
                absurd (omega (arith, up, pow-add 2 room 1, is.ends))
            | inr at_most ↦ at_most
          ] in
          omega (arith, by_zeros, by_room, is.at_most, is.even);
    }

-- the id that a position and the place of the lowest bit make
abbrev pub id_from : ℕ → ℕ → ℕ
id_from first place = 2 * first + 1 * 2 ^ place % 2 ^ 64

-- a position that begins a cell of a level
pub begun : (first last place : ℕ) → last < 6 * 2 ^ 60 → EndsWithin first last place
    → IsCellOf (id_from first place) (30 - place / 2) (first / 2 ^ place)
begun first last place below is =
    let level = 30 - place / 2 in
    let bits : 2 * (30 - level) ≡ place = omega (arith, is.even, is.at_most) in
    let count : leaf_count level ≡ 2 ^ place = power_of_four (30 - level) ∙ ap (λ n. 2 ^ n) bits in
    let whole : first ≡ first / 2 ^ place * 2 ^ place = omega (
      arith,
      div-add-mod' first
          (2 ^ place),
      is.aligned,
    ) in
    let bounded : 2 ^ place ≤ 2 ^ 60 = pow-le-pow_right {n = 2}
    (omega arith) {i = place} {j = 60} is.at_most in
    cell_of (id_from first place) level (first / 2 ^ place) (omega arith)
    (rw count (omega (arith, whole, is.ends, below))) (rw count (omega (arith, whole, bounded)))

pub largest_of : (first last place : ℕ) → last < 6 * 2 ^ 60 → IsLargestFitting first last place
    → IsLargestFrom first last (id_from first place)
largest_of first last place below fitting =
    let is = fitting.is in
    let id = id_from first place in
    let cell = begun first last place below is in
    let leaves = has_leaves id cell.valid in
    let level = 30 - place / 2 in
    let bits : 2 * (30 - level) ≡ place = omega (arith, is.even, is.at_most) in
    let count : leaf_count level ≡ 2 ^ place = power_of_four (30 - level) ∙ ap (λ n. 2 ^ n) bits in
    let whole : first ≡ first / 2 ^ place * 2 ^ place = omega (
      arith,
      div-add-mod' first
          (2 ^ place),
      is.aligned,
    ) in
    let lowest : 2 ^ lowest_place id ≡ 2 ^ place = cell.lowest_is ∙ count in
    let begins : first_leaf id ≡ first = cell.first_is ∙ ap (λ n. first / 2 ^ place * n) count
    ∙ sym whole in
    let place_is = same_place (lowest_place id) place lowest in
    record {
      is = record {
        valid = cell.valid;
        begins = begins;
        ends = omega
            (arith, leaves.ended, begins, lowest, is.ends);
      };
      largest = λ other there.
          let other_leaves = has_leaves other there.valid in
          let other_place = place_of other there.valid in
          let product : first ≡ number_of other * 2 ^ lowest_place other + 0 =
          omega (arith, there.begins, other_leaves.block) in
          let aligned : first % 2 ^ lowest_place other ≡ 0 =
          ap (λ n. n % 2 ^ lowest_place other) product
          ∙ mod-mul-add (number_of other) (2 ^ lowest_place other) 0 (pow_pos (lowest_place other)) in
          let most = fitting.largest (lowest_place other) (record {
            even = other_place.0;
            at_most = other_place.1;
            aligned = aligned;
            ends = omega (arith, other_leaves.ended, there.begins, there.ends);
          }) in
          omega (arith, most, place_is);
    }
