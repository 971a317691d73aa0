-- Each set of leaves has a canonical list.
use Rattle.std.proofs.Common.{◌≡◌, ℕ, ◌+◌, ◌-◌, ◌*◌, ◌^◌, ◌<◌, ◌≤◌, zero, suc, Bool, true, false, List, [], ◌∷◌, ◌++◌, refl, ◌∙◌, ap, subst, arith, inl, inr, ◌⊎◌}
use Rattle.std.specs.Prelude.{IsTrue}
use Rattle.std.proofs.Math.Nat.{mul-le-mul_right}
use Rattle.std.proofs.lemmas.Bool.{cases_lt, cases_Bool}
use Rattle.s2_hilbert.specs.Curve.{leaf_count}
use Rattle.s2_cover.specs.Covers.{leaves_of, IsCanonical, IsLaid, AllIn, SomeIn, IsOpened}
use Rattle.s2_cover.proofs.Laid.{laid_none, laid_upto, laid_more, canonical_when_laid, leaves_when_laid}
use Rattle.s2_cover.proofs.SquareCells.{IsBlock, block_at, four_children}
use Rattle.s2_cover.proofs.Walks.{block_largest, child_opened}

-- a set has all of some positions, or not one of them
pub all_or_one : (set : ℕ → Bool) (first more : ℕ)
    → AllIn first (first + more) set true ⊎ SomeIn first (first + more) set false
all_or_one set first zero = elim (cases_Bool (set first)) [
  | inl has ↦ inl (λ p low high. let same : p ≡ first = omega (arith, low, high) in ap set same ∙ has)
  | inr not ↦ inr (record { number = first; low = omega arith; high = omega arith; is = not })
]
all_or_one set first (suc more) = elim (all_or_one set first more) [
  | inr some ↦ inr (record {
    number = some.number;
    low = some.low;
    high = omega (arith, some.high);
    is = some.is;
  })
  | inl all ↦ elim (cases_Bool (set (first + suc more))) [
    | inr not ↦ inr (record {
      number = first + suc more;
      low = omega arith;
      high = omega arith;
      is = not;
    })
    | inl has ↦ inl (λ p low high. elim (cases_lt p (first + suc more)) [
      | inl less ↦ all p low (omega (arith, less))
      | inr last ↦ let same : p ≡ first + suc more = omega (arith, last, high) in ap set same ∙ has
    ])
  ]
]

-- the id of the cell with a number among those of its level
abbrev cell_at : ℕ → ℕ → ℕ
cell_at level number = 2 * (number * leaf_count level) + leaf_count level

-- some list is laid up to a position
abbrev HasLaid : (ℕ → Bool) → ℕ → Type 0
HasLaid set upto = (ids : List ℕ) × IsLaid set ids upto

quarter_place : (level number k : ℕ) → level < 30
    → (4 * number + k) * leaf_count (level + 1) ≡ number * leaf_count level + k * leaf_count (level + 1)
quarter_place level number k inner =
    let four : number * leaf_count level ≡ number * (4 * leaf_count (level + 1)) =
    ap (λ n. number * n) (four_children level inner) in
    omega (arith, four)

-- what a cell's quarters are given, if the cell has a leaf outside the set
lay_quarter : (set : ℕ → Bool) (level number k : ℕ) → level < 30 → k < 4
    → number * leaf_count level + leaf_count level ≤ 6 * 2 ^ 60
    → SomeIn (number * leaf_count level) (number * leaf_count level + (leaf_count level - 1)) set false
    → ((4 * number + k) * leaf_count (level + 1) + leaf_count (level + 1) ≤ 6 * 2 ^ 60)
    × IsOpened set (cell_at (level + 1) (4 * number + k))
lay_quarter set level number k inner below within outside =
    let place = quarter_place level number k inner in
    let four = four_children level inner in
    let more : k + 1 ≤ 4 = omega (arith, below) in
    let room : k * leaf_count (level + 1) + leaf_count (level + 1) ≤ 4 * leaf_count (level + 1) =
    omega (arith, mul-le-mul_right (leaf_count (level + 1)) more) in
    let fits : (4 * number + k) * leaf_count (level + 1) + leaf_count (level + 1) ≤ 6 * 2 ^ 60 =
    omega (arith, place, four, room, within) in
    let whole = block_at level number (omega (arith, inner)) within in
    let quarter = block_at (level + 1) (4 * number + k) (omega (arith, inner)) fits in (
      fits,
      child_opened set (cell_at (level + 1) (4 * number + k)) (cell_at level number) level
          (number * leaf_count level) k whole below inner
          (subst (IsBlock (cell_at (level + 1) (4 * number + k)) (level + 1)) place quarter) outside,
    )

next_quarter : (level number k : ℕ)
    → (4 * number + k) * leaf_count (level + 1) + leaf_count (level + 1)
    ≡ (4 * number + (k + 1)) * leaf_count (level + 1)
next_quarter level number k = omega arith

-- a cell whose leaves all belong to the set
lay_whole : (set : ℕ → Bool) (level number : ℕ) → level ≤ 30
    → number * leaf_count level + leaf_count level ≤ 6 * 2 ^ 60 → IsOpened set (cell_at level number)
    → AllIn (number * leaf_count level) (number * leaf_count level + (leaf_count level - 1)) set true
    → HasLaid set (number * leaf_count level) → HasLaid set
    (number * leaf_count level + leaf_count level)
lay_whole set level number at_most within opened all laid =
    let id = cell_at level number in
    let first = number * leaf_count level in
    let block = block_at level number at_most within in
    let largest = block_largest set id level first block opened all in (
      laid.0 ++ id ∷ [],
      subst (IsLaid set (laid.0 ++ id ∷ [])) block.ends
          (laid_more set laid.0 first id laid.1 largest block.begins),
    )

-- a leaf outside the set
lay_none : (set : ℕ → Bool) (level number : ℕ) → level ≡ 30
    → SomeIn (number * leaf_count level) (number * leaf_count level + (leaf_count level - 1)) set false
    → HasLaid set (number * leaf_count level) → HasLaid set
    (number * leaf_count level + leaf_count level)
lay_none set level number last outside laid =
    let none : 30 - level ≡ 0 = omega (arith, last) in
    let one : leaf_count level ≡ 1 = ap (λ n. 4 ^ n) none in
    let first = number * leaf_count level in (
      laid.0,
      laid_upto set laid.0 first (first + leaf_count level) laid.1 (omega arith) (λ p low high.
          let same : p ≡ outside.number = omega (arith, low, high, one, outside.low, outside.high) in
          ap set same ∙ outside.is),
    )

-- the four quarters of a cell, one after another
lay_quarters : (set : ℕ → Bool) (level number : ℕ) → level < 30
    → ((k : ℕ) → k < 4 → HasLaid set ((4 * number + k) * leaf_count (level + 1))
    → HasLaid set ((4 * number + k) * leaf_count (level + 1) + leaf_count (level + 1)))
    → HasLaid set (number * leaf_count level) → HasLaid set
    (number * leaf_count level + leaf_count level)
lay_quarters set level number inner lay laid =
    let begins : number * leaf_count level ≡ (4 * number + 0) * leaf_count (level + 1) =
    omega (arith, quarter_place level number 0 inner) in
    let ends : (4 * number + 4) * leaf_count (level + 1)
    ≡ number * leaf_count level + leaf_count level =
    omega (arith, quarter_place level number 4 inner, four_children level inner) in
    let step : (k : ℕ) → k < 4 → HasLaid set ((4 * number + k) * leaf_count (level + 1))
    → HasLaid set ((4 * number + (k + 1)) * leaf_count (level + 1)) =
    λ k below before. subst (HasLaid set) (next_quarter level number k) (lay k below before) in
    subst (HasLaid set) ends
    (step 3 (omega arith) (step 2 (omega arith) (step 1 (omega arith) (step 0 (omega arith)
    (subst (HasLaid set) begins laid)))))

lay_block : (set : ℕ → Bool) (height level number : ℕ) → level + height ≡ 30
    → number * leaf_count level + leaf_count level ≤ 6 * 2 ^ 60 → IsOpened set (cell_at level number)
    → HasLaid set (number * leaf_count level) → HasLaid set
    (number * leaf_count level + leaf_count level)
lay_block set zero level number total within opened laid =
    elim (all_or_one set (number * leaf_count level) (leaf_count level - 1)) [
      | inl all ↦ lay_whole set level number (omega (arith, total)) within opened all laid
      | inr outside ↦ lay_none set level number (omega (arith, total)) outside laid
    ]
lay_block set (suc height) level number total within opened laid =
    elim (all_or_one set (number * leaf_count level) (leaf_count level - 1)) [
      | inl all ↦ lay_whole set level number (omega (arith, total)) within opened all laid
      | inr outside ↦
          let inner : level < 30 = omega (arith, total) in
          lay_quarters set level number inner (λ k below before.
          let given = lay_quarter set level number k inner below within outside in
          lay_block set height (level + 1) (4 * number + k) (omega (arith, total)) given.0 given.1
          before)
          laid
    ]

lay_faces : (set : ℕ → Bool) (faces : ℕ) → faces ≤ 6 → HasLaid set (faces * leaf_count 0)
lay_faces set zero most = ([], laid_none set)
lay_faces set (suc faces) most =
    let within : faces * leaf_count 0 + leaf_count 0 ≤ 6 * 2 ^ 60 = omega (arith, most) in
    let block = block_at 0 faces (omega arith) within in
    let next : faces * leaf_count 0 + leaf_count 0 ≡ suc faces * leaf_count 0 = omega arith in
    subst (HasLaid set) next
    (lay_block set 30 0 faces refl within (inl block.level_is)
    (lay_faces set faces (omega (arith, most))))

pub has_canonical : (set : ℕ → Bool) → ((p : ℕ) → IsTrue (set p) → p < 6 * 2 ^ 60)
    → (ids : List ℕ) × (IsCanonical set ids × ((p : ℕ) → leaves_of ids p ≡ set p))
has_canonical set below =
    let laid = lay_faces set 6 (omega arith) in
    let within : (p : ℕ) → IsTrue (set p) → p < 6 * leaf_count 0 = λ p has. omega (arith, below p has)
    in (
      laid.0,
      (
        canonical_when_laid set laid.0 (6 * leaf_count 0) laid.1 within,
        leaves_when_laid set laid.0 (6 * leaf_count 0) laid.1 within,
      ),
    )
