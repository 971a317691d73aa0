-- All that may be made, looked for from the last on.
use Rattle.std.proofs.Common.{◌≡◌, ◌<◌, ◌+◌, ℕ, List, [], ◌∷◌, get_or, inl, inr, refl, sym, subst, arith}
use Rattle.std.proofs.lemmas.Bool.{cases_eq}
use Rattle.desk_sql.specs.declared.opening.finding.TablesPresent.{TablesPresent}
use Rattle.desk_sql.specs.declared.opening.finding.TablesPresent.TheVariants.{Nothing, Operators, Plans, OldVolumes, OldSpans, OldIndex, Volumes, Spans, All, Packed}
use Rattle.desk_sql.specs.Changing.{left_to_make}

abbrev all_made : List TablesPresent
all_made =
    All ∷ Spans ∷ Volumes ∷ OldIndex ∷ OldSpans ∷ OldVolumes ∷ Plans ∷ Operators ∷ Nothing ∷ Packed ∷ []

-- its place among them
abbrev pub place_of : TablesPresent → ℕ
place_of Packed = 9
place_of made = left_to_make made

-- each stands where it is looked for
in_place : (made d : TablesPresent) → get_or all_made (place_of made) d ≡ made
in_place Nothing d = refl
in_place Operators d = refl
in_place Plans d = refl
in_place OldVolumes d = refl
in_place OldSpans d = refl
in_place OldIndex d = refl
in_place Volumes d = refl
in_place Spans d = refl
in_place All d = refl
in_place Packed d = refl

pub few_places : (made : TablesPresent) → place_of made < 10
few_places Nothing = omega arith
few_places Operators = omega arith
few_places Plans = omega arith
few_places OldVolumes = omega arith
few_places OldSpans = omega arith
few_places OldIndex = omega arith
few_places Volumes = omega arith
few_places Spans = omega arith
few_places All = omega arith
few_places Packed = omega arith

-- what holds of those before a place, and of the one there
pub one_more : (P : TablesPresent → Type 0) (at : ℕ) (d : TablesPresent) → ((made : TablesPresent)
    → place_of made < at → P made)
    → P (get_or all_made at d) → (made : TablesPresent) → place_of made < at + 1 → P made
one_more P at d before here made low = elim (cases_eq (place_of made) at) [
  | inl same ↦ subst P (in_place made d) (subst (λ n. P (get_or all_made n d)) (sym same) here)
  | inr other ↦ before made (omega (arith, low, other))
]
