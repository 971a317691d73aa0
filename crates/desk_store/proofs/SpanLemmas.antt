-- How many spans an operator's plans take, and how many cells they have.
use Rattle.std.proofs.Common.{◌≡◌, ℕ, ◌+◌, ◌*◌, ◌≤◌, Bool, true, false, cond, List, [], ◌∷◌, length, map, refl, ap, arith, IsTrue}
use Rattle.std.specs.Prelude.{nat_le}
use Rattle.std.specs.List.{AllByRecursion, filter, sum_by}
use Rattle.std.proofs.lemmas.Bool.{and_parts, leb-true}
use Rattle.std.proofs.lemmas.List.Sums.{sum_by-cons}
use Rattle.volume4d.specs.VolumeLimits.{max_cover, max_volumes}
use Rattle.volume4d.specs.Footprint.{HasValidParts}
use Rattle.volume4d.specs.Volume.{is_footprint, volume_cells, volume_spans, area_cells, area_spans, Block}
use Rattle.desk_rules.specs.declared.plan.PlanRow.{PlanRow}
use Rattle.desk_rules.specs.Limits.{max_plans}
use Rattle.desk_rules.specs.Outcome.{is_live, row_cells, row_spans}
use Rattle.desk_store.specs.World.{IsValidVolume, IsPlan, IsContent, Filed, World, has_id, is_by, cells_beside, count_beside, count_unless, plans_of, rows_by, sizes_beside, spans_beside}
use Rattle.desk_store.specs.declared.sizes.Sizes.{Sizes}
use Rattle.desk_store.proofs.lemmas.Content.{own_plans}

pub count_none : (count : PlanRow → ℕ) (id : List ℕ) → count_beside count id [] ≡ 0
unfolding count_beside
count_none count id = refl

-- one more plan of the operator, and one of another
pub count_added : (count : PlanRow → ℕ) (o id : List ℕ) (p : Filed) (ps : List Filed) (b : Bool) → is_by o p ≡ b
    → count_beside count id (rows_by o (p ∷ ps))
    ≡ cond b (count_unless count id p.row + count_beside count id (rows_by o ps))
    (count_beside count id (rows_by o ps))
unfolding count_beside
count_added count o id p ps true e =
    ap (λ b. count_beside count id (map (λ q. q.row) (cond b (p ∷ filter (is_by o) ps) (filter (is_by o) ps)))) e
count_added count o id p ps false e =
    ap (λ b. count_beside count id (map (λ q. q.row) (cond b (p ∷ filter (is_by o) ps) (filter (is_by o) ps)))) e

-- sizes are equal where both counts are
pub same_sizes : (s : Sizes) (spans cells : ℕ) → s.spans ≡ spans → s.cells ≡ cells
    → s ≡ record { spans = spans; cells = cells }
same_sizes s spans cells of_spans of_cells = λ i. record { spans = of_spans i; cells = of_cells i }

-- where each plan counts few, those of an operator do
module _ (count : PlanRow → ℕ) (few : (row : PlanRow) → IsPlan row → count row ≤ max_volumes * max_cover) where
  unless_few : (id : List ℕ) (row : PlanRow) → IsPlan row → count_unless count id row ≤ max_volumes * max_cover
  unless_few id row h = by_test (has_id id row) where
    by_test : (b : Bool) → cond b 0 (count row) ≤ max_volumes * max_cover
    by_test true = omega arith
    by_test false = few row h

  rows_few : (id : List ℕ) (rows : List PlanRow) → AllByRecursion IsPlan rows
      → count_beside count id rows ≤ length rows * (max_volumes * max_cover)
  unfolding count_beside
  rows_few id [] h = omega arith
  rows_few id (row ∷ rows) h = omega (arith, unless_few id row h.0, rows_few id rows h.1)

  pub few_of : (w : World) (operator id : List ℕ) → IsContent w
      → count_beside count id (plans_of operator w) ≤ max_plans * (max_volumes * max_cover)
  few_of w operator id h =
      omega (
        arith,
        rows_few id (plans_of operator w) (own_plans operator w.plans h.rows),
        h.world.rows operator,
      )

-- a plan counts few, where each of its volumes does
module _ (count : Block → ℕ) (few : (v : Block) → IsTrue (is_footprint v.footprint) → HasValidParts v.footprint
    → count v ≤ max_cover) where
  area_few : (area : List Block) → AllByRecursion IsValidVolume area → sum_by count area ≤ length area * max_cover
  area_few [] h = omega arith
  area_few (v ∷ vs) h =
      omega (arith, sum_by-cons count v vs, few v h.0.limits h.0.valid, area_few vs h.1)

  plan_few : (row : PlanRow) → IsPlan row → sum_by count row.area ≤ max_volumes * max_cover
  plan_few row h =
      let bounds = and_parts (nat_le 1 (length row.area)) _ h.volumes in
      omega (arith, area_few row.area h.each, leb-true (length row.area) max_volumes bounds.1)

module _ (few : (v : Block) → IsTrue (is_footprint v.footprint) → HasValidParts v.footprint
    → volume_spans v ≤ max_cover) where
  row_few : (row : PlanRow) → IsPlan row → row_spans row ≤ max_volumes * max_cover
  row_few row h = by_test (is_live row.usage) where
    by_test : (b : Bool) → cond b (area_spans row.area) 0 ≤ max_volumes * max_cover
    by_test true = plan_few volume_spans few row h
    by_test false = omega arith

  pub few_spans : (w : World) (operator id : List ℕ) → IsContent w
      → spans_beside id (plans_of operator w) ≤ max_plans * (max_volumes * max_cover)
  few_spans = few_of row_spans row_few

pub few_cells : ((v : Block) → IsTrue (is_footprint v.footprint) → volume_cells v ≤ max_cover)
    → (w : World) (operator id : List ℕ) → IsContent w
    → cells_beside id (plans_of operator w) ≤ max_plans * (max_volumes * max_cover)
few_cells few = few_of row_cells (plan_few volume_cells (λ v limits valid. few v limits))
