-- Rows stand for one content at most.
use Rattle.std.proofs.Common.{◌≡◌, ℕ, pos, ◌+◌, List, [], ◌∷◌, ◌++◌, map, refl, sym, ap, ◌∙◌, arith, IsPermutation, IsTrue, true≢false}
use Rattle.std.specs.List.{AllByRecursion}
use Rattle.std.proofs.lemmas.Cmp.{tied_itself}
use Rattle.std.specs.Cmp.Lexicographic.{nat_list_cmp_total}
use Rattle.std.proofs.lemmas.Map.Lookups.{exact_bytes}
use Rattle.std.proofs.lemmas.List.Sorted.{IsPermutation-trans, IsPermutation-sym}
use Rattle.sqlite_value.specs.declared.value.Value.TheVariants.{Int}
use Rattle.sqlite_value.specs.Order.{Row, column}
use Rattle.desk_sql.specs.Rows.{Tables}
use Rattle.volume4d.specs.Footprint.{footprint_bytes, HasValidParts}
use Rattle.volume4d.specs.Volume.{Shape, Block, is_area}
use Rattle.desk_rules.specs.declared.words.Usage.{Usage}
use Rattle.desk_rules.specs.declared.words.Usage.TheVariants as usage
use Rattle.desk_rules.specs.declared.words.Aircraft.{Aircraft}
use Rattle.desk_rules.specs.declared.words.Aircraft.TheVariants as aircraft
use Rattle.desk_store.specs.World.{Filed, Listed, World, text_cmp, IsId, IsValidVolume, IsPlan, IsContent}
use Rattle.row_codec.specs.Tables.{id_text, usage_number, aircraft_number, row_of_operator, operator_rows, row_of_plan, plan_rows, row_of_volume, volume_rows_from, volume_rows, AreTables}
use Rattle.row_codec.proofs.lemmas.Id.{text_order}
use Rattle.table_load.proofs.RowLemmas.{operators_ascend, plans_ascend, volumes_ascend, one_order}

-- ids with one text are one
pub one_id : (a b : List ℕ) → IsId a → IsId b → id_text a ≡ id_text b → a ≡ b
one_id a b ha hb e = exact_bytes a b (sym (text_order a b ha hb) ∙ ap (λ t. text_cmp t (id_text b)) e
    ∙ tied_itself nat_list_cmp_total (id_text b))

pub one_usage : (u v : Usage) → usage_number u ≡ usage_number v → u ≡ v
one_usage usage.Planned usage.Planned e = refl
one_usage usage.Planned usage.InUse e = absurd (omega (arith, e))
one_usage usage.Planned usage.Closed e = absurd (omega (arith, e))
one_usage usage.InUse usage.Planned e = absurd (omega (arith, e))
one_usage usage.InUse usage.InUse e = refl
one_usage usage.InUse usage.Closed e = absurd (omega (arith, e))
one_usage usage.Closed usage.Planned e = absurd (omega (arith, e))
one_usage usage.Closed usage.InUse e = absurd (omega (arith, e))
one_usage usage.Closed usage.Closed e = refl

pub one_aircraft : (u v : Aircraft) → aircraft_number u ≡ aircraft_number v → u ≡ v
one_aircraft aircraft.Nominal aircraft.Nominal e = refl
one_aircraft aircraft.Nominal aircraft.OffNominal e = absurd (omega (arith, e))
one_aircraft aircraft.Nominal aircraft.Contingent e = absurd (omega (arith, e))
one_aircraft aircraft.OffNominal aircraft.Nominal e = absurd (omega (arith, e))
one_aircraft aircraft.OffNominal aircraft.OffNominal e = refl
one_aircraft aircraft.OffNominal aircraft.Contingent e = absurd (omega (arith, e))
one_aircraft aircraft.Contingent aircraft.Nominal e = absurd (omega (arith, e))
one_aircraft aircraft.Contingent aircraft.OffNominal e = absurd (omega (arith, e))
one_aircraft aircraft.Contingent aircraft.Contingent e = refl

-- operators
one_listed : (l k : Listed) → row_of_operator l ≡ row_of_operator k → l ≡ k
one_listed l k e =
    let name : l.name ≡ k.name = cc in
    let ceiling : l.ceiling ≡ k.ceiling = cc in
    λ i. record { name = name i; ceiling = ceiling i }

pub one_operators : (ls ks : List Listed) → map row_of_operator ls ≡ map row_of_operator ks → ls ≡ ks
one_operators [] [] e = refl
one_operators [] (k ∷ ks) e = cc
one_operators (l ∷ ls) [] e = cc
one_operators (l ∷ ls) (k ∷ ks) e =
    let first : row_of_operator l ≡ row_of_operator k = cc in
    let rest : map row_of_operator ls ≡ map row_of_operator ks = cc in
    λ i. one_listed l k first i ∷ one_operators ls ks rest i

abbrev ArePlans : List Filed → Type 0
ArePlans ps = AllByRecursion (λ p. IsPlan p.row) ps

no_area : (area : List Block) → IsTrue (is_area area) → area ≡ [] → ⊥
no_area area h e = true≢false (sym h ∙ ap is_area e)

-- a plan's rows begin with the place 0
first_place : (p : Filed) (area : List Block) (more : List Row) (r : Row) (rest : List Row)
    → (area ≡ [] → ⊥)
    → volume_rows_from p 0 area ++ more ≡ r ∷ rest → column r 2 ≡ Int (pos 0)
first_place p [] more r rest some e = absurd (some refl)
first_place p (v ∷ vs) more r rest some e =
    let same : row_of_volume p 0 v ≡ r = cc in
    ap (λ row. column row 2) (sym same)

begins : (ps : List Filed) → ArePlans ps → (r : Row) (rest : List Row) → volume_rows ps ≡ r ∷ rest
    → column r 2 ≡ Int (pos 0)
begins [] h r rest e = cc
begins (p ∷ ps) h r rest e = first_place p p.row.area (volume_rows ps) r rest
    (no_area p.row.area h.0.volumes)
    e

not_later : (ps : List Filed) → ArePlans ps → (q : Filed) (n : ℕ) (u : Block) (rest : List Row)
    → volume_rows ps ≡ row_of_volume q (n + 1) u ∷ rest → ⊥
not_later ps h q n u rest e =
    let place : Int (pos (n + 1)) ≡ Int (pos 0) = begins ps h (row_of_volume q (n + 1) u) rest e in
    let same : n + 1 ≡ 0 = cc in
    omega (arith, same)

-- up to order, three tables have the rows of a world
abbrev pub HaveRows : List Row → List Row → List Row → World → Type 0
HaveRows operators plans volumes w = IsPermutation (operator_rows w) operators
    × IsPermutation (plan_rows w.plans) plans × IsPermutation (volume_rows w.plans) volumes

module _ (one_shape : (one other : Shape) → HasValidParts one → HasValidParts other
    → footprint_bytes one
    ≡ footprint_bytes other → one ≡ other) where
  one_block : (p q : Filed) (n : ℕ) (v u : Block) → IsValidVolume v → IsValidVolume u → row_of_volume p n v
      ≡ row_of_volume q n u → v ≡ u
  one_block p q n v u hv hu e =
      let lower : v.window.lower ≡ u.window.lower = cc in
      let upper : v.window.upper ≡ u.window.upper = cc in
      let start : v.window.start ≡ u.window.start = cc in
      let end : v.window.end ≡ u.window.end = cc in
      let asked : footprint_bytes v.footprint ≡ footprint_bytes u.footprint = cc in
      λ i. record {
        footprint = one_shape v.footprint u.footprint hv.valid hu.valid asked i;
        window = record { lower = lower i; upper = upper i; start = start i; end = end i };
      }

  -- after the first place, the volumes of two plans end at the same place
  cut : (p q : Filed) (ps qs : List Filed) → ArePlans ps → ArePlans qs → (n : ℕ) (vs us : List Block)
      → AllByRecursion IsValidVolume vs → AllByRecursion IsValidVolume us
      → volume_rows_from p (n + 1) vs ++ volume_rows ps ≡ volume_rows_from q (n + 1) us
      ++ volume_rows qs
      → (vs ≡ us) × (volume_rows ps ≡ volume_rows qs)
  cut p q ps qs hp hq n [] [] hv hu e = (refl, e)
  cut p q ps qs hp hq n [] (u ∷ us) hv hu e = absurd (not_later ps hp q n u _ e)
  cut p q ps qs hp hq n (v ∷ vs) [] hv hu e = absurd (not_later qs hq p n v _ (sym e))
  cut p q ps qs hp hq n (v ∷ vs) (u ∷ us) hv hu e =
      let first : row_of_volume p (n + 1) v ≡ row_of_volume q (n + 1) u = cc in
      let rest : volume_rows_from p (n + 1 + 1) vs ++ volume_rows ps ≡ volume_rows_from q (n + 1 + 1) us
      ++ volume_rows qs = cc in
      let more = cut p q ps qs hp hq (n + 1) vs us hv.1 hu.1 rest in
      ((λ i. one_block p q (n + 1) v u hv.0 hu.0 first i ∷ more.0 i), more.1)

  cut_first : (p q : Filed) (ps qs : List Filed) → ArePlans ps → ArePlans qs → (vs us : List Block)
      → (vs ≡ [] → ⊥) → (us ≡ [] → ⊥)
      → AllByRecursion IsValidVolume vs → AllByRecursion IsValidVolume us
      → volume_rows_from p 0 vs ++ volume_rows ps ≡ volume_rows_from q 0 us ++ volume_rows qs
      → (vs ≡ us)
      × (volume_rows ps ≡ volume_rows qs)
  cut_first p q ps qs hp hq [] us sv su hv hu e = absurd (sv refl)
  cut_first p q ps qs hp hq (v ∷ vs) [] sv su hv hu e = absurd (su refl)
  cut_first p q ps qs hp hq (v ∷ vs) (u ∷ us) sv su hv hu e =
      let first : row_of_volume p 0 v ≡ row_of_volume q 0 u = cc in
      let rest : volume_rows_from p (0 + 1) vs ++ volume_rows ps ≡ volume_rows_from q (0 + 1) us
      ++ volume_rows qs = cc in
      let more = cut p q ps qs hp hq 0 vs us hv.1 hu.1 rest in
      ((λ i. one_block p q 0 v u hv.0 hu.0 first i ∷ more.0 i), more.1)

  one_plan : (p q : Filed) → IsPlan p.row → IsPlan q.row → row_of_plan p ≡ row_of_plan q → p.row.area
      ≡ q.row.area
      → p ≡ q
  one_plan p q hp hq e area =
      let operator : p.operator ≡ q.operator = cc in
      let text : id_text p.row.id ≡ id_text q.row.id = cc in
      let priority : p.row.priority ≡ q.row.priority = cc in
      let used : usage_number p.row.usage ≡ usage_number q.row.usage = cc in
      let state : aircraft_number p.row.aircraft ≡ aircraft_number q.row.aircraft = cc in
      λ i. record {
        operator = operator i;
        row = record {
          id = one_id p.row.id q.row.id hp.id hq.id text i;
          priority = priority i;
          usage = one_usage p.row.usage q.row.usage used i;
          aircraft = one_aircraft p.row.aircraft q.row.aircraft state i;
          area = area i;
        };
      }

  pub one_plans : (ps qs : List Filed) → ArePlans ps → ArePlans qs → plan_rows ps ≡ plan_rows qs
      → volume_rows ps ≡ volume_rows qs → ps ≡ qs
  one_plans [] [] hp hq e f = refl
  one_plans [] (q ∷ qs) hp hq e f = cc
  one_plans (p ∷ ps) [] hp hq e f = cc
  one_plans (p ∷ ps) (q ∷ qs) hp hq e f =
      let first : row_of_plan p ≡ row_of_plan q = cc in
      let rest : plan_rows ps ≡ plan_rows qs = cc in
      let parts = cut_first p q ps qs hp.1 hq.1 p.row.area q.row.area (no_area p.row.area hp.0.volumes)
      (no_area q.row.area hq.0.volumes) hp.0.each hq.0.each f in
      λ i. one_plan p q hp.0 hq.0 first parts.0 i ∷ one_plans ps qs hp.1 hq.1 rest parts.1 i

  same_rows : (xs ys zs : List Row) → IsPermutation xs zs → IsPermutation ys zs → IsPermutation xs ys
  same_rows xs ys zs h k = IsPermutation-trans xs zs ys h (IsPermutation-sym ys zs k)

  -- the rows of three tables are those of one content at most
  pub of_rows : (operators plans volumes : List Row) (v w : World) → IsContent v → IsContent w
      → HaveRows operators plans volumes v → HaveRows operators plans volumes w → v ≡ w
  of_rows operator_part plan_part volume_part v w hv hw tv tw =
      let operators = one_order (operator_rows v) (operator_rows w)
      (operators_ascend v.operators hv.world.operators)
      (operators_ascend w.operators hw.world.operators)
      (same_rows (operator_rows v) (operator_rows w) operator_part tv.0 tw.0) in
      let plans = one_order (plan_rows v.plans) (plan_rows w.plans)
      (plans_ascend v.plans hv.rows hv.world.plans) (plans_ascend w.plans hw.rows hw.world.plans)
      (same_rows (plan_rows v.plans) (plan_rows w.plans) plan_part tv.1 tw.1) in
      let volumes = one_order (volume_rows v.plans) (volume_rows w.plans)
      (volumes_ascend v.plans hv.rows hv.world.plans) (volumes_ascend w.plans hw.rows hw.world.plans)
      (same_rows (volume_rows v.plans) (volume_rows w.plans) volume_part tv.2 tw.2) in
      λ i. record {
        operators = one_operators v.operators w.operators operators i;
        plans = one_plans v.plans w.plans hv.rows hw.rows plans volumes i;
      }

  pub one_world : (tables : Tables) (v w : World) → IsContent v → IsContent w → AreTables tables v
      → AreTables tables w → v ≡ w
  one_world tables v w hv hw tv tw =
      of_rows tables.operators tables.plans tables.volumes v w hv hw (tv.operators, tv.plans, tv.volumes)
      (tw.operators, tw.plans, tw.volumes)
