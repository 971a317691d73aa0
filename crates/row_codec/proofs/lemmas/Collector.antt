-- Each row of a listing of plans is gathered.
use Rattle.std.proofs.Common.{◌≡◌, inl, inr, ℕ, suc, ◌+◌, ◌*◌, ◌^◌, ◌<◌, ◌≤◌, true, false, Option, Some, None, List, [], ◌∷◌, ◌++◌, length, map, refl, sym, ap, subst, ◌∙◌, arith, append-nil, true≢false}
use Rattle.std.specs.List.{AllByRecursion}
use Rattle.std.proofs.lemmas.Bool.Decides.{nat_tests}
use Rattle.std.proofs.lemmas.List.{length-append, length-map}
use Rattle.sqlite_value.specs.Order.{Row}
use Rattle.volume4d.specs.VolumeLimits.{max_volumes}
use Rattle.volume4d.specs.Volume.{Block, is_area}
use Rattle.desk_rules.specs.declared.plan.PlanRow.{PlanRow}
use Rattle.desk_store.specs.World.{Filed, IsValidVolume}
use Rattle.desk_sql.specs.Rows.{joined}
use Rattle.row_codec.specs.declared.values.PlanHead.{PlanHead}
use Rattle.row_codec.specs.Tables.{area_rows, row_of_plan, row_of_volume, volume_rows_from}
use Rattle.row_codec.specs.RowsRead.{IsVolumeAt, IsHead, joined_from, joined_rows, listing_rows, HasNoArea, IsNoHead, IsRefusedRow, IsPlanUnderWay, Leads}
use Rattle.row_codec.proofs.lemmas.Order.{ArePlans}
use Rattle.row_codec.proofs.JoinLemmas.{IsFirst, each_at, first_row, head_read, no_rows, not_later, stays_later, volume_read}

-- each plan's priority has 32 bits
abbrev pub AreLow : List Filed → Type 0
AreLow ps = AllByRecursion (λ p. p.row.priority < 2 ^ 32) ps

low_rows : (ps : List Filed) → AreLow ps → AllByRecursion (λ r. r.priority < 2 ^ 32) (map (λ p. p.row) ps)
low_rows [] h = tt
low_rows (p ∷ ps) h = (h.0, low_rows ps h.1)

rows_low : (ps : List Filed) → AllByRecursion (λ r. r.priority < 2 ^ 32) (map (λ p. p.row) ps) → AreLow ps
rows_low [] h = tt
rows_low (p ∷ ps) h = (h.0, rows_low ps h.1)

last_low : (xs ys : List PlanRow) → AllByRecursion (λ r. r.priority < 2 ^ 32) (xs ++ ys)
    → AllByRecursion (λ r. r.priority < 2 ^ 32) ys
last_low [] ys h = h
last_low (x ∷ xs) ys h = last_low xs ys h.1

more_low : (plans : List PlanRow) (head : PlanHead) (volumes : List Block) (left : List Row) (ps : List Filed)
    → AreLow ps → (way : IsPlanUnderWay plans head volumes left (map (λ p. p.row) ps)) → AreLow way.more
more_low plans head volumes left ps low way =
    (rows_low (way.plan ∷ way.more) (last_low plans (map (λ p. p.row) (way.plan ∷ way.more))
    (subst (AllByRecursion (λ r. r.priority < 2 ^ 32)) (sym way.whole) (low_rows ps low)))).1

-- the volumes of a plan of which no row is left are an area
whole_area : (plans : List PlanRow) (head : PlanHead) (volumes : List Block) (left : List Row)
    (all : List PlanRow) (way : IsPlanUnderWay plans head volumes left all) → way.rest ≡ []
    → ¬ (is_area volumes ≡ false)
whole_area plans head volumes left all way none off =
    let area : volumes ≡ way.plan.row.area = sym (append-nil volumes)
    ∙ ap (λ vs. volumes ++ vs) (sym none) ∙ way.area in
    true≢false (sym (subst (λ vs. is_area vs ≡ true) (sym area) way.each.0.volumes) ∙ off)

-- the first row of some plans is a plan's and a volume's
first_reads : (row : Row) (left : List Row) (ps : List Filed) → ArePlans ps → AreLow ps
    → IsFirst row left ps → (¬ IsNoHead row) × ¬ ((v : Block) → IsValidVolume v → ¬ IsVolumeAt row 6 v)
first_reads row left ps h low first =
    let are : ArePlans (first.plan ∷ first.more) = subst ArePlans first.are h in
    let lows : AreLow (first.plan ∷ first.more) = subst AreLow first.are low in
    let blocks : AllByRecursion IsValidVolume (first.volume ∷ first.rest) =
    subst (AllByRecursion IsValidVolume) (sym first.area) are.0.each in (
      λ none. none first.plan.row are.0.id lows.0 (subst (λ r. IsHead r first.plan.row) (sym first.row_is)
          (head_read first.plan 0 first.volume)),
      λ none. none first.volume blocks.0 (subst (λ r. IsVolumeAt r 6 first.volume) (sym first.row_is)
          (volume_read first.plan 0 first.volume)),
    )

-- the next row of a listing is gathered
pub never_ungathered : (plans : List PlanRow) (head : Option PlanHead) (volumes : List Block) (row : Row)
    (left : List Row) (ps : List Filed) → ArePlans ps → AreLow ps
    → Leads plans head volumes (row ∷ left) ps → ¬ IsRefusedRow head volumes row
never_ungathered plans None volumes row left ps h low leads why =
    let first = first_row row left ps h leads.1 in
    let reads = first_reads row left ps h low first in
    elim why [
      | inl (test, inl none) ↦ none
      | inl (test, inr none) ↦ reads.0 none
      | inr (inl (later, is)) ↦ true≢false (sym later ∙ not_later row left ps first)
      | inr (inr none) ↦ reads.1 none
    ]
never_ungathered plans (Some head) volumes row left ps h low way why = by_rest way.rest refl where
  by_rest : (rest : List Block) → rest ≡ way.rest → ⊥
  by_rest [] is =
      let listing : row ∷ left ≡ listing_rows way.more = way.rows
      ∙ ap (λ vs. joined_from way.plan (length volumes) vs ++ listing_rows way.more) (sym is) in
      let first = first_row row left way.more way.each.1 listing in
      let reads = first_reads row left way.more way.each.1
      (more_low plans head volumes (row ∷ left) ps low way) first in
      elim why [
        | inl (test, inl off) ↦ whole_area plans head volumes (row ∷ left) (map (λ p. p.row) ps) way
            (sym is) off
        | inl (test, inr none) ↦ reads.0 none
        | inr (inl (later, none)) ↦ true≢false (sym later ∙ not_later row left way.more first)
        | inr (inr none) ↦ reads.1 none
      ]
  by_rest (v ∷ vs) is =
      let n = length volumes in
      let listing : row ∷ left ≡ joined_from way.plan n (v ∷ vs) ++ listing_rows way.more = way.rows
      ∙ ap (λ us. joined_from way.plan n us ++ listing_rows way.more) (sym is) in
      let here : row ≡ joined (row_of_plan way.plan) (row_of_volume way.plan n v) = cc in
      let area : volumes ++ v ∷ vs ≡ way.plan.row.area = ap (λ us. volumes ++ us) is ∙ way.area in
      let block : IsValidVolume v = each_at volumes v vs
      (subst (AllByRecursion IsValidVolume) (sym area) way.each.0.each) in
      elim why [
        | inl (test, other) ↦ true≢false (sym (stays_later row way.plan n v way.begun here) ∙ test)
        | inr (inl (later, none)) ↦ (let no : Some head ≡ None = none in cc)
        | inr (inr none) ↦ none v block (subst (λ r. IsVolumeAt r 6 v) (sym here)
            (volume_read way.plan n v))
      ]

-- and the last plan of a listing ends
pub never_cut : (plans : List PlanRow) (head : Option PlanHead) (volumes : List Block) (ps : List Filed)
    → Leads plans head volumes [] ps → ¬ HasNoArea head volumes
never_cut plans None volumes ps leads none = none
never_cut plans (Some head) volumes ps way off =
    let none = no_rows way.plan (length volumes) way.rest way.more way.each.1 way.rows in
    whole_area plans head volumes [] (map (λ p. p.row) ps) way none.0 off

-- a listing has at most as many rows a plan as an area may have volumes
volumes_long : (p : Filed) (n : ℕ) (vs : List Block) → length (volume_rows_from p n vs) ≡ length vs
volumes_long p n [] = refl
volumes_long p n (v ∷ vs) = ap suc (volumes_long p (n + 1) vs)

area_short : (vs : List Block) → is_area vs ≡ true → length vs ≤ max_volumes
area_short vs h = grind (arith, nat_tests, h)

pub listing_short : (ps : List Filed) → ArePlans ps → length (listing_rows ps) ≤ max_volumes * length ps
listing_short [] h = omega arith
listing_short (p ∷ ps) h = omega (
  arith,
  length-append (joined_rows p) (listing_rows ps),
  length-map (area_rows p) (joined (row_of_plan p)),
  volumes_long p 0 p.row.area,
  area_short p.row.area h.0.volumes,
  listing_short ps h.1,
)
