-- Plans with their volumes in the rows of a join, which are taken one at a time.
use Rattle.std.proofs.Common.{◌≡◌, ℕ, pos, ◌+◌, ◌≤◌, Bool, true, false, cond, Option, Some, None, IsSomeAnd, List, [], ◌∷◌, ◌++◌, length, map, refl, sym, ap, subst, ◌∙◌, arith, append_assoc, IsTrue, true≢false}
use Rattle.std.specs.Prelude.{int_lt}
use Rattle.std.specs.List.{AllByRecursion, prefix_len}
use Rattle.std.proofs.lemmas.Bool.Decides.{nat_tests}
use Rattle.std.proofs.lemmas.List.{append-nil, length-append}
use Rattle.sqlite_value.specs.Order.{Row}
use Rattle.volume4d.specs.Volume.{Block, is_area}
use Rattle.desk_rules.specs.declared.plan.PlanRow.{PlanRow}
use Rattle.desk_sql.specs.Rows.{joined}
use Rattle.desk_store.specs.World.{Filed, IsId, IsValidVolume}
use Rattle.row_codec.specs.declared.values.PlanHead.{PlanHead}
use Rattle.row_codec.specs.Tables.{row_of_plan, row_of_volume}
use Rattle.row_codec.specs.RowsRead.{IsVolumeAt, IsHead, is_later, joined_from, listing_rows, plan_with, closed_plans, IsPlanUnderWay, Leads}
use Rattle.row_codec.proofs.lemmas.Order.{ArePlans}

no_area : (area : List Block) → IsTrue (is_area area) → area ≡ [] → ⊥
no_area area h e = true≢false (sym h ∙ ap is_area e)

pub volume_read : (p : Filed) (n : ℕ) (v : Block)
    → IsVolumeAt (joined (row_of_plan p) (row_of_volume p n v)) 6 v
volume_read p n v = record { lower = refl; upper = refl; start = refl; end = refl; asked = refl }

pub head_read : (p : Filed) (n : ℕ) (v : Block) → IsHead (joined (row_of_plan p) (row_of_volume p n v)) p.row
head_read p n v = record { id = refl; priority = refl; usage = refl; aircraft = refl }

above : (n : ℕ) → 1 ≤ n → int_lt (pos 0) (pos n) ≡ true
above n h = grind (arith, nat_tests, h)

-- the first row of a listing, and what is left of it
pub record IsFirst (row : Row) (left : List Row) (ps : List Filed) : Type 0 where
  pub plan : Filed
  pub more : List Filed
  pub volume : Block
  pub rest : List Block
  pub are : ps ≡ plan ∷ more
  pub area : volume ∷ rest ≡ plan.row.area
  pub row_is : row ≡ joined (row_of_plan plan) (row_of_volume plan 0 volume)
  pub left_is : left ≡ joined_from plan 1 rest ++ listing_rows more

pub first_row : (row : Row) (left : List Row) (ps : List Filed) → ArePlans ps → row ∷ left ≡ listing_rows ps
    → IsFirst row left ps
first_row row left [] h e = cc
first_row row left (p ∷ more) h e = by_area p.row.area refl e where
  by_area : (vs : List Block) → vs ≡ p.row.area → row ∷ left ≡ joined_from p 0 vs ++ listing_rows more
      → IsFirst row left (p ∷ more)
  by_area [] is f = absurd (no_area p.row.area h.0.volumes (sym is))
  by_area (v ∷ vs) is f = record {
    plan = p;
    more = more;
    volume = v;
    rest = vs;
    are = refl;
    area = is;
    row_is = cc;
    left_is = cc;
  }

pub not_later : (row : Row) (left : List Row) (ps : List Filed) → IsFirst row left ps → is_later row ≡ false
not_later row left ps first = ap is_later first.row_is

pub no_rows : (p : Filed) (n : ℕ) (vs : List Block) (ps : List Filed) → ArePlans ps → []
    ≡ joined_from p n vs
    ++ listing_rows ps → (vs ≡ []) × (ps ≡ [])
no_rows p n [] [] h e = (refl, refl)
no_rows p n [] (q ∷ qs) h e = absurd (by_area q.row.area refl e) where
  by_area : (us : List Block) → us ≡ q.row.area → [] ≡ joined_from q 0 us ++ listing_rows qs → ⊥
  by_area [] is f = no_area q.row.area h.0.volumes (sym is)
  by_area (u ∷ us) is f = cc
no_rows p n (v ∷ vs) ps h e = cc

pub each_at : (xs : List Block) (y : Block) (ys : List Block) → AllByRecursion IsValidVolume (xs ++ y ∷ ys)
    → IsValidVolume y
each_at [] y ys h = h.0
each_at (x ∷ xs) y ys h = each_at xs y ys h.1

-- what a row is read as, where it is a head's and a volume's
abbrev pub ReadsHead : Row → PlanHead → Type 0
ReadsHead row head = (p : PlanRow) → IsId p.id → IsHead row p → plan_with head p.area ≡ p

abbrev pub ReadsVolume : Row → Block → Type 0
ReadsVolume row volume = (v : Block) → IsValidVolume v → IsVolumeAt row 6 v → volume ≡ v

-- a plan's first row begins it
begins : (plans : List PlanRow) (head : PlanHead) (volume : Block) (row : Row) (left : List Row)
    (ps : List Filed)
    (all : List PlanRow) → ArePlans ps → IsFirst row left ps → ReadsHead row head
    → ReadsVolume row volume
    → plans ++ map (λ p. p.row) ps ≡ all → IsPlanUnderWay plans head (volume ∷ []) left all
begins plans head volume row left ps all h first reads_head reads_volume e =
    let are : ArePlans (first.plan ∷ first.more) = subst ArePlans first.are h in
    let blocks : AllByRecursion IsValidVolume (first.volume ∷ first.rest) =
    subst (AllByRecursion IsValidVolume) (sym first.area) are.0.each in
    let same : volume ≡ first.volume = reads_volume first.volume blocks.0
    (subst (λ r. IsVolumeAt r 6 first.volume) (sym first.row_is)
    (volume_read first.plan 0 first.volume))
    in
    record {
      plan = first.plan;
      rest = first.rest;
      more = first.more;
      begun = omega arith;
      area = ap (λ v. v ∷ first.rest) same ∙ first.area;
      row = reads_head first.plan.row are.0.id (subst (λ r. IsHead r first.plan.row) (sym first.row_is)
          (head_read first.plan 0 first.volume));
      each = are;
      rows = first.left_is;
      whole = ap (λ qs. plans ++ map (λ p. p.row) qs) (sym first.are) ∙ e;
    }

-- where no volume of the plan under way is left, the plan is whole
closes : (plans : List PlanRow) (head : PlanHead) (volumes : List Block) (left : List Row)
    (all : List PlanRow)
    (way : IsPlanUnderWay plans head volumes left all) → way.rest ≡ []
    → closed_plans plans (Some head) volumes ++ map (λ p. p.row) way.more ≡ all
closes plans head volumes left all way none =
    let area : volumes ≡ way.plan.row.area = sym (append-nil volumes)
    ∙ ap (λ vs. volumes ++ vs) (sym none)
    ∙ way.area in
    let row : plan_with head volumes ≡ way.plan.row = ap (plan_with head) area ∙ way.row in
    append_assoc plans (plan_with head volumes ∷ []) (map (λ p. p.row) way.more)
    ∙ ap (λ r. plans ++ r ∷ map (λ p. p.row) way.more) row ∙ way.whole

-- the next row of the plan under way is a later one
pub stays_later : (row : Row) (p : Filed) (n : ℕ) (v : Block) → 1 ≤ n → row
    ≡ joined (row_of_plan p) (row_of_volume p n v) → is_later row ≡ true
stays_later row p n v low is = ap is_later is ∙ above n low

takes_first : (plans : List PlanRow) (old : Option PlanHead) (volumes : List Block) (row : Row)
    (left : List Row)
    (ps : List Filed) → ArePlans ps → Leads plans old volumes (row ∷ left) ps → is_later row ≡ false
    → (head : PlanHead) (volume : Block) → ReadsHead row head → ReadsVolume row volume
    → Leads (closed_plans plans old volumes) (Some head) (volume ∷ []) left ps
takes_first plans None volumes row left ps h leads test head volume reads_head reads_volume =
    begins plans head volume row left ps (map (λ p. p.row) ps) h (first_row row left ps h leads.1)
    reads_head
    reads_volume (ap (λ qs. qs ++ map (λ p. p.row) ps) leads.0)
takes_first plans (Some old) volumes row left ps h way test head volume reads_head reads_volume =
    by_rest way.rest refl where
      by_rest : (rest : List Block) → rest ≡ way.rest
          → IsPlanUnderWay (closed_plans plans (Some old) volumes) head
          (volume ∷ []) left (map (λ p. p.row) ps)
      by_rest [] is =
          let listing : row ∷ left ≡ listing_rows way.more = way.rows
          ∙ ap (λ vs. joined_from way.plan (length volumes) vs ++ listing_rows way.more) (sym is) in
          begins (closed_plans plans (Some old) volumes) head volume row left way.more
          (map (λ p. p.row) ps)
          way.each.1 (first_row row left way.more way.each.1 listing) reads_head reads_volume
          (closes plans old volumes (row ∷ left) (map (λ p. p.row) ps) way (sym is))
      by_rest (v ∷ vs) is =
          let listing : row ∷ left ≡ joined_from way.plan (length volumes) (v ∷ vs)
          ++ listing_rows way.more =
          way.rows ∙ ap (λ us. joined_from way.plan (length volumes) us ++ listing_rows way.more)
          (sym is) in
          absurd (true≢false (sym (stays_later row way.plan (length volumes) v way.begun cc) ∙ test))

takes_later : (plans : List PlanRow) (old : Option PlanHead) (volumes : List Block) (row : Row)
    (left : List Row)
    (ps : List Filed) → ArePlans ps → Leads plans old volumes (row ∷ left) ps → is_later row ≡ true
    → (volume : Block) → ReadsVolume row volume → Leads plans old (volumes ++ volume ∷ []) left ps
takes_later plans None volumes row left ps h leads test volume reads =
    absurd (true≢false (sym test ∙ not_later row left ps (first_row row left ps h leads.1)))
takes_later plans (Some head) volumes row left ps h way test volume reads = by_rest way.rest refl where
  by_rest : (rest : List Block) → rest ≡ way.rest → IsPlanUnderWay plans head (volumes ++ volume ∷ []) left
      (map (λ p. p.row) ps)
  by_rest [] is =
      let listing : row ∷ left ≡ listing_rows way.more = way.rows
      ∙ ap (λ vs. joined_from way.plan (length volumes) vs ++ listing_rows way.more) (sym is) in
      absurd (true≢false (sym test ∙ not_later row left way.more
      (first_row row left way.more way.each.1 listing)))
  by_rest (v ∷ vs) is =
      let n = length volumes in
      let listing : row ∷ left ≡ joined_from way.plan n (v ∷ vs) ++ listing_rows way.more = way.rows
      ∙ ap (λ us. joined_from way.plan n us ++ listing_rows way.more) (sym is) in
      let here : row ≡ joined (row_of_plan way.plan) (row_of_volume way.plan n v) = cc in
      let there : left ≡ joined_from way.plan (n + 1) vs ++ listing_rows way.more = cc in
      let area : volumes ++ v ∷ vs ≡ way.plan.row.area = ap (λ us. volumes ++ us) is ∙ way.area in
      let block : IsValidVolume v = each_at volumes v vs
      (subst (AllByRecursion IsValidVolume) (sym area) way.each.0.each)
      in
      let same : volume ≡ v =
      reads v block (subst (λ r. IsVolumeAt r 6 v) (sym here) (volume_read way.plan n v)) in
      let long : length (volumes ++ volume ∷ []) ≡ n + 1 = length-append volumes (volume ∷ []) in
      record {
        plan = way.plan;
        rest = vs;
        more = way.more;
        begun = omega (arith, long);
        area = append_assoc volumes (volume ∷ []) vs ∙ ap (λ u. volumes ++ u ∷ vs) same ∙ area;
        row = way.row;
        each = way.each;
        rows = there ∙ ap (λ m. joined_from way.plan m vs ++ listing_rows way.more) (sym long);
        whole = way.whole;
      }

module _ (plans : List PlanRow) (old : Option PlanHead) (volumes : List Block) (row : Row) (left : List Row)
    (ps : List Filed) (h : ArePlans ps) (leads : Leads plans old volumes (row ∷ left) ps)
    (volume : Block) (reads : ReadsVolume row volume) (now : List PlanRow) (head : Option PlanHead)
    (begun after : List Block) (pushed : after ≡ begun ++ volume ∷ []) where
  pub adds_first : is_later row ≡ false → now ≡ closed_plans plans old volumes
      → IsSomeAnd head (ReadsHead row) → begun ≡ [] → Leads now head after left ps
  adds_first test whole some none =
      subst (λ vs. Leads now head vs left ps) (sym (pushed ∙ ap (λ vs. vs ++ volume ∷ []) none))
      (subst (λ qs. Leads qs head (volume ∷ []) left ps) (sym whole) (by_head head some)) where
        by_head : (found : Option PlanHead) → IsSomeAnd found (ReadsHead row)
            → Leads (closed_plans plans old volumes) found (volume ∷ []) left ps
        by_head None none = absurd none
        by_head (Some found) reads_head = takes_first plans old volumes row left ps h leads test found
            volume
            reads_head reads

  pub adds_later : is_later row ≡ true → now ≡ plans → head ≡ old → begun ≡ volumes
      → Leads now head after left ps
  adds_later test plans_are head_is begun_are =
      subst (λ vs. Leads now head vs left ps) (sym (pushed ∙ ap (λ vs. vs ++ volume ∷ []) begun_are))
      (subst (λ qs. Leads qs head (volumes ++ volume ∷ []) left ps) (sym plans_are)
      (subst (λ found. Leads plans found (volumes ++ volume ∷ []) left ps) (sym head_is)
      (takes_later plans old volumes row left ps h leads test volume reads)))

pub ended : (plans : List PlanRow) (head : Option PlanHead) (volumes : List Block) (ps : List Filed)
    → ArePlans ps
    → Leads plans head volumes [] ps → closed_plans plans head volumes ≡ map (λ p. p.row) ps
ended plans None volumes ps h leads = by_plans ps h leads.1 where
  by_plans : (qs : List Filed) → ArePlans qs → [] ≡ listing_rows qs → plans ≡ map (λ p. p.row) qs
  by_plans [] hq e = leads.0
  by_plans (q ∷ qs) hq e = absurd (no_first q.row.area refl e) where
    no_first : (us : List Block) → us ≡ q.row.area → [] ≡ joined_from q 0 us ++ listing_rows qs → ⊥
    no_first [] is f = no_area q.row.area hq.0.volumes (sym is)
    no_first (u ∷ us) is f = cc
ended plans (Some head) volumes ps h way =
    let none = no_rows way.plan (length volumes) way.rest way.more way.each.1 way.rows in
    sym (append-nil (closed_plans plans (Some head) volumes))
    ∙ ap (λ qs. closed_plans plans (Some head) volumes ++ map (λ p. p.row) qs) (sym none.1)
    ∙ closes plans head volumes [] (map (λ p. p.row) ps) way none.0

-- ---- counts

pub within : {X : Type 0} (p : X → Bool) (xs : List X) → prefix_len p xs ≤ length xs
within p [] = omega arith
within p (x ∷ xs) = by_test (p x) (within p xs) where
  by_test : (b : Bool) → prefix_len p xs ≤ length xs → cond b (1 + prefix_len p xs) 0 ≤ length (x ∷ xs)
  by_test true h = omega (arith, h)
  by_test false h = omega arith
