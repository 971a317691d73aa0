-- A plan's row set to closed, by what stands in its row.
use Rattle.std.proofs.Common.{◌≡◌, ℕ, pos, Bool, true, false, ◌&&◌, cond, List, [], ◌∷◌, map, Option, Some, None, refl, sym, ap, subst, ◌∙◌, Less, Equal, Greater, IsPermutation}
use Rattle.std.specs.List.{AllByRecursion, find}
use Rattle.std.specs.declared.cmp.Ordering.{Ordering}
use Rattle.std.specs.Ordering.{is_eq}
use Rattle.std.proofs.lemmas.Map.Lookups.{exact_bytes}
use Rattle.std.proofs.lemmas.List.Sorted.{IsPermutation-sym, IsPermutation-trans, IsPermutation-map}
use Rattle.sqlite_value.specs.declared.value.Value.TheVariants.{Int, Text}
use Rattle.sqlite_value.specs.Order.{Row, column}
use Rattle.sqlite_keyed.proofs.ListLemmas.{IsPermutation-same, all_kept}
use Rattle.desk_sql.specs.Rows as sql
use Rattle.desk_sql.specs.Rows.{Tables, is_of, with_row, ClosesPlan}
use Rattle.desk_store.specs.World.{Filed, World, text_cmp, is_own, IsId, IsContent}
use Rattle.row_codec.specs.Tables.{id_text, aircraft_number, row_of_plan, plan_rows, AreTables}
use Rattle.desk_tables.specs.Store.{one_or_none, own_of, ClosesRows, closed_if}
use Rattle.row_codec.proofs.lemmas.Order.{ArePlans}
use Rattle.desk_tables.proofs.FilterLemmas.{own_row}
use Rattle.desk_tables.proofs.ListingLemmas.{one_own}
use Rattle.row_codec.proofs.lemmas.Order.{after_key}

same_text : (s t : List ℕ) → is_eq (text_cmp s t) ≡ true → s ≡ t
same_text s t e = by_order (text_cmp s t) refl e where
  by_order : (n : Ordering) → text_cmp s t ≡ n → is_eq n ≡ true → s ≡ t
  by_order Less l f = cc
  by_order Equal l f = exact_bytes s t l
  by_order Greater l f = cc

first : (a b : Bool) → (a && b) ≡ true → a ≡ true
first true b h = refl
first false b h = h

second : (a b : Bool) → (a && b) ≡ true → b ≡ true
second true b h = h
second false b h = cc

-- what a head row says of the plan of a key
module _ (o id : List ℕ) (head : Row) (priority aircraft : ℕ)
    (at_priority : column head 2 ≡ Int (pos priority))
    (at_aircraft : column head 4 ≡ Int (pos aircraft))
  where
    abbrev closed_row : Row
    closed_row = sql.plan_row o (id_text id) priority 2 aircraft

    -- the rows of the key's plan
    abbrev HaveHead : List Filed → Type 0
    HaveHead ps = AllByRecursion (λ p. is_own o id p ≡ true → row_of_plan p ≡ head) ps

    one_closed : (p : Filed) → IsId id → IsId p.row.id → (is_own o id p ≡ true → row_of_plan p ≡ head)
        → cond (is_of o (id_text id) (row_of_plan p)) closed_row (row_of_plan p)
        ≡ closed_if o id (row_of_plan p)
    one_closed p hi hp is = by_test (is_of o (id_text id) (row_of_plan p)) refl where
      own : is_of o (id_text id) (row_of_plan p) ≡ is_own o id p
      own = own_row o id p (after_key (row_of_plan p)) hi hp

      by_test : (b : Bool) → is_of o (id_text id) (row_of_plan p) ≡ b
          → cond (is_of o (id_text id) (row_of_plan p)) closed_row (row_of_plan p)
          ≡ closed_if o id (row_of_plan p)
      by_test false e = rw e refl
      by_test true e =
          let mine : is_own o id p ≡ true = sym own ∙ e in
          let row = is mine in
          let name = same_text o p.operator (first (is_eq (text_cmp o p.operator))
          (is_eq (text_cmp id p.row.id)) mine) in
          let key = same_text id p.row.id (second (is_eq (text_cmp o p.operator))
          (is_eq (text_cmp id p.row.id))
          mine) in
          let two = sym (ap (λ r. column r 2) row ∙ at_priority) in
          let four = sym (ap (λ r. column r 4) row ∙ at_aircraft) in
          rw e (λ i. Text (name i) ∷ Text (id_text (key i)) ∷ two i ∷ Int (pos 2) ∷ four i ∷ [])

    all_closed : (ps : List Filed) → IsId id → ArePlans ps → HaveHead ps
        → map (λ r. cond (is_of o (id_text id) r) closed_row r) (plan_rows ps)
        ≡ map (closed_if o id) (plan_rows ps)
    all_closed [] hi h have = refl
    all_closed (p ∷ ps) hi h have = λ i. one_closed p hi h.0.id have.0 i ∷ all_closed ps hi h.1 have.1 i

    have_head : (w : World) (head_rows rest : List Row) → IsContent w → head_rows ≡ plan_rows (own_of o id w)
        → head_rows
        ≡ head ∷ rest → HaveHead w.plans
    have_head w head_rows rest h are some = all_kept (λ p. row_of_plan p ≡ head) (is_own o id) w.plans
        (subst (AllByRecursion (λ p. row_of_plan p ≡ head)) (sym (one_own o id w.plans h.world.plans))
        (by_found (find (is_own o id) w.plans) (sym some ∙ are))) where
          by_found : (found : Option Filed) → head ∷ rest ≡ plan_rows (one_or_none found)
              → AllByRecursion (λ p. row_of_plan p ≡ head) (one_or_none found)
          by_found None e = tt
          by_found (Some p) e = let is : row_of_plan p ≡ head = cc in (is, tt)

    pub close_is_close : (w : World) (old new : Tables) (head_rows rest : List Row) → IsContent w → IsId id
        → AreTables old w → head_rows ≡ plan_rows (own_of o id w) → head_rows ≡ head ∷ rest
        → ClosesPlan o (id_text id) priority aircraft old new → ClosesRows o id old new
    close_is_close w old new head_rows rest h hi t are some e = record {
      no_old = λ none. record {
        volumes = e.old_volumes ∙ none.volumes;
        spans = e.old_spans ∙ none.spans;
      };
      operators = IsPermutation-same old.operators new.operators (sym e.operators);
      plans = IsPermutation-trans (map (closed_if o id) old.plans)
          (map (closed_if o id) (plan_rows w.plans))
          new.plans
          (IsPermutation-sym (map (closed_if o id) (plan_rows w.plans)) (map (closed_if o id) old.plans)
          (IsPermutation-map (closed_if o id) (plan_rows w.plans) old.plans t.plans))
          (IsPermutation-trans (map (closed_if o id) (plan_rows w.plans))
          (with_row (is_of o (id_text id)) closed_row old.plans) new.plans
          (subst (λ xs. IsPermutation xs (with_row (is_of o (id_text id)) closed_row old.plans))
          (all_closed w.plans hi h.rows (have_head w head_rows rest h are some))
          (IsPermutation-map (λ r. cond (is_of o (id_text id) r) closed_row r) (plan_rows w.plans)
          old.plans
          t.plans))
          e.plans);
      volumes = IsPermutation-same old.volumes new.volumes (sym e.volumes);
      covers = IsPermutation-same old.covers new.covers (sym e.covers);
      spans = IsPermutation-same _ new.spans (sym e.spans);
    }

-- the same, by the stored plan
pub plan_closed : (o id : List ℕ) (p : Filed) (w : World) (old new : Tables) → IsContent w → IsId id
    → AreTables old w → own_of o id w ≡ p ∷ []
    → ClosesPlan o (id_text id) p.row.priority (aircraft_number p.row.aircraft) old new
    → ClosesRows o id old new
plan_closed o id p w old new h hi t is e =
    close_is_close o id (row_of_plan p) p.row.priority (aircraft_number p.row.aircraft) refl refl w old new
    (row_of_plan p ∷ []) [] h hi t (ap plan_rows (sym is)) refl e
