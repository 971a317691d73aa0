-- Taking plans out, and closing one: what becomes of all plans, with proofs.
use Rattle.std.proofs.Common.{◌≡◌, ℕ, Bool, true, false, ◌&&◌, cond, not, List, [], ◌∷◌, ◌++◌, map, refl, ap, ◌∙◌, Less, Equal, Greater}
use Rattle.std.specs.List.{filter, list_any}
use Rattle.std.specs.declared.cmp.Ordering.{Ordering}
use Rattle.std.specs.Ordering.{is_eq, is_lt, is_gt}
use Rattle.std.specs.List.Sorted.{IsStrictlySortedBy}
use Rattle.std.specs.Cmp.Lexicographic.{nat_list_cmp_total}
use Rattle.std.proofs.lemmas.Cmp.{tied_itself}
use Rattle.std.proofs.lemmas.List.{map-append}
use Rattle.std.proofs.lemmas.List.Elements.{filter-append}
use Rattle.desk_rules.specs.declared.plan.PlanRow.{PlanRow}
use Rattle.desk_store.specs.World.{Filed, text_cmp, filed_cmp, rows_by, is_by, has_id, is_own}
use Rattle.desk_store.specs.Changes.{filed_by, is_before, is_after, replaced, closed, close_row, is_named, clear_rows}
use Rattle.desk_store.proofs.lemmas.Order.{parts}

-- what is before or after the operator's is not the operator's
before_others : (o : List ℕ) (p : Filed) → is_before o p ≡ true → is_by o p ≡ false
before_others o p e = by_order (text_cmp o p.operator) e where
  by_order : (n : Ordering) → is_gt n ≡ true → is_eq n ≡ false
  by_order Less f = refl
  by_order Equal f = cc
  by_order Greater f = refl

after_others : (o : List ℕ) (p : Filed) → is_after o p ≡ true → is_by o p ≡ false
after_others o p e = by_order (text_cmp o p.operator) e where
  by_order : (n : Ordering) → is_lt n ≡ true → is_eq n ≡ false
  by_order Less f = refl
  by_order Equal f = cc
  by_order Greater f = refl

itself : (o : List ℕ) → is_eq (text_cmp o o) ≡ true
itself o = ap is_eq (tied_itself nat_list_cmp_total o)

-- none of the ids' plans
abbrev pub stays : List ℕ → List (List ℕ) → Filed → Bool
stays o ids p = not (list_any (λ id. is_own o id p) ids)

none_named : (ids : List (List ℕ)) → list_any (λ id. false) ids ≡ false
none_named [] = refl
none_named (id ∷ ids) = none_named ids

others_stay : (o : List ℕ) (ids : List (List ℕ)) (p : Filed) → is_by o p ≡ false → stays o ids p ≡ true
others_stay o ids p e = ap (λ b. not (list_any (λ id. b && has_id id p.row) ids)) e ∙ ap not (none_named ids)

filter_within :
    (q r : Filed → Bool) → ((p : Filed) → q p ≡ true → r p ≡ true) → (ps : List Filed)
    → filter r (filter q ps) ≡ filter q ps
filter_within q r h [] = refl
filter_within q r h (p ∷ ps) = by_test (q p) refl (filter_within q r h ps) where
  by_test :
      (b : Bool) → q p ≡ b → filter r (filter q ps) ≡ filter q ps
      → filter r (cond b (p ∷ filter q ps) (filter q ps)) ≡ cond b (p ∷ filter q ps) (filter q ps)
  by_test true e ih = ap (λ c. cond c (p ∷ filter r (filter q ps)) (filter r (filter q ps))) (h p e)
      ∙ ap (λ qs. p ∷ qs) ih
  by_test false e ih = ih

filter_own :
    (o : List ℕ) (ids : List (List ℕ)) (rows : List PlanRow)
    → filter (stays o ids) (map (filed_by o) rows) ≡ map (filed_by o) (clear_rows ids rows)
filter_own o ids [] = refl
filter_own o ids (r ∷ rs) =
    ap (λ b. cond (not (list_any (λ id. b && has_id id r) ids)) (filed_by o r ∷ left) left) (itself o)
    ∙ by_test (not (is_named ids r)) (filter_own o ids rs) where
      left : List Filed
      left = filter (stays o ids) (map (filed_by o) rs)

      by_test : (b : Bool) → left ≡ map (filed_by o) (clear_rows ids rs)
          → cond b (filed_by o r ∷ left) left
          ≡ map (filed_by o) (cond b (r ∷ clear_rows ids rs) (clear_rows ids rs))
      by_test true ih = ap (λ ps. filed_by o r ∷ ps) ih
      by_test false ih = ih

-- taking an operator's plans of ids out of all plans takes them out of its own
pub cleared_plans :
    (o : List ℕ) (ids : List (List ℕ)) (ps : List Filed) → IsStrictlySortedBy filed_cmp ps
    → filter (stays o ids) ps ≡ replaced o (clear_rows ids (rows_by o ps)) ps
cleared_plans o ids ps sorted = ap (filter (stays o ids)) (parts o ps sorted)
    ∙ in_parts (rows_by o ps) ps where
      in_parts :
          (rows : List PlanRow) (ps : List Filed)
          → filter (stays o ids) (replaced o rows ps) ≡ replaced o (clear_rows ids rows) ps
      in_parts rows ps =
          filter-append (stays o ids) (filter (is_before o) ps) _ ∙ (λ k.
          filter_within (is_before o) (stays o ids) (λ p b. others_stay o ids p (before_others o p b)) ps k
          ++ (filter-append (stays o ids) (map (filed_by o) rows) (filter (is_after o) ps)
          ∙ (λ j. filter_own o ids rows j
          ++ filter_within (is_after o) (stays o ids)
          (λ p a. others_stay o ids p (after_others o p a)) ps j)) k)

-- a plan, closed if it is the operator's of the id
abbrev pub close_filed : List ℕ → List ℕ → Filed → Filed
close_filed o id p = cond (is_own o id p) (record { operator = p.operator; row = closed p.row }) p

close_other : (o id : List ℕ) (p : Filed) → is_by o p ≡ false → close_filed o id p ≡ p
close_other o id p e = ap (λ b. cond (b && has_id id p.row)
    (record { operator = p.operator; row = closed p.row }) p) e

map_within :
    (o id : List ℕ) (q : Filed → Bool) → ((p : Filed) → q p ≡ true → is_by o p ≡ false) → (ps : List Filed)
    → map (close_filed o id) (filter q ps) ≡ filter q ps
map_within o id q h [] = refl
map_within o id q h (p ∷ ps) = by_test (q p) refl (map_within o id q h ps) where
  by_test : (b : Bool) → q p ≡ b → map (close_filed o id) (filter q ps) ≡ filter q ps
      → map (close_filed o id) (cond b (p ∷ filter q ps) (filter q ps))
      ≡ cond b (p ∷ filter q ps) (filter q ps)
  by_test true e ih = λ k. close_other o id p (h p e) k ∷ ih k
  by_test false e ih = ih

map_own :
    (o id : List ℕ) (rows : List PlanRow)
    → map (close_filed o id) (map (filed_by o) rows) ≡ map (filed_by o) (close_row id rows)
map_own o id [] = refl
map_own o id (r ∷ rs) = λ k.
    (ap (λ b. cond (b && has_id id r) (filed_by o (closed r)) (filed_by o r)) (itself o)
    ∙ by_test (has_id id r)) k ∷ map_own o id rs k where
      by_test : (b : Bool) → cond b (filed_by o (closed r)) (filed_by o r) ≡ filed_by o (cond b (closed r) r)
      by_test true = refl
      by_test false = refl

-- closing an operator's plan of an id among all plans closes it among its own
pub closed_plans :
    (o id : List ℕ) (ps : List Filed) → IsStrictlySortedBy filed_cmp ps
    → map (close_filed o id) ps ≡ replaced o (close_row id (rows_by o ps)) ps
closed_plans o id ps sorted = ap (map (close_filed o id)) (parts o ps sorted)
    ∙ in_parts (rows_by o ps) ps where
      in_parts :
          (rows : List PlanRow) (ps : List Filed)
          → map (close_filed o id) (replaced o rows ps) ≡ replaced o (close_row id rows) ps
      in_parts rows ps =
          map-append (close_filed o id) (filter (is_before o) ps) _ ∙ (λ k.
          map_within o id (is_before o) (before_others o) ps k
          ++ (map-append (close_filed o id) (map (filed_by o) rows) (filter (is_after o) ps)
          ∙ (λ j. map_own o id rows j ++ map_within o id (is_after o) (after_others o) ps j)) k)
