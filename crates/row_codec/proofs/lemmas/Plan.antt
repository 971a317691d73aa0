-- Plans read from their rows and those of their volumes, one after the other.
use Rattle.std.proofs.Common.{◌≡◌, ℕ, ◌+◌, Bool, true, false, ◌&&◌, cond, List, [], ◌∷◌, ◌++◌, length, take, drop, refl, sym, ap, ◌∙◌, arith, append_assoc, take-append-drop, Less}
use Rattle.std.specs.List.{AllByRecursion, prefix_len}
use Rattle.std.specs.List.Sorted.{IsStrictlySortedBy}
use Rattle.std.specs.Ordering.{is_eq}
use Rattle.std.proofs.lemmas.Cmp.{tied_itself}
use Rattle.std.proofs.lemmas.List.{append-nil, take_at, drop_at}
use Rattle.sqlite_value.specs.declared.value.Value.TheVariants.{Text}
use Rattle.sqlite_value.specs.Order.{Row}
use Rattle.volume4d.specs.Volume.{Block}
use Rattle.desk_store.specs.World.{Filed, text_cmp, filed_cmp, IsPlan}
use Rattle.desk_store.proofs.lemmas.Order.{all_weaker, all_append}
use Rattle.row_codec.specs.Tables.{id_text, row_of_plan, plan_rows, row_of_volume, rows_from, volume_rows_from, area_rows, volume_rows, IsFiled, AreRowsOf, ArePlanRows, is_row_of}
use Rattle.row_codec.proofs.lemmas.Order.{after_key, after_place, placed}
use Rattle.row_codec.proofs.lemmas.Id.{text_order}
use Rattle.row_codec.proofs.lemmas.Order.{ArePlans, turned}
use Rattle.row_codec.proofs.lemmas.Order.{filed_total, own_at}

-- ---- which rows are of a plan

abbrev pub of : Filed → Row → Bool
of p r = is_row_of p.operator (id_text p.row.id) r

-- a row that begins with the plan's key
abbrev pub HasKey : Filed → Row → Type 0
HasKey q r = (more : Row) × (r ≡ Text q.operator ∷ Text (id_text q.row.id) ∷ more)

of_key : (p q : Filed) (r : Row) → IsPlan p.row → IsPlan q.row → HasKey q r → of p r
    ≡ is_eq (filed_cmp p q)
of_key p q r hp hq (more, e) =
    ap (of p) e
    ∙ (λ i. turned q.operator p.operator i && (ap is_eq (text_order q.row.id p.row.id hq.id hp.id)
    ∙ turned q.row.id p.row.id) i)
    ∙ sym (own_at (text_cmp p.operator q.operator) (text_cmp p.row.id q.row.id))

pub all_mine : (p : Filed) (rows : List Row) → IsPlan p.row → AllByRecursion (HasKey p) rows
    → AllByRecursion (λ r. of p r ≡ true) rows
all_mine p rows h keyed = all_weaker (HasKey p) (λ r. of p r ≡ true)
    (λ r k. of_key p p r h h k ∙ ap is_eq (tied_itself filed_total p)) rows keyed

pub none_mine : (p q : Filed) (rows : List Row) → IsPlan p.row → IsPlan q.row → filed_cmp p q ≡ Less
    → AllByRecursion (HasKey q) rows → AllByRecursion (λ r. of p r ≡ false) rows
none_mine p q rows hp hq e keyed = all_weaker (HasKey q) (λ r. of p r ≡ false)
    (λ r k. of_key p q r hp hq k ∙ ap is_eq e) rows keyed

pub placed_keyed : (more : Filed → ℕ → Block → Row) (p : Filed) (n : ℕ) (vs : List Block)
    → AllByRecursion (HasKey p) (rows_from (placed more) p n vs)
placed_keyed more p n [] = tt
placed_keyed more p n (v ∷ vs) = ((after_key (placed more p n v), refl), placed_keyed more p (n + 1) vs)

pub area_keyed : (p : Filed) (n : ℕ) (vs : List Block)
    → AllByRecursion (HasKey p) (volume_rows_from p n vs)
area_keyed = placed_keyed (after_place row_of_volume)

volumes_of_others : (p : Filed) (qs : List Filed) → IsPlan p.row → ArePlans qs
    → AllByRecursion (λ q. filed_cmp p q ≡ Less) qs
    → AllByRecursion (λ r. of p r ≡ false) (volume_rows qs)
volumes_of_others p [] hp h s = tt
volumes_of_others p (q ∷ qs) hp h s =
    all_append (λ r. of p r ≡ false) (area_rows q) (volume_rows qs)
    (none_mine p q (area_rows q) hp h.0 s.0 (area_keyed q 0 q.row.area))
    (volumes_of_others p qs hp h.1 s.1)

-- ---- the first rows

pub first_rows : {X : Type 0} (test : X → Bool) (xs ys : List X)
    → AllByRecursion (λ x. test x ≡ true) xs
    → AllByRecursion (λ y. test y ≡ false) ys → prefix_len test (xs ++ ys) ≡ length xs
first_rows test [] [] h k = refl
first_rows test [] (y ∷ ys) h k = ap (λ b. cond b (1 + prefix_len test ys) 0) k.0
first_rows test (x ∷ xs) ys h k = let more = first_rows test xs ys h.1 k
    in ap (λ b. cond b (1 + prefix_len test (xs ++ ys)) 0) h.0 ∙ omega (arith, more)

pub rejoined : {X : Type 0} (xs : List X) (n : ℕ) → xs ≡ take n xs ++ drop n xs
rejoined xs n = sym (take-append-drop n xs)

-- ---- a plan after the other

pub plans_within : (ps : List Filed) → AllByRecursion IsFiled ps → ArePlans ps
plans_within ps h = all_weaker IsFiled (λ p. IsPlan p.row) (λ p k. k.row) ps h

-- these plans were read, and these rows are left
pub record AreFiled (head_rows volumes : List Row) (ps : List Filed) (left rest : List Row) : Type 0 where
  pub within : AllByRecursion IsFiled ps
  pub heads_so_far : head_rows ≡ plan_rows ps ++ left
  pub areas_so_far : volumes ≡ volume_rows ps ++ rest
  pub remain : (qs : List Filed) → IsStrictlySortedBy filed_cmp qs → ArePlanRows qs head_rows volumes
      → (more : List Filed) × IsStrictlySortedBy filed_cmp more × ArePlanRows more left rest

heads_append : (ps qs : List Filed) → plan_rows (ps ++ qs) ≡ plan_rows ps ++ plan_rows qs
heads_append [] qs = refl
heads_append (p ∷ ps) qs = ap (λ rs. row_of_plan p ∷ rs) (heads_append ps qs)

areas_append : (ps qs : List Filed) → volume_rows (ps ++ qs) ≡ volume_rows ps ++ volume_rows qs
areas_append [] qs = refl
areas_append (p ∷ ps) qs = ap (λ rs. area_rows p ++ rs) (areas_append ps qs)
    ∙ sym (append_assoc (area_rows p) (volume_rows ps) (volume_rows qs))

module _ (left later rest mine more : List Row) (head : Row) (count : ℕ) (some : left ≡ head ∷ later)
    (counted : (p : Filed) → head ≡ row_of_plan p → count ≡ prefix_len (of p) rest)
    (mine_is : mine ≡ take count rest) (more_is : more ≡ drop count rest) where
  -- if rows are of plans in order, those of the first are taken
  first_taken : (q : Filed) (qs : List Filed) → IsStrictlySortedBy filed_cmp (q ∷ qs)
      → ArePlanRows (q ∷ qs) left rest → (head ≡ row_of_plan q) × (mine ≡ area_rows q)
      × ArePlanRows qs later more
  unfolding IsStrictlySortedBy
  first_taken q qs s h =
      let both : head ∷ later ≡ row_of_plan q ∷ plan_rows qs = sym some ∙ h.plans in
      let first : head ≡ row_of_plan q = cc in
      let head_rows : later ≡ plan_rows qs = cc in
      let plans = plans_within (q ∷ qs) h.within in
      let here : length (area_rows q) ≡ count =
      sym (counted q first ∙ ap (prefix_len (of q)) h.areas
      ∙ first_rows (of q) (area_rows q) (volume_rows qs)
      (all_mine q (area_rows q) plans.0 (area_keyed q 0 q.row.area))
      (volumes_of_others q qs plans.0 plans.1 s.0)) in (
        first,
        mine_is ∙ ap (take count) h.areas ∙ take_at (area_rows q) (volume_rows qs) count here,
        record {
          within = h.within.1;
          plans = head_rows;
          areas = more_is ∙ ap (drop count) h.areas ∙ drop_at (area_rows q) (volume_rows qs) count here;
        },
      )

  tail : (qs : List Filed) → IsStrictlySortedBy filed_cmp qs → ArePlanRows qs left rest
      → (those : List Filed)
      × IsStrictlySortedBy filed_cmp those × ArePlanRows those later more
  unfolding IsStrictlySortedBy
  tail [] s h = let none : head ∷ later ≡ [] = sym some ∙ h.plans in cc
  tail (q ∷ qs) s h = (qs, s.1, (first_taken q qs s h).2)

  not_first : ((p : Filed) → IsFiled p → AreRowsOf p head mine → ⊥) → (qs : List Filed)
      → IsStrictlySortedBy filed_cmp qs → ArePlanRows qs left rest → ⊥
  not_first none [] s h = let nil : head ∷ later ≡ [] = sym some ∙ h.plans in cc
  not_first none (q ∷ qs) s h = let taken = first_taken q qs s h
      in none q h.within.0 (record { plan = taken.0; area = taken.1 })

  pub goes_on : (head_rows volumes : List Row) (ps : List Filed) (p : Filed)
      → AreFiled head_rows volumes ps left rest
      → IsFiled p → AreRowsOf p head mine → AreFiled head_rows volumes (ps ++ p ∷ []) later more
  goes_on head_rows volumes ps p h within are = record {
    within = all_append IsFiled ps (p ∷ []) h.within (within, tt);
    heads_so_far =
        h.heads_so_far ∙ (λ i. plan_rows ps ++ (some ∙ ap (λ r. r ∷ later) are.plan) i)
        ∙ sym (append_assoc (plan_rows ps) (row_of_plan p ∷ []) later)
        ∙ ap (λ rs. rs ++ later) (sym (heads_append ps (p ∷ [])));
    areas_so_far =
        h.areas_so_far ∙ (λ i. volume_rows ps ++ (rejoined rest count
        ∙ (λ j. (sym mine_is ∙ are.area) j ++ sym more_is j)) i)
        ∙ sym (append_assoc (volume_rows ps) (area_rows p) more)
        ∙ ap (λ rs. (volume_rows ps ++ rs) ++ more) (sym (append-nil (area_rows p)))
        ∙ ap (λ rs. rs ++ more) (sym (areas_append ps (p ∷ [])));
    remain = λ qs s k. let (those, sorted, there) = h.remain qs s k in tail those sorted there;
  }

  pub refused : (head_rows volumes : List Row) (ps : List Filed) → AreFiled head_rows volumes ps left rest
      → ((p : Filed) → IsFiled p → AreRowsOf p head mine → ⊥) → (qs : List Filed)
      → IsStrictlySortedBy filed_cmp qs → ArePlanRows qs head_rows volumes → ⊥
  refused head_rows volumes ps h none qs s k = let (those, sorted, there) = h.remain qs s k
      in not_first none those sorted there
