-- The volumes of live plans before a change and after it, with proofs.
use Rattle.std.proofs.Common.{◌≡◌, ℕ, Bool, true, false, MatchBool, ◌&&◌, ◌||◌, not, cond, List, [], ◌∷◌, ◌++◌, map, refl, sym, ap, subst, ◌∙◌, Less, Equal, Greater, IsPermutation}
use Rattle.std.specs.List.{AllByRecursion, AllZip, filter, list_any}
use Rattle.std.specs.List.Sorted.{IsStrictlySortedBy}
use Rattle.std.specs.declared.cmp.Ordering.{Ordering}
use Rattle.std.specs.Ordering.{ordering_then, is_eq, match_ordering}
use Rattle.std.specs.Cmp.{IsTotalOrder}
use Rattle.std.specs.Cmp.Lexicographic.{nat_list_cmp_total}
use Rattle.std.proofs.lemmas.Cmp.{on_total, then_total}
use Rattle.std.proofs.lemmas.List.{append_assoc, append-nil}
use Rattle.std.proofs.lemmas.List.Elements.{filter-append}
use Rattle.std.proofs.lemmas.List.Kept.{IsStrictlySortedBy-filter}
use Rattle.std.proofs.lemmas.List.Sorted.{IsPermutation-refl, IsPermutation-sym, IsPermutation-trans, IsPermutation-cons, IsPermutation-middle, IsPermutation-append_left, IsPermutation-append_right, IsPermutation-append_comm}
use Rattle.volume4d.specs.Volume.{Block}
use Rattle.desk_rules.specs.declared.plan.PlanRow.{PlanRow}
use Rattle.desk_rules.specs.Outcome.{is_live}
use Rattle.desk_store.specs.World.{Filed, World, text_cmp, filed_cmp, plans_of, is_by, has_id, is_own}
use Rattle.desk_store.specs.Changes.{put_filed, filed_by, put_row, with_plans, with_operator, replaced, closed, close_row, clear_rows, changed_by}
use Rattle.desk_store.proofs.lemmas.Order.{inserted, all_weaker, put_sorted, replaced_sorted, rows_sorted, sorted_map}
use Rattle.desk_store.proofs.lemmas.Change.{stays, cleared_plans, close_filed, closed_plans}
use Rattle.desk_store.specs.declared.change.Change.{Change}
use Rattle.desk_store.specs.declared.change.Change.TheVariants.{Enrol, Put, Close, Clear}
use Rattle.live_index.specs.declared.volume.LiveVolume.{LiveVolume}
use Rattle.live_index.specs.Live.{IsLiveVolume, AreVolumesOf, AreVolumes, AreLive, is_volume_of, is_of_any, stays_at, AreAddedBy}
use Rattle.live_index.proofs.lemmas.Lists.{along_permutation, IsPermutation-filter, filter_all, all_any}

pub and_turned : (a b : Bool) → (a && b) ≡ (b && a)
and_turned true true = refl
and_turned true false = refl
and_turned false true = refl
and_turned false false = refl

-- a volume is of an operator's plan of an id if its plan is
pub same_key : (o id : List ℕ) (p : Filed) (v : Block) (live : LiveVolume) → IsLiveVolume p v live
    → is_volume_of o id live ≡ is_own o id p
same_key o id p v live h =
    (λ i. is_eq (text_cmp id (h.id i)) && is_eq (text_cmp o (h.operator i)))
    ∙ and_turned (has_id id p.row) (is_by o p)

any_key : (o : List ℕ) (ids : List (List ℕ)) (p : Filed) (v : Block) (live : LiveVolume)
    → IsLiveVolume p v live → is_of_any o ids live ≡ list_any (λ id. is_own o id p) ids
any_key o [] p v live h = refl
any_key o (id ∷ ids) p v live h = λ i. same_key o id p v live h i || any_key o ids p v live h i

-- ---- a test of volumes by whose they are, which is a test of plans
module _ (test : Filed → Bool) (item_test : LiveVolume → Bool)
    (same : (p : Filed) (v : Block) (live : LiveVolume) → IsLiveVolume p v live → item_test live ≡ test p)
  where
    all_or_none : (b : Bool) (x : LiveVolume) (xs : List LiveVolume)
        → cond b (x ∷ cond b xs []) (cond b xs []) ≡ cond b (x ∷ xs) []
    all_or_none true x xs = refl
    all_or_none false x xs = refl

    area_filtered : (p : Filed) (vs : List Block) (lives : List LiveVolume)
        → AllZip (IsLiveVolume p) vs lives → filter item_test lives ≡ cond (test p) lives []
    area_filtered p [] [] h = none (test p) where
      none : (b : Bool) → ◌≡◌ {A = List LiveVolume} [] (cond b [] [])
      none true = refl
      none false = refl
    area_filtered p [] (l ∷ lives) h = absurd h
    area_filtered p (v ∷ vs) [] h = absurd h
    area_filtered p (v ∷ vs) (l ∷ lives) h =
        (λ i. cond (same p v l h.0 i) (l ∷ area_filtered p vs lives h.1 i) (area_filtered p vs lives h.1 i))
        ∙ all_or_none (test p) l lives

    pub plan_filtered : (p : Filed) (lives : List LiveVolume) → AreVolumesOf p lives
        → filter item_test lives ≡ cond (test p) lives []
    plan_filtered p lives h = go (is_live p.row.usage) h where
      none : (b : Bool) → lives ≡ [] → filter item_test lives ≡ cond b lives []
      none true e = ap (filter item_test) e ∙ sym e
      none false e = ap (filter item_test) e

      go : (b : Bool) → MatchBool b (AllZip (IsLiveVolume p) p.row.area lives) (lives ≡ [])
          → filter item_test lives ≡ cond (test p) lives []
      go true k = area_filtered p p.row.area lives k
      go false k = none (test p) k

    pub plans_filtered : (ps : List Filed) (lives : List LiveVolume) → AreVolumes ps lives
        → AreVolumes (filter test ps) (filter item_test lives)
    plans_filtered [] lives e = ap (filter item_test) e
    plans_filtered (p ∷ ps) lives (front, rest, are, mine, more) =
        go (test p) (ap (filter item_test) are ∙ filter-append item_test front rest
        ∙ ap (λ xs. xs ++ filter item_test rest) (plan_filtered p front mine))
        (plans_filtered ps rest more) where
          go : (b : Bool) → filter item_test lives ≡ cond b front [] ++ filter item_test rest
              → AreVolumes (filter test ps) (filter item_test rest)
              → AreVolumes (cond b (p ∷ filter test ps) (filter test ps)) (filter item_test lives)
          go true e ih = (front, filter item_test rest, e, mine, ih)
          go false e ih = subst (AreVolumes (filter test ps)) (sym e) ih

-- ---- plans in another order

abbrev Moves : List Filed → List Filed → Type 0
Moves ps qs = (lives : List LiveVolume) → AreVolumes ps lives
    → (moved : List LiveVolume) × AreVolumes qs moved × IsPermutation lives moved

same_there : (ps : List Filed) → Moves ps ps
same_there ps lives are = (lives, are, IsPermutation-refl lives)

under_head : (p : Filed) (ps qs : List Filed) → Moves ps qs → Moves (p ∷ ps) (p ∷ qs)
under_head p ps qs move lives (front, rest, are, mine, more) =
    let after = move rest more in (
      front ++ after.0,
      (front, after.0, refl, mine, after.1),
      subst (λ xs. IsPermutation xs (front ++ after.0)) (sym are)
          (IsPermutation-append_right front rest after.0 after.2),
    )

heads_turned : (p q : Filed) (ps : List Filed) → Moves (p ∷ q ∷ ps) (q ∷ p ∷ ps)
heads_turned p q ps lives (first, more, are, mine, (second, rest, then_are, other, all)) = (
  second ++ (first ++ rest),
  (second, first ++ rest, refl, other, (first, rest, refl, mine, all)),
  subst (λ xs. IsPermutation xs (second ++ (first ++ rest)))
      (sym (are ∙ ap (λ xs. first ++ xs) then_are))
      (rw (← append_assoc first, ← append_assoc second)
      (IsPermutation-append_left rest (first ++ second) (second ++ first)
      (IsPermutation-append_comm first second))),
)

chained : (ps qs rs : List Filed) → Moves ps qs → Moves qs rs → Moves ps rs
chained ps qs rs one two lives are =
    let there = one lives are in
    let on = two there.0 there.1 in
    (on.0, on.1, IsPermutation-trans lives there.0 on.0 there.2 on.2)

moved : (ps qs : List Filed) → IsPermutation ps qs → Moves ps qs
moved = along_permutation Moves same_there under_head heads_turned chained

-- ---- plans one after the other

-- those of one more plan
pub one_more : (p : Filed) (ps : List Filed) (lives more : List LiveVolume) → AreVolumes ps lives
    → AreVolumesOf p more → AreVolumes (ps ++ p ∷ []) (lives ++ more)
one_more p [] lives more e mine =
    (more, [], ap (λ xs. xs ++ more) e ∙ sym (append-nil more), mine, refl)
one_more p (q ∷ ps) lives more (front, rest, are, first, others) mine = (
  front,
  rest ++ more,
  ap (λ xs. xs ++ more) are ∙ append_assoc front rest more,
  first,
  one_more p ps rest more others mine,
)

-- those of the plans of a world, in any order
pub are_live : (w : World) (lives : List LiveVolume) → IsStrictlySortedBy filed_cmp w.plans
    → AreVolumes w.plans lives → AreLive w lives
are_live w lives order volumes = record {
  order = order;
  listed = lives;
  volumes = volumes;
  same = IsPermutation-refl lives;
}

-- and in another
pub live_permuted : (w : World) (lives others : List LiveVolume) → AreLive w lives
    → IsPermutation lives others → AreLive w others
live_permuted w lives others h same = record {
  order = h.order;
  listed = h.listed;
  volumes = h.volumes;
  same = IsPermutation-trans h.listed lives others h.same same;
}

pub none_live : AreLive (record { operators = []; plans = [] }) []
unfolding IsStrictlySortedBy
none_live = are_live (record { operators = []; plans = [] }) [] tt refl

-- ---- a plan closed

closed_filtered : (o id : List ℕ) (ps : List Filed) (lives : List LiveVolume) → AreVolumes ps lives
    → AreVolumes (map (close_filed o id) ps) (filter (λ live. not (is_volume_of o id live)) lives)
closed_filtered o id [] lives e = ap (filter (λ live. not (is_volume_of o id live))) e
closed_filtered o id (p ∷ ps) lives (front, rest, are, mine, more) =
    go (is_own o id p) (ap (filter kept) are ∙ filter-append kept front rest
    ∙ ap (λ xs. xs ++ filter kept rest)
    (plan_filtered (λ q. not (is_own o id q)) kept (λ q v live h. ap not (same_key o id q v live h)) p front
    mine)) (closed_filtered o id ps rest more) where
      kept : LiveVolume → Bool
      kept live = not (is_volume_of o id live)

      go : (b : Bool) → filter kept lives ≡ cond (not b) front [] ++ filter kept rest
          → AreVolumes (map (close_filed o id) ps) (filter kept rest)
          → AreVolumes (cond b (record { operator = p.operator; row = closed p.row }) p
          ∷ map (close_filed o id) ps) (filter kept lives)
      go true e ih = ([], filter kept rest, e, refl, ih)
      go false e ih = (front, filter kept rest, e, mine, ih)

-- ---- a plan put in its place

filed_total : IsTotalOrder filed_cmp
filed_total = then_total (on_total (λ (p : Filed). p.operator) nat_list_cmp_total)
    (on_total (λ (p : Filed). p.row.id) nat_list_cmp_total)

abbrev other : Filed → Filed → Bool
other p q = not (is_own p.operator p.row.id q)

own_at : (n m : Ordering) → is_eq (ordering_then n m) ≡ (is_eq n && is_eq m)
own_at Less m = refl
own_at Equal m = refl
own_at Greater m = refl

other_by : (p q : Filed) (n : Ordering) → filed_cmp p q ≡ n → other p q ≡ not (is_eq n)
other_by p q n e = ap not (sym (own_at (text_cmp p.operator q.operator) (text_cmp p.row.id q.row.id))
    ∙ ap is_eq e)

front : (p q : Filed) (rest more : List Filed) → IsPermutation (p ∷ rest) more
    → IsPermutation (p ∷ q ∷ rest) (q ∷ more)
front p q rest more h =
    IsPermutation-trans (p ∷ q ∷ rest) (q ∷ p ∷ rest) (q ∷ more)
    (IsPermutation-sym (q ∷ p ∷ rest) (p ∷ q ∷ rest) (IsPermutation-middle (q ∷ []) p rest))
    (IsPermutation-cons q (p ∷ rest) more h)

put_moves : (p : Filed) (ps : List Filed) → IsStrictlySortedBy filed_cmp ps
    → IsPermutation (p ∷ filter (other p) ps) (put_filed p ps)
unfolding IsStrictlySortedBy
put_moves p [] s = IsPermutation-refl (p ∷ [])
put_moves p (q ∷ qs) s = by_order (filed_cmp p q) refl (put_moves p qs s.1) where
  all_other : AllByRecursion (λ r. filed_cmp p r ≡ Less) qs → filter (other p) qs ≡ qs
  all_other h = filter_all (other p) qs (all_weaker (λ r. filed_cmp p r ≡ Less) (λ r. other p r ≡ true)
      (λ r e. other_by p r Less e) qs h)

  by_order : (n : Ordering) → filed_cmp p q ≡ n
      → IsPermutation (p ∷ filter (other p) qs) (put_filed p qs)
      → IsPermutation (p ∷ filter (other p) (q ∷ qs))
      (match_ordering n (p ∷ q ∷ qs) (p ∷ qs) (q ∷ put_filed p qs))
  by_order Less e ih =
      rw (
        other_by p q Less e,
        all_other (all_weaker (λ r. filed_cmp q r ≡ Less) (λ r. filed_cmp p r ≡ Less)
            (λ r h. filed_total.trans p q r e h) qs s.0),
      )
      (IsPermutation-refl (p ∷ q ∷ qs))
  by_order Equal e ih =
      rw (
        other_by p q Equal e,
        all_other (all_weaker (λ r. filed_cmp q r ≡ Less) (λ r. filed_cmp p r ≡ Less)
            (λ r h. filed_total.congr p q r e ∙ h) qs s.0),
      )
      (IsPermutation-refl (p ∷ qs))
  by_order Greater e ih = rw (other_by p q Greater e)
      (front p q (filter (other p) qs) (put_filed p qs) ih)

-- ---- changes

-- those of plans that are those of a world in another order, among which there are some more in any order
in_any_order : (w : World) (ps : List Filed) (lives now : List LiveVolume)
    → IsStrictlySortedBy filed_cmp w.plans → IsPermutation ps w.plans → AreVolumes ps lives
    → IsPermutation lives now → AreLive w now
in_any_order w ps lives now order same are there =
    let after = moved ps w.plans same lives are in
    record {
      order = order;
      listed = after.0;
      volumes = after.1;
      same = IsPermutation-trans after.0 lives now (IsPermutation-sym lives after.0 after.2) there;
    }

put_live : (o : List ℕ) (row : PlanRow) (w : World) (old fresh : List LiveVolume) → AreLive w old
    → AreVolumesOf (filed_by o row) fresh
    → AreLive (with_plans w o (put_row row (plans_of o w)))
    (filter (λ live. not (is_volume_of o row.id live)) old ++ fresh)
unfolding with_plans
put_live o row w old fresh h brought =
    in_any_order (record w { plans = replaced o (put_row row (plans_of o w)) w.plans }) (p ∷ left)
    (fresh ++ filter kept h.listed) (filter kept old ++ fresh)
    (replaced_sorted o (put_row row (plans_of o w)) w.plans
    (put_sorted row (plans_of o w) (rows_sorted o w.plans h.order)) h.order)
    (subst (IsPermutation (p ∷ left)) (inserted o row w.plans h.order) (put_moves p w.plans h.order)) (
      fresh,
      filter kept h.listed,
      refl,
      brought,
      plans_filtered (other p) kept
          (λ q v live is. ap not (same_key o row.id q v live is)) w.plans h.listed h.volumes,
    )
    (IsPermutation-trans (fresh ++ filter kept h.listed) (fresh ++ filter kept old)
    (filter kept old ++ fresh)
    (IsPermutation-append_right fresh (filter kept h.listed) (filter kept old)
    (IsPermutation-filter kept h.listed old h.same)) (IsPermutation-append_comm fresh (filter kept old)))
  where
    p : Filed
    p = filed_by o row

    left : List Filed
    left = filter (other p) w.plans

    kept : LiveVolume → Bool
    kept live = not (is_volume_of o row.id live)

close_live : (o id : List ℕ) (w : World) (old : List LiveVolume) → AreLive w old
    → AreLive (with_plans w o (close_row id (plans_of o w)))
    (filter (λ live. not (is_volume_of o id live)) old)
unfolding with_plans
close_live o id w old h =
    record {
      order = subst (IsStrictlySortedBy filed_cmp) same (closed_sorted w.plans h.order);
      listed = filter kept h.listed;
      volumes = subst (λ ps. AreVolumes ps (filter kept h.listed)) same
          (closed_filtered o id w.plans h.listed h.volumes);
      same = IsPermutation-filter kept h.listed old h.same;
    } where
      kept : LiveVolume → Bool
      kept live = not (is_volume_of o id live)

      same : map (close_filed o id) w.plans ≡ replaced o (close_row id (plans_of o w)) w.plans
      same = closed_plans o id w.plans h.order

      key_stays : (b : Bool) (q : Filed) (c : Bool) (r : Filed)
          → filed_cmp (cond b (record { operator = q.operator; row = closed q.row }) q)
          (cond c (record { operator = r.operator; row = closed r.row }) r) ≡ filed_cmp q r
      key_stays true q true r = refl
      key_stays true q false r = refl
      key_stays false q true r = refl
      key_stays false q false r = refl

      closed_sorted : (ps : List Filed) → IsStrictlySortedBy filed_cmp ps
          → IsStrictlySortedBy filed_cmp (map (close_filed o id) ps)
      closed_sorted = sorted_map filed_cmp filed_cmp (close_filed o id)
          (λ q r e. key_stays (is_own o id q) q (is_own o id r) r ∙ e)

clear_live : (o : List ℕ) (ids : List (List ℕ)) (w : World) (old : List LiveVolume) → AreLive w old
    → AreLive (with_plans w o (clear_rows ids (plans_of o w)))
    (filter (λ live. not (is_of_any o ids live)) old)
unfolding with_plans
clear_live o ids w old h =
    record {
      order = subst (IsStrictlySortedBy filed_cmp) same
          (IsStrictlySortedBy-filter filed_cmp (stays o ids) w.plans h.order);
      listed = filter kept h.listed;
      volumes = subst (λ ps. AreVolumes ps (filter kept h.listed)) same
          (plans_filtered (stays o ids) kept (λ q v live is. ap not (any_key o ids q v live is)) w.plans
          h.listed h.volumes);
      same = IsPermutation-filter kept h.listed old h.same;
    } where
      kept : LiveVolume → Bool
      kept live = not (is_of_any o ids live)

      same : filter (stays o ids) w.plans ≡ replaced o (clear_rows ids (plans_of o w)) w.plans
      same = cleared_plans o ids w.plans h.order

filter_stays : (xs : List LiveVolume) → filter (λ live. true) xs ≡ xs
filter_stays xs = filter_all (λ live. true) xs (all_any (λ live. true ≡ true) (λ live. refl) xs)

enrol_live : (name : List ℕ) (ceiling : ℕ) (w : World) (old : List LiveVolume) → AreLive w old
    → AreLive (with_operator w name ceiling) old
unfolding with_operator
enrol_live name ceiling w old h =
    record { order = h.order; listed = h.listed; volumes = h.volumes; same = h.same }

-- what stays at a change and what it brings are the live volumes after it
pub changed_live : (change : Change) (w : World) (old fresh : List LiveVolume) → AreLive w old
    → AreAddedBy change fresh → AreLive (changed_by change w) (filter (stays_at change) old ++ fresh)
unfolding changed_by
changed_live (Enrol operator ceiling) w old fresh h none =
    subst (AreLive (with_operator w operator ceiling))
    (sym (ap (λ xs. filter (λ live. true) old ++ xs) none ∙ append-nil (filter (λ live. true) old)
    ∙ filter_stays old)) (enrol_live operator ceiling w old h)
changed_live (Put operator row) w old fresh h brought = put_live operator row w old fresh h brought
changed_live (Close operator id) w old fresh h none =
    subst (AreLive (with_plans w operator (close_row id (plans_of operator w))))
    (sym (ap (λ xs. filter (λ live. not (is_volume_of operator id live)) old ++ xs) none
    ∙ append-nil (filter (λ live. not (is_volume_of operator id live)) old))) (close_live operator id w old h)
changed_live (Clear operator ids) w old fresh h none =
    subst (AreLive (with_plans w operator (clear_rows ids.items (plans_of operator w))))
    (sym (ap (λ xs. filter (λ live. not (is_of_any operator ids.items live)) old ++ xs) none
    ∙ append-nil (filter (λ live. not (is_of_any operator ids.items live)) old)))
    (clear_live operator ids.items w old h)
