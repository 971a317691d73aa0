-- What all rivals of a plan hold, with its proofs.
use Rattle.std.proofs.Common.{◌≡◌, ℕ, Bool, true, false, ◌&&◌, ◌||◌, cond, not, List, [], ◌∷◌, map, Option, Some, None, refl, sym, ap, ◌∙◌, arith}
use Rattle.std.specs.Prelude.{nat_le, max}
use Rattle.std.proofs.lemmas.Bool.Decides.{nat_tests}
use Rattle.std.specs.List.{filter}
use Rattle.desk_rules.specs.declared.plan.PlanRow.{PlanRow}
use Rattle.volume4d.specs.Volume.{Point}
use Rattle.volume4d.specs.Slab.{greater, level_where}
use Rattle.volume4d.proofs.lemmas.Level.{greater_assoc, greater_comm, greater_none}
use Rattle.desk_rules.proofs.lemmas.Plan.{top_priority-cons, top_priority-nil}
use Rattle.desk_rules.specs.Conflict.{at_least}
use Rattle.desk_rules.specs.Outcome.{row_holds, top_priority}
use Rattle.desk_store.specs.World.{Filed, World, rows_by, is_by, has_id, others_of, held, held_at, is_own, rival_level, rivals_top, other_level, others_top}

-- ---- levels

max_reaches : (n a b : ℕ) → (nat_le n a || nat_le n b) ≡ nat_le n (max a b)
max_reaches n a b = grind (arith, nat_tests)

max_left : (n a b : ℕ) → nat_le n a ≡ true → nat_le n b ≡ false → max a b ≡ a
max_left n a b p q = grind (arith, nat_tests)

max_right : (n a b : ℕ) → nat_le n a ≡ false → nat_le n b ≡ true → max a b ≡ b
max_right n a b p q = grind (arith, nat_tests)

-- a level, where it is at least a priority, of the greater of two
pub at_least_greater : (n : ℕ) (a b : Option ℕ) → at_least n (greater a b)
    ≡ greater (at_least n a) (at_least n b)
at_least_greater n None b = refl
at_least_greater n (Some a) None = sym (greater_none (at_least n (Some a)))
at_least_greater n (Some a) (Some b) = ap (λ c. cond c (Some (max a b)) None) (sym (max_reaches n a b))
    ∙ by_tests (nat_le n a) (nat_le n b) refl refl where
      by_tests : (s t : Bool) → nat_le n a ≡ s → nat_le n b ≡ t → cond (s || t) (Some (max a b)) None
          ≡ greater (cond s (Some a) None) (cond t (Some b) None)
      by_tests true true p q = refl
      by_tests true false p q = ap Some (max_left n a b p q)
      by_tests false true p q = ap Some (max_right n a b p q)
      by_tests false false p q = refl

-- ---- what rivals hold

-- one more plan
pub rivals_top-cons :
    (o id : List ℕ) (p : Filed) (ps : List Filed) (x : Point)
    → rivals_top o id (p ∷ ps) x ≡ greater (rival_level o id p x) (rivals_top o id ps x)
unfolding rivals_top rival_level
rivals_top-cons o id p ps x = by_test (not (is_own o id p)) where
  others : List PlanRow
  others = map (λ q. q.row) (filter (λ q. not (is_own o id q)) ps)

  by_test : (b : Bool) → top_priority
      (map (λ q. q.row) (cond b (p ∷ filter (λ q. not (is_own o id q)) ps)
      (filter (λ q. not (is_own o id q)) ps))) x
      ≡ greater (level_where (b && row_holds p.row x) p.row.priority) (top_priority others x)
  by_test true = top_priority-cons p.row others x
  by_test false = refl

pub rivals_top-nil : (o id : List ℕ) (x : Point) → rivals_top o id [] x ≡ None
unfolding rivals_top
rivals_top-nil o id x = top_priority-nil x

own_top : List ℕ → List ℕ → List Filed → Point → Option ℕ
own_top o id ps x = top_priority (filter (λ r. not (has_id id r)) (rows_by o ps)) x

other_top : List ℕ → List Filed → Point → Option ℕ
other_top o ps x = top_priority (map (λ p. p.row) (filter (λ p. not (is_by o p)) ps)) x

swap_greater : (a b c : Option ℕ) → greater a (greater b c) ≡ greater b (greater a c)
swap_greater a b c = sym (greater_assoc a b c) ∙ ap (λ q. greater q c) (greater_comm a b)
    ∙ greater_assoc b a c

split :
    (o id : List ℕ) (x : Point) (ps : List Filed)
    → rivals_top o id ps x ≡ greater (other_top o ps x) (own_top o id ps x)
unfolding own_top other_top rival_level
split o id x [] = rivals_top-nil o id x
    ∙ sym (ap (λ a. greater a (top_priority [] x)) (top_priority-nil x) ∙ top_priority-nil x)
split o id x (p ∷ ps) = rivals_top-cons o id p ps x ∙ ap (greater (rival_level o id p x)) (split o id x ps)
    ∙ by_operator (is_by o p) where
      mine : List PlanRow
      mine = rows_by o ps

      theirs : List PlanRow
      theirs = map (λ q. q.row) (filter (λ q. not (is_by o q)) ps)

      by_id : (c : Bool) → greater (level_where (not c && row_holds p.row x) p.row.priority)
          (greater (top_priority theirs x) (top_priority (filter (λ r. not (has_id id r)) mine) x))
          ≡ greater (top_priority theirs x)
          (top_priority (cond (not c) (p.row ∷ filter (λ r. not (has_id id r)) mine)
          (filter (λ r. not (has_id id r)) mine)) x)
      by_id true = refl
      by_id false = swap_greater (level_where (row_holds p.row x) p.row.priority) (top_priority theirs x) _
          ∙ ap (greater (top_priority theirs x))
          (sym (top_priority-cons p.row (filter (λ r. not (has_id id r)) mine) x))

      by_operator : (b : Bool) → greater
          (level_where (not (b && has_id id p.row) && row_holds p.row x) p.row.priority)
          (greater (top_priority theirs x) (top_priority (filter (λ r. not (has_id id r)) mine) x))
          ≡ greater (top_priority (map (λ q. q.row)
          (cond (not b) (p ∷ filter (λ q. not (is_by o q)) ps) (filter (λ q. not (is_by o q)) ps))) x)
          (top_priority (filter (λ r. not (has_id id r))
          (map (λ q. q.row) (cond b (p ∷ filter (is_by o) ps) (filter (is_by o) ps)))) x)
      by_operator true = by_id (has_id id p.row)
      by_operator false = sym (greater_assoc (level_where (row_holds p.row x) p.row.priority)
          (top_priority theirs x) _)
          ∙ ap (λ a. greater a (top_priority (filter (λ r. not (has_id id r)) mine) x))
          (sym (top_priority-cons p.row theirs x))

-- what others hold, and what the operator's other plans hold, are what all rivals hold
pub held_by_rivals :
    (o id : List ℕ) (w : World) (x : Point)
    → rivals_top o id w.plans x ≡ held_at (rows_by o w.plans) (held w o) id x
unfolding held_at held others_of own_top other_top
held_by_rivals o id w x = split o id x w.plans

-- ---- what others hold

pub others_top-cons :
    (o : List ℕ) (p : Filed) (ps : List Filed) (x : Point)
    → others_top o (p ∷ ps) x ≡ greater (other_level o p x) (others_top o ps x)
unfolding others_top other_level
others_top-cons o p ps x = by_test (not (is_by o p)) where
  others : List PlanRow
  others = map (λ q. q.row) (filter (λ q. not (is_by o q)) ps)

  by_test : (b : Bool) → top_priority
      (map (λ q. q.row) (cond b (p ∷ filter (λ q. not (is_by o q)) ps)
      (filter (λ q. not (is_by o q)) ps))) x
      ≡ greater (level_where (b && row_holds p.row x) p.row.priority) (top_priority others x)
  by_test true = top_priority-cons p.row others x
  by_test false = refl

pub others_top-nil : (o : List ℕ) (x : Point) → others_top o [] x ≡ None
unfolding others_top
others_top-nil o x = top_priority-nil x

pub held_by_others : (o : List ℕ) (w : World) (x : Point) → others_top o w.plans x ≡ held w o x
unfolding held others_of others_top
held_by_others o w x = refl
