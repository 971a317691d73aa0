-- What others hold, plan by plan.
use Rattle.std.proofs.Common.{◌≡◌, ℕ, ◌+◌, ◌<◌, Bool, true, false, ◌&&◌, ◌||◌, cond, not, List, [], ◌∷◌, ◌++◌, length, get_or, take, Option, Some, None, refl, sym, ap, ◌∙◌, arith}
use Rattle.std.specs.Prelude.{nat_le, max}
use Rattle.std.proofs.lemmas.List.Folds.{list_any_more}
use Rattle.volume4d.specs.declared.slab.Slab.{Slab}
use Rattle.volume4d.specs.declared.slab.Held.{Held}
use Rattle.volume4d.specs.Volume.{Point, area_has}
use Rattle.volume4d.specs.Slab.{slab_has, slabs_have, top_held, greater, level_where}
use Rattle.volume4d.proofs.lemmas.Level.{greater_none, greater_assoc, top_held-push, top_held-nil}
use Rattle.desk_rules.specs.Outcome.{is_live, row_holds}
use Rattle.desk_rules.specs.Conflict.{at_least}
use Rattle.desk_store.specs.World.{Filed, is_by, is_own, rival_level, rivals_top, other_level, others_top}
use Rattle.desk_store.proofs.lemmas.Rival.{at_least_greater, rivals_top-cons, rivals_top-nil, others_top-cons, others_top-nil}

max_itself : (n : ℕ) → max n n ≡ n
max_itself n = omega arith

-- the step of a loop over the plans
pub rival_added : (n : ℕ) (o id : List ℕ) (p : Filed) (ps : List Filed) (x : Point)
    (before after all : Option ℕ) → after ≡ greater before (at_least n (rival_level o id p x))
    → greater before (at_least n (rivals_top o id (p ∷ ps) x)) ≡ all
    → greater after (at_least n (rivals_top o id ps x)) ≡ all
rival_added n o id p ps x before after all more e =
    ap (λ l. greater l (at_least n (rivals_top o id ps x))) more
    ∙ greater_assoc before (at_least n (rival_level o id p x)) _
    ∙ ap (greater before) (sym (ap (at_least n) (rivals_top-cons o id p ps x)
    ∙ at_least_greater n (rival_level o id p x) (rivals_top o id ps x))) ∙ e

-- the start of the loop, and its end
pub rivals_begin : (level : Option ℕ) (helds : List Held) (x : Point) → helds ≡ []
    → greater (top_held helds x) level ≡ level
rivals_begin level helds x e = ap (λ hs. greater (top_held hs x) level) e
    ∙ ap (λ l. greater l level) (top_held-nil x)

pub rivals_end : (n : ℕ) (o id : List ℕ) (ps : List Filed) (x : Point) (level all : Option ℕ) → ps ≡ []
    → greater level (at_least n (rivals_top o id ps x)) ≡ all → level ≡ all
rivals_end n o id ps x level all none e =
    sym (ap (λ qs. greater level (at_least n (rivals_top o id qs x))) none
    ∙ ap (λ l. greater level (at_least n l)) (rivals_top-nil o id x) ∙ greater_none level) ∙ e

-- the operator's own plan of the id adds nothing
pub own_adds_none : (n : ℕ) (o id : List ℕ) (p : Filed) (x : Point) (level : Option ℕ) → is_own o id p
    ≡ true
    → level ≡ greater level (at_least n (rival_level o id p x))
unfolding rival_level
own_adds_none n o id p x level e =
    sym (ap (λ b. greater level (at_least n (level_where (not b && row_holds p.row x) p.row.priority)))
    e
    ∙ greater_none level)

-- nor does a plan that isn't live, or of a lower priority
pub low_adds_none : (n : ℕ) (o id : List ℕ) (p : Filed) (x : Point) (level : Option ℕ)
    → (is_live p.row.usage && nat_le n p.row.priority) ≡ false → level
    ≡ greater level (at_least n (rival_level o id p x))
unfolding rival_level row_holds
low_adds_none n o id p x level e =
    sym (ap (greater level) (by_tests (not (is_own o id p)) (is_live p.row.usage)
    (area_has p.row.area x) e)
    ∙ greater_none level) where
      too_low : nat_le n p.row.priority ≡ false → (a : Bool) → at_least n (level_where a p.row.priority)
          ≡ None
      too_low f true = ap (λ b. cond b (Some p.row.priority) None) f
      too_low f false = refl

      by_tests : (b l a : Bool) → (l && nat_le n p.row.priority) ≡ false
          → at_least n (level_where (b && (l && a)) p.row.priority) ≡ None
      by_tests false l a f = refl
      by_tests true false a f = refl
      by_tests true true a f = too_low f a

-- nor does a plan that has no such point
pub absent_adds_none : (n : ℕ) (o id : List ℕ) (p : Filed) (x : Point) (level : Option ℕ)
    → area_has p.row.area x ≡ false → level ≡ greater level (at_least n (rival_level o id p x))
unfolding rival_level row_holds
absent_adds_none n o id p x level e =
    sym (ap (λ b. greater level
    (at_least n (level_where (not (is_own o id p) && (is_live p.row.usage && b)) p.row.priority))) e
    ∙ by_tests (not (is_own o id p)) (is_live p.row.usage)) where
      by_tests : (b l : Bool)
          → greater level (at_least n (level_where (b && (l && false)) p.row.priority))
          ≡ level
      by_tests false l = greater_none level
      by_tests true false = greater_none level
      by_tests true true = greater_none level

-- every other plan adds its priority where its area has the point
pub rival_adds : (n : ℕ) (o id : List ℕ) (p : Filed) (x : Point) → is_own o id p ≡ false
    → (is_live p.row.usage && nat_le n p.row.priority) ≡ true
    → level_where (area_has p.row.area x) p.row.priority ≡ at_least n (rival_level o id p x)
unfolding rival_level row_holds
rival_adds n o id p x own e =
    sym (ap (λ b. at_least n (level_where (not b && (is_live p.row.usage && area_has p.row.area x))
    p.row.priority)) own ∙ by_tests (is_live p.row.usage) (area_has p.row.area x) e) where
      by_tests : (l a : Bool) → (l && nat_le n p.row.priority) ≡ true
          → at_least n (level_where (true && (l && a)) p.row.priority) ≡ level_where a p.row.priority
      by_tests false a f = cc
      by_tests true true f = ap (λ b. cond b (Some p.row.priority) None) f
      by_tests true false f = refl

-- ---- plans of other operators

-- the step of a loop over the plans
pub other_added : (o : List ℕ) (p : Filed) (ps : List Filed) (x : Point) (before after all : Option ℕ)
    → after ≡ greater before (other_level o p x)
    → greater before (others_top o (p ∷ ps) x) ≡ all → greater after (others_top o ps x) ≡ all
other_added o p ps x before after all more e =
    ap (λ l. greater l (others_top o ps x)) more
    ∙ greater_assoc before (other_level o p x) (others_top o ps x)
    ∙ ap (greater before) (sym (others_top-cons o p ps x)) ∙ e

-- its end
pub others_end : (o : List ℕ) (ps : List Filed) (x : Point) (level all : Option ℕ) → ps ≡ []
    → greater level (others_top o ps x) ≡ all → level ≡ all
others_end o ps x level all none e =
    sym (ap (λ qs. greater level (others_top o qs x)) none
    ∙ ap (greater level) (others_top-nil o x) ∙ greater_none level) ∙ e

-- the operator's own plan adds nothing
pub own_adds_nothing : (o : List ℕ) (p : Filed) (x : Point) (level : Option ℕ) → is_by o p ≡ true
    → level ≡ greater level (other_level o p x)
unfolding other_level
own_adds_nothing o p x level e =
    sym (ap (λ b. greater level (level_where (not b && row_holds p.row x) p.row.priority)) e
    ∙ greater_none level)

-- every other adds its priority where it holds the point
pub other_adds : (o : List ℕ) (p : Filed) (x : Point) → is_by o p ≡ false
    → level_where (is_live p.row.usage && area_has p.row.area x) p.row.priority ≡ other_level o p x
unfolding other_level row_holds
other_adds o p x e =
    sym (ap (λ b. level_where (not b && (is_live p.row.usage && area_has p.row.area x)) p.row.priority) e)

-- ---- slabs

-- one more slab of a priority
pub slab_adds : (helds : List Held) (slabs : List Slab) (i : ℕ) (s : Slab) (priority : ℕ) (x : Point)
    (before : Option ℕ) → i < length slabs → s ≡ get_or slabs i s → top_held helds x
    ≡ greater before (level_where (slabs_have (take i slabs) x) priority)
    → top_held (helds ++ record { slab = s; priority = priority } ∷ []) x
    ≡ greater before (level_where (slabs_have (take (i + 1) slabs) x) priority)
slab_adds helds slabs i s priority x before h is so_far =
    top_held-push helds (record { slab = s; priority = priority }) x
    ∙ ap (λ l. greater l (level_where (slab_has s x) priority)) so_far
    ∙ greater_assoc before (level_where (slabs_have (take i slabs) x) priority)
    (level_where (slab_has s x) priority)
    ∙ ap (greater before) (either (slabs_have (take i slabs) x) (slab_has s x)
    ∙ ap (λ b. level_where b priority) (sym (list_any_more (λ t. slab_has t x) slabs i s h
    ∙ ap (λ t. slabs_have (take i slabs) x || slab_has t x) (sym is)))) where
      either : (a b : Bool) → greater (level_where a priority) (level_where b priority)
          ≡ level_where (a || b) priority
      either true true = ap Some (max_itself priority)
      either true false = refl
      either false b = refl

-- a slab that has no point of an extent adds nothing there
pub slab_outside : (slabs : List Slab) (i : ℕ) (s : Slab) (priority : ℕ) (x : Point) (meets : Bool)
    (level before : Option ℕ) → i < length slabs → s ≡ get_or slabs i s → meets ≡ false
    → (slab_has s x ≡ true → meets ≡ true) → level
    ≡ greater before (level_where (slabs_have (take i slabs) x) priority) → level
    ≡ greater before (level_where (slabs_have (take (i + 1) slabs) x) priority)
slab_outside slabs i s priority x meets level before h is apart shared so_far =
    so_far ∙ ap (λ b. greater before (level_where b priority))
    (sym (list_any_more (λ t. slab_has t x) slabs i s h
    ∙ ap (λ t. slabs_have (take i slabs) x || slab_has t x) (sym is)
    ∙ no_more (slabs_have (take i slabs) x) (slab_has s x) shared)) where
      no_more : (a b : Bool) → (b ≡ true → meets ≡ true) → (a || b) ≡ a
      no_more true b h = refl
      no_more false true h = sym (h refl) ∙ apart
      no_more false false h = refl
