-- Plans of others that can't block a plan: what an operator is answered doesn't depend on them.
use Rattle.std.proofs.Common.{◌≡◌, ℕ, ◌+◌, ℤ, Bool, true, false, ◌&&◌, ◌||◌, not, List, Option, Some, None}
use Rattle.std.proofs.Common.{refl, sym, ap, ◌∙◌, arith}
use Rattle.std.specs.Prelude.{cond, is_some, nat_le, nat_lt, ◌==◌}
use Rattle.std.specs.List.{filter}
use Rattle.std.proofs.lemmas.Bool.{and_parts}
use Rattle.std.proofs.lemmas.Bool.Decides.{nat_tests}
use Rattle.volume4d.specs.Slab.{greater}
use Rattle.volume4d.specs.Sweep.{Spot}
use Rattle.volume4d.specs.Volume.{Point, Block, area_has}
use Rattle.desk_rules.specs.declared.call.Call.TheVariants as call
use Rattle.desk_rules.specs.declared.plan.PutCall.{PutCall}
use Rattle.desk_rules.specs.Conflict.{IsConflict, at_least, conflict, is_blocked}
use Rattle.desk_rules.specs.Outcome.{outcome_under, top_priority, ReplyParts, states_of}
use Rattle.desk_rules.specs.Limits.{blocks, is_permitted, least_blocking}
use Rattle.desk_store.specs.World.{has_id, held_at, own, stored_of}
use Rattle.desk_store.proofs.lemmas.Rival.{at_least_greater}
use Rattle.desk_run.specs.Verdicts.{DeskWorld, Side, held_in, side, Reported, enrolled_ruling, put_outcome, put_ruling, replied, ruling_under, standing_of, reported_to, verdict}
use Rattle.desk_run.specs.Calls.{OwnAlike}
use Rattle.desk_examples.specs.Desks.{BlockAlike}
use Rattle.desk_examples.proofs.DeskLemmas.{said_of}

permitted_reaches :
    (priority level : ℕ) → (nat_lt priority level || (level == priority && false))
    ≡ nat_le (priority + 1) level
permitted_reaches priority level = grind (arith, nat_tests)

unpermitted_reaches :
    (priority level : ℕ) → (nat_lt priority level || (level == priority && true)) ≡ nat_le priority level
unpermitted_reaches priority level = grind (arith, nat_tests)

kept_if : (b : Bool) (level : ℕ) → is_some (cond b (Some level) None) ≡ b
kept_if true level = refl
kept_if false level = refl

-- what blocks a plan is what is at least the least priority that does
blocks_if :
    (permitted : List ℕ) (priority : ℕ) (level : Option ℕ)
    → is_some (at_least (least_blocking permitted priority) level) ≡ blocks permitted priority level
blocks_if permitted priority None = refl
blocks_if permitted priority (Some level) =
    kept_if (nat_le (least_blocking permitted priority) level) level
    ∙ sym (by_test (is_permitted permitted priority)) where
      by_test : (b : Bool) → (nat_lt priority level || (level == priority && not b))
          ≡ nat_le (cond b (priority + 1) priority) level
      by_test true = permitted_reaches priority level
      by_test false = unpermitted_reaches priority level

at_least_is : (n level : ℕ) (found : Option ℕ) → at_least n found ≡ Some level → found ≡ Some level
at_least_is n level None is = is
at_least_is n level (Some l) is = by_test (nat_le n l) is where
  by_test : (b : Bool) → cond b (Some l) None ≡ Some level → ◌≡◌ {A = Option ℕ} (Some l) (Some level)
  by_test true is = is
  by_test false is = cc

at_least_of :
    (n level : ℕ) (found : Option ℕ) → is_some (at_least n found) ≡ true → found ≡ Some level
    → at_least n found ≡ Some level
at_least_of n level None some is = is
at_least_of n level (Some l) some is = by_test (nat_le n l) some is where
  by_test : (b : Bool) → is_some (cond b (Some l) None) ≡ true
      → ◌≡◌ {A = Option ℕ} (Some l) (Some level) → cond b (Some l) None ≡ Some level
  by_test true some is = is
  by_test false some is = cc

module _ (permitted : List ℕ) (area : List Block) (f g : Point → Option ℕ) (priority : ℕ)
    (same : (x : Point) → area_has area x ≡ true
    → at_least (least_blocking permitted priority) (f x)
    ≡ at_least (least_blocking permitted priority) (g x))
  where
    abbrev least : ℕ
    least = least_blocking permitted priority

    same_test : (x : Point) → is_blocked permitted area f priority x ≡ is_blocked permitted area g priority x
    unfolding is_blocked
    same_test x = by_area (area_has area x) refl where
      by_area : (b : Bool) → area_has area x ≡ b
          → (b && blocks permitted priority (f x)) ≡ (b && blocks permitted priority (g x))
      by_area true e = sym (blocks_if permitted priority (f x)) ∙ ap is_some (same x e)
          ∙ blocks_if permitted priority (g x)
      by_area false e = refl

    same_level :
        (x : Point) (level : ℕ) → is_blocked permitted area f priority x ≡ true → f x ≡ Some level
        → g x ≡ Some level
    unfolding is_blocked
    same_level x level blocked is =
        let parts = and_parts (area_has area x) _ blocked in
        at_least_is least level (g x)
        (sym (same x parts.0)
        ∙ at_least_of least level (f x) (blocks_if permitted priority (f x) ∙ parts.1) is)

    first_too :
        (spot : Option Spot) → IsConflict permitted area f priority spot
        → IsConflict permitted area g priority spot
    first_too None none = λ x. sym (same_test x) ∙ none x
    first_too (Some spot) is = record {
      here = sym (same_test spot.point) ∙ is.here;
      level = same_level spot.point spot.priority is.here is.level;
      first = λ x before. sym (same_test x) ∙ is.first x before;
    }

-- what is said of a request to plan, by its conflict
abbrev reported_by : Side → Option Spot → ℤ → PutCall → Option ℕ → Reported
reported_by mine spot moment asked None = Reported.unknown_operator
reported_by mine spot moment asked (Some ceiling) =
    (put_ruling (outcome_under asked moment (states_of (stored_of asked.id mine.own.plans))
    (standing_of mine.terms mine.own.plans ceiling asked) spot) asked mine.own.plans).reported

-- the conflict of what is asked, by an operator's side and what others hold
abbrev conflict_by : Side → (Point → Option ℕ) → PutCall → Option Spot
conflict_by mine others asked =
    conflict mine.terms.permitted asked.area (held_at mine.own.plans others asked.id) asked.priority

reported_is :
    (w : DeskWorld) (o : List ℕ) (moment : ℤ) (asked : PutCall)
    → reported_to w o moment (call.Put asked)
    ≡ reported_by (side w o) (conflict_by (side w o) (held_in w o) asked) moment asked (side w o).own.ceiling
unfolding reported_to verdict enrolled_ruling put_outcome
reported_is w o moment asked = by_ceiling (own w.content o).ceiling where
  by_ceiling : (c : Option ℕ)
      → (ruling_under c w.terms (own w.content o) (held_in w o) moment (call.Put asked)).reported
      ≡ reported_by (side w o) (conflict_by (side w o) (held_in w o) asked) moment asked c
  by_ceiling None = refl
  by_ceiling (Some c) = refl

-- an area has one conflict, which the search finds
abbrev pub HasOneConflict : Type 0
HasOneConflict = (permitted : List ℕ) (area : List Block) (levels : Point → Option ℕ) (priority : ℕ)
    (a b : Option Spot) → IsConflict permitted area levels priority a
    → IsConflict permitted area levels priority b → a ≡ b

abbrev pub FindsConflict : Type 0
FindsConflict = (permitted : List ℕ) (area : List Block) (levels : Point → Option ℕ) (priority : ℕ)
    → IsConflict permitted area levels priority (conflict permitted area levels priority)

-- what an operator is answered at two desks at which the same may block its plan
pub same_plan_reply :
    HasOneConflict → FindsConflict → (v w : DeskWorld) (o : List ℕ) (moment : ℤ) (asked : PutCall)
    {one other : ReplyParts} → OwnAlike o v w → BlockAlike o asked v w
    → reported_to v o moment (call.Put asked) ≡ replied one
    → reported_to w o moment (call.Put asked) ≡ replied other → one ≡ other
unfolding held_at
same_plan_reply one_is found v w o moment asked own_same block_same reported too =
    ap said_of
    (sym reported ∙ reported_is v o moment asked ∙ sides ∙ spots ∙ sym (reported_is w o moment asked) ∙ too) where
      mine : Side
      mine = side w o

      spot : (Point → Option ℕ) → Option Spot
      spot others = conflict_by mine others asked

      sides :
          reported_by (side v o) (conflict_by (side v o) (held_in v o) asked) moment asked (side v o).own.ceiling
          ≡ reported_by mine (spot (held_in v o)) moment asked mine.own.ceiling
      sides = λ i. reported_by (own_same i) (conflict_by (own_same i) (held_in v o) asked) moment asked
          (own_same i).own.ceiling

      least : ℕ
      least = least_blocking w.terms.permitted asked.priority

      levels : (x : Point) → area_has asked.area x ≡ true
          → at_least least (held_at mine.own.plans (held_in v o) asked.id x)
          ≡ at_least least (held_at mine.own.plans (held_in w o) asked.id x)
      levels x inside = at_least_greater least (held_in v o x) _
          ∙ ap (λ a. greater a (at_least least (top_priority
          (filter (λ r. not (has_id asked.id r)) mine.own.plans) x))) (block_same x inside)
          ∙ sym (at_least_greater least (held_in w o x) _)

      same : spot (held_in v o) ≡ spot (held_in w o)
      same = one_is w.terms.permitted asked.area (held_at mine.own.plans (held_in w o) asked.id)
          asked.priority _ _
          (first_too w.terms.permitted asked.area (held_at mine.own.plans (held_in v o) asked.id)
          (held_at mine.own.plans (held_in w o) asked.id) asked.priority levels _
          (found w.terms.permitted asked.area (held_at mine.own.plans (held_in v o) asked.id) asked.priority))
          (found w.terms.permitted asked.area (held_at mine.own.plans (held_in w o) asked.id) asked.priority)

      spots : reported_by mine (spot (held_in v o)) moment asked mine.own.ceiling
          ≡ reported_by mine (spot (held_in w o)) moment asked mine.own.ceiling
      spots = ap (λ s. reported_by mine s moment asked mine.own.ceiling) same
