-- Why the rows of a query are not all handed over.
use Rattle.std.proofs.Common.{◌≡◌, ◌≤◌, ◌∙◌, inl, inr, ℕ, List, [], ◌∷◌, ◌++◌, length-append, append_assoc, arith, Ok, Err, Result, IfErr, IsTrue, sym, subst}
use Rattle.std.specs.Prelude.{IsSome}
use Rattle.sqlite.specs.Order.{Row}
use Rattle.sqlite_sql.specs.Program.{Ends}
use Rattle.sqlite_schema.specs.declared.command.Command.{Command}
use Rattle.sqlite_schema.specs.declared.command.Command.TheVariants.{Select}
use Rattle.sqlite.specs.declared.error.Error.{Error}
use Rattle.sqlite.specs.Effect.{Database}
use Rattle.sqlite.specs.Given.{HasGiven}
use Rattle.sqlite.specs.State.{State, IsUnchanged, Survives, HasCleanDisk, Shown, FailsToQuery}
use Rattle.sqlite.specs.Store.{Ghosts}
use Rattle.sqlite.specs.Held.{Held, state}
use Rattle.sqlite.proofs.Callers.{EndsIn, begins_shown, given_begin, unchanged_then}
use Rattle.desk_sql.specs.Statements.{IsSimple, IsSureGiven, IsRefusal}
use Rattle.desk_sql.specs.Queries.{FailsToHand, FailsToHandAll, IsTakenInPart, Refusing}
use Rattle.desk_sql.proofs.lemmas.Read.{sure_plain}
use Rattle.desk_sql.proofs.AskLemmas.{IsCause, KnownSure, failed, sure_at}
use Rattle.desk_sql.proofs.TakingLemmas.{shown_from, unchanged_itself}

-- the cause since an earlier moment
since : (old mid new : State) (e : Error) → old.faults ≤ mid.faults → mid.step_limit ≡ old.step_limit
    → IsCause mid new e → IsCause old new e
since old mid new e faults limit (inl memory) = inl memory
since old mid new e faults limit (inr (inl disk)) = inr (inl (omega (arith, faults, disk)))
since old mid new e faults limit (inr (inr steps)) = inr (inr (steps.0, subst IsSome limit steps.1))

ends_simple : (command : Command) (db : Database) (params : Row) → IsSimple command
    → EndsIn command db params
ends_simple (Select plan names) db params simple =
    subst (λ ls. Ends db.trees params [] ls) (sym simple) tt
ends_simple _ db params h = absurd h

module _ {S : Type 0} (g : Ghosts S) (sql : List ℕ) (params : Row) (old : Held S)
    (sure : KnownSure g old sql params) where
  -- rows that were given begin an answer
  begins_answer : (first new : Held S) (rows : List Row) → IsUnchanged (state g old) (state g first)
      → IsUnchanged (state g first) (state g new) → IsSureGiven (state g old).now.schema sql params
      → HasGiven g sql params new rows
      → (left : List Row) × Shown sql params (state g old) (state g new) (rows ++ left)
  begins_answer first new rows same last known given =
      let all = unchanged_then (state g old) (state g first) (state g new) same last in
      let here : IsSureGiven (state g new).now.schema sql params =
      subst (λ (d : Database). IsSureGiven d.schema sql params) (sym all.0.now_is) known in
      let it = begins_shown sql params (state g new) (state g new) rows
      (given_begin g sql params new rows given) (unchanged_itself (state g new) all.0.is_open)
      (λ c db statement source. ends_simple c.command db _
      (sure_at (state g new).now.schema sql params _ c statement.is here.means).simple) in (
        it.0,
        shown_from sql params (state g old) (state g new) (state g new) (rows ++ it.0)
            (sure_plain (state g old).now.schema sql params known) all it.1,
      )

  by_cause : (now new : Held S) (e : Error) → IsUnchanged (state g old) (state g now)
      → HasCleanDisk (state g old) → (state g old).faults ≤ (state g now).faults
      → now.step_limit ≡ old.step_limit → IsTrue (state g new).is_open
      → FailsToQuery sql params (state g now) (state g new) e → IsRefusal g old new e
  by_cause now new e same start faults limit live fails =
      since (state g old) (state g now) (state g new) e faults limit
      (failed sql params (state g now) (state g new) e
      (λ opened. subst (λ (d : Database). IsSureGiven d.schema sql params) (sym same.0.now_is)
      (sure start same.0.was_open)) live fails)

  module _ (mid : Held S) (text : List ℕ) (is : text ≡ sql)
      (same : IsUnchanged (state g old) (state g mid))
      (survives : Survives (state g old) (state g mid) (λ _. ⊥)) (start : HasCleanDisk (state g old)) where
    pub refused_begun : (new : Held S) (e : Error)
        → FailsToQuery text params (state g mid) (state g new) e → IsTrue (state g new).is_open
        → IsRefusal g old new e
    refused_begun new e fails live =
        by_cause mid new e same start survives.counts survives.limit live
        (subst (λ t. FailsToQuery t params (state g mid) (state g new) e) is fails)

    -- a query that was prepared before
    pub refused_given : {V : Type 0} (new : Held S) (r : Result V Error)
        → IfErr r (FailsToQuery text params (state g mid) (state g new)) → IsTrue (state g new).is_open
        → IfErr r (IsRefusal g old new)
    refused_given new (Ok v) fails live = tt
    refused_given new (Err e) fails live = refused_begun new e fails live

    module _ (first new : Held S) (begun : HasGiven g text params first [])
        (last : IsUnchanged (state g mid) (state g first))
        (counts : (state g mid).faults ≤ (state g first).faults)
        (limit : first.step_limit ≡ mid.step_limit)
        (refuses : Refusing) (live : IsTrue (state g new).is_open) where
      abbrev Answer : List Row → Type 0
      Answer rows = Shown sql params (state g old) (state g new) rows

      so_far : IsUnchanged (state g old) (state g first)
      so_far = unchanged_then (state g old) (state g mid) (state g first) same last

      known_old : IsSureGiven (state g old).now.schema sql params
      known_old = sure start same.0.was_open

      whole : (rows : List Row) → IsUnchanged (state g first) (state g new)
          → HasGiven g text params new rows → (left : List Row) × Answer (rows ++ left)
      whole rows after given = begins_answer first new rows so_far after known_old
          (subst (λ t. HasGiven g t params new rows) is given)

      cut_by : (e : Error) → FailsToHand g first new text params refuses e
          → IsTakenInPart g old new Answer refuses e
      cut_by e (inl later) =
          let all = unchanged_then (state g old) (state g first) (state g later.now) so_far later.same in
          inl (by_cause later.now new e all start
          (omega (arith, survives.counts, counts, later.faults))
          (later.limit ∙ limit ∙ survives.limit) live
          (subst (λ t. FailsToQuery t params (state g later.now) (state g new) e) is later.fails))
      cut_by e (inr (after, inl (taken, row, given, refused))) =
          let (left, shown) = whole (taken ++ row ∷ []) after given in
          inr (inl (taken, row, left, subst Answer (append_assoc taken (row ∷ []) left) shown, refused))
      cut_by e (inr (after, inr (big, rows, given, many))) =
          let (left, shown) = whole rows after given in
          inr (inr (big, rows ++ left, shown, omega (arith, many, length-append rows left)))

      pub cut_short : (had : List Row → Type 0) → had [] → (r : Result (Unit {0}) Error)
          → IfErr r (FailsToHandAll g first new had refuses)
          → IfErr r (IsTakenInPart g old new Answer refuses)
      cut_short had fresh (Ok u) fails = tt
      cut_short had fresh (Err e) fails = cut_by e (fails text params [] begun fresh)

-- the same of what the rows of an answer are
pub cut_short_of : {S : Type 0} (g : Ghosts S) (old new : Held S) (IsAnswer IsOther : List Row → Type 0)
    (refuses : Refusing) → ((rows : List Row) → IsAnswer rows → IsOther rows)
    → (r : Result (Unit {0}) Error) → IfErr r (IsTakenInPart g old new IsAnswer refuses)
    → IfErr r (IsTakenInPart g old new IsOther refuses)
cut_short_of g old new IsAnswer IsOther refuses so (Ok u) h = tt
cut_short_of g old new IsAnswer IsOther refuses so (Err e) (inl h) = inl h
cut_short_of g old new IsAnswer IsOther refuses so (Err e) (inr (inl (taken, row, left, are, refused))) =
    inr (inl (taken, row, left, so _ are, refused))
cut_short_of g old new IsAnswer IsOther refuses so (Err e) (inr (inr (big, rows, are, many))) =
    inr (inr (big, rows, so rows are, many))
