-- Runs: the calls answered so far.
use Rattle.std.proofs.Common.{◌≡◌, ℕ, ℤ, ◌+◌, ◌<◌, List, [], ◌∷◌, ◌++◌, length, take, get_or, map, Option, Some, Result, Ok, Err, IfSome, OnOk, OnErr, refl, sym, subst, ap, ◌∙◌, inl, inr, ◌⊎◌}
use Rattle.std.proofs.lemmas.List.{take_more, map-append, length-append}
use Rattle.desk_store.specs.World.{World}
use Rattle.desk_store.specs.declared.store.PlanStore.{Ghosts}
use Rattle.desk_store.specs.Changes.{IsHonest}
use Rattle.desk_run.specs.Calls.{Leaves, fault_in, ReportsReply, IsFoundIn, reported_in, world_after_calls, as_reported, call_outcome}
use Rattle.desk_run.specs.Verdicts.{DeskWorld, IsSettled, Parts, world_of, reported_to, step}
use Rattle.desk_rules.specs.declared.call.Asked.{Asked}
use Rattle.desk_rules.specs.declared.reply.Reply.{Reply}
use Rattle.desk_run.specs.declared.fault.DeskFault.{DeskFault}
use Rattle.desk_run.specs.declared.fault.DeskFault.TheVariants.{OutOfMemory, Store, UnknownOperator, NoSuchPlan, Ceiling}
use Rattle.desk_run.specs.declared.run.Outcome.{Outcome}

-- the first calls are answered
pub record AreAnswered (w : DeskWorld) (calls : List (ℤ × Asked)) (n : ℕ) (outcomes : List Outcome)
    (now : DeskWorld) : Type 0 where
  pub reported : map as_reported outcomes ≡ reported_in w (take n calls)
  pub left : now ≡ world_after_calls w (take n calls)
  pub count : length outcomes ≡ n

reported_more : (w : DeskWorld) (calls : List (ℤ × Asked)) (call : ℤ × Asked) → reported_in w (calls ++ call ∷ [])
    ≡ reported_in w calls ++ reported_to (world_after_calls w calls) call.1.operator call.0 call.1.call ∷ []
reported_more w [] call = refl
reported_more w (c ∷ calls) call = ap (λ ts. reported_to w c.1.operator c.0 c.1.call ∷ ts)
    (reported_more (step w c.1.operator c.0 c.1.call) calls call)

left_more : (w : DeskWorld) (calls : List (ℤ × Asked)) (call : ℤ × Asked)
    → world_after_calls w (calls ++ call ∷ [])
    ≡ step (world_after_calls w calls) call.1.operator call.0 call.1.call
left_more w [] call = refl
left_more w (c ∷ calls) call = left_more (step w c.1.operator c.0 c.1.call) calls call

-- one more is
pub one_answered : (w now after : DeskWorld) (calls : List (ℤ × Asked)) (n : ℕ) (outcomes : List Outcome)
    (call : ℤ × Asked) (o : Outcome) → AreAnswered w calls n outcomes now → n < length calls → call
    ≡ get_or calls n call → reported_to now call.1.operator call.0 call.1.call ≡ as_reported o → after
    ≡ step now call.1.operator call.0 call.1.call
    → AreAnswered w calls (n + 1) (outcomes ++ o ∷ []) after
one_answered w now after calls n outcomes call o h below is reported left =
    let first = take n calls in
    let more : take (n + 1) calls ≡ first ++ call ∷ [] = take_more calls n call below
    ∙ ap (λ c. first ++ c ∷ []) (sym is) in
    record {
      reported =
          map-append as_reported outcomes (o ∷ []) ∙ ap (λ ts. ts ++ as_reported o ∷ []) h.reported
          ∙ ap (λ t. reported_in w first ++ t ∷ []) (sym reported
          ∙ ap (λ v. reported_to v call.1.operator call.0 call.1.call) h.left)
          ∙ sym (reported_more w first call) ∙ ap (reported_in w) (sym more);
      left = left ∙ ap (λ v. step v call.1.operator call.0 call.1.call) h.left
          ∙ sym (left_more w first call)
          ∙ ap (world_after_calls w) (sym more);
      count = length-append outcomes (o ∷ []) ∙ ap (λ k. k + 1) h.count;
    }

-- what was answered was reported so, and its step made
pub answered_is : (w after : DeskWorld) (moment : ℤ) (asked : Asked) (r : Result Reply DeskFault)
    (o : Outcome)
    → ReportsReply w moment asked r → OnOk r (after ≡ step w asked.operator moment asked.call)
    → OnErr r (after ≡ w)
    → call_outcome r ≡ Ok o → (reported_to w asked.operator moment asked.call ≡ as_reported o)
    × (after ≡ step w asked.operator moment asked.call)
answered_is w after moment asked (Ok reply) o reported ok err is = (reported ∙ outcome_reported is, ok) where
  outcome_reported : {p : Outcome} → ◌≡◌ {A = Result Outcome DeskFault} (Ok p) (Ok o) → as_reported p
      ≡ as_reported o
  outcome_reported e = cc
answered_is w after moment asked (Err UnknownOperator) o reported ok err is =
    (reported.reported ∙ cc, err ∙ sym reported.left)
answered_is w after moment asked (Err NoSuchPlan) o reported ok err is =
    (reported.reported ∙ cc, err ∙ sym reported.left)
answered_is w after moment asked (Err OutOfMemory) o reported ok err is = cc
answered_is w after moment asked (Err Store) o reported ok err is = cc
answered_is w after moment asked (Err Ceiling) o reported ok err is = cc

-- a call that has an outcome leaves a settled desk settled
pub settled_next : {S : Type 0} (g : Ghosts S) (d e : Parts S) (moment : ℤ) (asked : Asked)
    (r : Result Reply DeskFault) → IsHonest (g.doubt e.store)
    → Leaves g d e (step (world_of g.content d) asked.operator moment asked.call) (fault_in r)
    → world_of g.content e ≡ step (world_of g.content d) asked.operator moment asked.call
    → IsSettled g.content g.may_leave d → IsSettled g.content g.may_leave e
settled_next g d e moment asked (Ok reply) honest leaves left settled = leaves.kept honest refl settled
settled_next g d e moment asked (Err fault) honest leaves left settled = λ found may.
    either (leaves.crash honest found may) where
      either : {found : Option World} → g.may_leave d.store found
          ⊎ (found ≡ Some (step (world_of g.content d) asked.operator moment asked.call).content)
          → found ≡ Some (g.content e.store)
      either (inl before) = settled _ before ∙ sym (ap (λ w. Some w.content) leaves.same)
      either (inr next) = next ∙ sym (ap (λ w. Some w.content) left)

-- what stays at a fault
pub same_on_err : {V : Type 0} (P : Type 0) (r : Result V DeskFault) → IfSome (fault_in r) (λ _. P)
    → OnErr r P
same_on_err P (Ok v) same = tt
same_on_err P (Err fault) same = same

-- the fault at which a run stopped is that of the call
pub stopped_by : (r : Result Reply DeskFault) (fault : DeskFault) → call_outcome r ≡ Err fault
    → fault_in r ≡ Some fault
stopped_by (Ok reply) fault is = cc
stopped_by (Err UnknownOperator) fault is = cc
stopped_by (Err NoSuchPlan) fault is = cc
stopped_by (Err OutOfMemory) fault is = cc
stopped_by (Err Store) fault is = cc
stopped_by (Err Ceiling) fault is = cc

-- the world that one more call leaves
left_next : (w now : DeskWorld) (calls : List (ℤ × Asked)) (n : ℕ) (outcomes : List Outcome)
    (call : ℤ × Asked) → AreAnswered w calls n outcomes now → n < length calls → call ≡ get_or calls n call
    → step now call.1.operator call.0 call.1.call ≡ world_after_calls w (take (n + 1) calls)
left_next w now calls n outcomes call h below is =
    ap (λ v. step v call.1.operator call.0 call.1.call) h.left ∙ sym (left_more w (take n calls) call)
    ∙ sym (ap (world_after_calls w) (take_more calls n call below
    ∙ ap (λ c. take n calls ++ c ∷ []) (sym is)))

-- what is found after a call that stopped a run, or after the last
pub found_next : (w now : DeskWorld) (calls : List (ℤ × Asked)) (n : ℕ) (outcomes : List Outcome)
    (call : ℤ × Asked) (before : Option World → Type 0) (found : Option World)
    → AreAnswered w calls n outcomes now → n < length calls → call ≡ get_or calls n call
    → (before found → found ≡ Some now.content)
    → before found ⊎ (found ≡ Some (step now call.1.operator call.0 call.1.call).content)
    → IsFoundIn w calls (length outcomes) found
found_next w now calls n outcomes call before found h below is settled (inl old) =
    subst (λ k. IsFoundIn w calls k found) (sym h.count)
    (inl (settled old ∙ ap (λ v. Some v.content) h.left))
found_next w now calls n outcomes call before found h below is settled (inr next) =
    subst (λ k. IsFoundIn w calls k found) (sym h.count)
    (inr (next ∙ ap (λ v. Some v.content) (left_next w now calls n outcomes call h below is)))
