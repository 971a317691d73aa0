-- A request that is asked again: two steps of its record; and what a recovery comes to.
use Rattle.std.proofs.Common.{◌≡◌, ◌≤◌, List, [], ◌∷◌, ◌++◌, Option, None, Some, Result, Ok, Err, inl, inr, ap, subst, sym, ◌∙◌, append_assoc}
use Rattle.std.specs.Prelude.{⊤, OnOk, option_map}
use Rattle.desk_store.specs.declared.store.PlanStore.{Ghosts}
use Rattle.desk_store.proofs.lemmas.Fault.{was_honest}
use Rattle.desk_run.specs.Calls as call
use Rattle.desk_run.specs.Calls.{FindsOnly}
use Rattle.desk_run.specs.Verdicts.{DeskWorld, Parts, world_of}
use Rattle.desk_run.specs.declared.fault.DeskFault.{DeskFault}
use Rattle.desk_wire.specs.Streams.{Course, course}
use Rattle.desk_cli.specs.Exits.{IsLineBreakdown, enrolment_failure}
use Rattle.desk_cli.specs.declared.failure.ErrorCode.{ErrorCode}
use Rattle.desk_program.specs.Enrolling.{AreEnrolledSoFar, on_terms, with_operators}
use Rattle.desk_replay.specs.Replaying.{StaysSettled}
use Rattle.desk_recording.specs.Recording.{AddsStep, Step}
use Rattle.desk_recording.specs.Recovering.{AddsBoth, RedoesIfPending, Recovers, Undone}

pub both_added : (old mid new : Option (List Step)) (one other : Step) → AddsStep old mid one
    → AddsStep mid new other
    → AddsBoth old new one other
both_added None mid new one other first next = next ∙ ap (option_map (λ steps. steps ++ other ∷ [])) first
both_added (Some steps) mid new one other first next =
    next ∙ ap (option_map (λ steps. steps ++ other ∷ [])) first
    ∙ ap Some (append_assoc steps (one ∷ []) (other ∷ []))

-- all are listed, and then the request is asked, if there is one
pub recovers : {H G : Type 0} (u : Undone) (world : Course DeskWorld) (listed : DeskWorld)
    (steps : Course (Option (List Step))) (done : Result ⊤ ErrorCode) → (H → G)
    → (G → listed ≡ with_operators (on_terms world.before u.terms) u.missing)
    → RedoesIfPending H u.asked (course listed world.after) steps done → Recovers H u world steps done
recovers u world listed steps (Ok d) down are asks =
    record { listed = listed; are = λ h. are (down h); asks = asks }
recovers u world listed steps (Err f) down are asks =
    inl (record { listed = listed; are = λ h. are (down h); asks = asks })

failed_as : (fault : DeskFault) → call.IsBreakdown fault → IsLineBreakdown (enrolment_failure fault)
failed_as fault (inl memory) = inl (ap enrolment_failure memory)
failed_as fault (inr store) = inr (ap enrolment_failure store)

-- one could not be listed
pub unlisted : {H : Type 0} (u : Undone) (world : Course DeskWorld) (steps : Course (Option (List Step)))
    (fault : DeskFault) (f : ErrorCode) → f ≡ enrolment_failure fault → call.IsBreakdown fault
    → steps.after ≡ steps.before
    → AreEnrolledSoFar H u.missing (on_terms world.before u.terms) world.after
    → Recovers H u world steps (Err f)
unlisted u world steps fault f is broken same so_far =
    inr (record {
      broken = subst IsLineBreakdown (sym is)
          (failed_as fault broken);
      kept = same;
      listed = so_far;
    })

-- what was settled before the operators were listed is so once the request is answered
pub still_settled : {S A E : Type 0} (g : Ghosts S) (old mid new : Parts S) (done : Result A E)
    → g.doubt mid.store ≤ g.doubt new.store
    → FindsOnly g old mid (λ found. found ≡ Some (world_of g.content mid).content)
    → OnOk done (StaysSettled g mid new)
    → OnOk done (StaysSettled g old new)
still_settled g old mid new (Ok d) below finds kept =
    λ honest settled. kept honest (λ found may. finds (was_honest below honest) settled found may)
still_settled g old mid new (Err e) below finds kept = tt
