-- What may be found after a call that reads, and after one that changes, with the proofs.
use Rattle.std.proofs.Common.{◌≡◌, ◌≤◌, ◌⊎◌, ℕ, inl, inr, ap, sym, ◌∙◌, Option, Some, None, IfSome, arith}
use Rattle.desk_store.specs.World.{World, LeavesNoMore, LeavesOldOr, LeavesOnly}
use Rattle.desk_store.specs.declared.store.PlanStore.{Ghosts}
use Rattle.desk_store.specs.Changes.{IsHonest, HasRisen, Remembers}
use Rattle.desk_store.proofs.lemmas.Fault.{was_honest}
use Rattle.desk_run.specs.Calls.{Leaves}
use Rattle.desk_run.specs.Verdicts.{DeskWorld, IsSettledOrSame, Parts, world_of}
use Rattle.desk_run.specs.declared.fault.DeskFault.{DeskFault}
use Rattle.desk_run.specs.declared.fault.DeskFault.TheVariants.{Store}

-- after a reading and a change: what might have been found before both, or the changed content
pub old_or_changed : {old mid new : Option World → Type 0} {v w : World} → LeavesNoMore old mid
    → LeavesOldOr v mid new → v ≡ w → LeavesOldOr w old new
old_or_changed {old} {mid} {new} {v} {w} read change same found may = by (change found may) where
  by : mid found ⊎ (found ≡ Some v) → old found ⊎ (found ≡ Some w)
  by (inl before) = inl (read found before)
  by (inr is) = inr (is ∙ ap Some same)

-- after a reading: what was settled is
pub still_settled : {old new : Option World → Type 0} {v w : World} → LeavesNoMore old new
    → LeavesOnly v old → w ≡ v → LeavesOnly w new
still_settled read only same found may = only found (read found may) ∙ ap Some (sym same)

module _ {S : Type 0} (content : S → World) (may_leave : S → Option World → Type 0) where
  -- after a reading, and then a call
  pub settled_after : (old mid new : Parts S) → LeavesNoMore (may_leave old.store) (may_leave mid.store)
      → world_of content mid ≡ world_of content old → IsSettledOrSame content may_leave mid new
      → IsSettledOrSame content may_leave old new
  settled_after old mid new read same (inl settled) = inl settled
  settled_after old mid new read same (inr p) = inr (p.0 ∙ same, λ found may. read found (p.1 found may))

-- a count that was lower before
pub risen_since : (first old new : ℕ) → first ≤ old → HasRisen old new → HasRisen first new
risen_since first old new below risen = λ small. omega (arith, below, risen small)

module _ {S : Type 0} (g : Ghosts S) where
  -- a reading changes nothing, whatever it would answer
  pub leaves_read : (old new : Parts S) (after : DeskWorld) (fault : Option DeskFault)
      → world_of g.content new ≡ world_of g.content old
      → (IsHonest (g.doubt new.store) → LeavesNoMore (g.may_leave old.store) (g.may_leave new.store))
      → Remembers g.doubt g.faults g.is_shielded old.store new.store
      → (fault ≡ Some Store → HasRisen (g.faults old.store) (g.faults new.store))
      → Leaves g old new after fault
  leaves_read old new after fault same reads remembered cause = record {
    same = if_some fault;
    cause = cause;
    crash = λ honest found may. inl (reads honest found may);
    kept = λ honest none settled. still_settled (reads honest) settled (ap (λ v. v.content) same);
    settled = λ honest none. inr (same, reads honest);
    remembered = remembered;
  }
    where
      if_some : (fault : Option DeskFault)
          → IfSome fault (λ _. world_of g.content new ≡ world_of g.content old)
      if_some None = tt
      if_some (Some e) = same

  -- a call, after a reading
  pub leaves_after : (old mid new : Parts S) (then_left after : DeskWorld) (fault : Option DeskFault)
      → world_of g.content mid ≡ world_of g.content old
      → (IsHonest (g.doubt mid.store) → LeavesNoMore (g.may_leave old.store) (g.may_leave mid.store))
      → Remembers g.doubt g.faults g.is_shielded old.store mid.store
      → Leaves g mid new then_left fault
      → (IsHonest (g.doubt mid.store) → then_left.content ≡ after.content)
      → Leaves g old new after fault
  leaves_after old mid new then_left after fault same reads remembered leaves is = record {
    same = both fault leaves.same;
    cause = λ why. risen_since _ _ _ remembered.counted (leaves.cause why);
    crash = λ honest. old_or_changed (reads (before honest)) (leaves.crash honest) (is (before honest));
    kept = λ honest none settled. leaves.kept honest none
        (still_settled (reads (before honest)) settled (ap (λ v. v.content) same));
    settled = λ honest none. settled_after g.content g.may_leave old mid new (reads (before honest)) same
        (leaves.settled honest none);
    remembered = record {
      doubt = omega (arith, remembered.doubt, leaves.remembered.doubt);
      counted = omega (arith, remembered.counted, leaves.remembered.counted);
      shield = λ s. leaves.remembered.shield (remembered.shield s);
    };
  }
    where
      before : IsHonest (g.doubt new.store) → IsHonest (g.doubt mid.store)
      before = was_honest leaves.remembered.doubt

      both : (why : Option DeskFault) → IfSome why (λ _. world_of g.content new ≡ world_of g.content mid)
          → IfSome why (λ _. world_of g.content new ≡ world_of g.content old)
      both None h = tt
      both (Some e) h = h ∙ same
