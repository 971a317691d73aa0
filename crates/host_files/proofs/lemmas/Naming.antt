-- What steps come to, one after the other.
use Rattle.std.proofs.Common.{◌≡◌, ℕ, Bool, true, false, List, [], ◌∷◌, ◌++◌, Option, None, Some, OnErr, append-nil, append_assoc, ap, inl, inr, subst, sym, ◌∙◌}
use Rattle.std.proofs.lemmas.List.Elements.{All-append, All-cons, All-nil, All-weaker}
use Rattle.std.specs.Prelude.{All, Result, Ok, Err, is_ok}
use Rattle.desk_wire.specs.Streams.{course}
use Rattle.host_files.specs.Naming.{ChangesOwn, Cleared, ClearsOwn, Failed, Follows, Free, GivesNoName, GivesUp, HasFailedStep, IsNotFree, IsUnnamed, LeavesNames, LeavesOthers, Ordered, Removed, Renamed, Step, Synced, Takes, TakesAll, Tried, ScratchCopied, clearing, free_steps, log_of, named_steps, part_of}

-- steps after steps
pub follows_both : (old mid new : Option (List Step)) (xs ys : List Step) → Follows (course old mid) xs
    → Follows (course mid new) ys → Follows (course old new) (xs ++ ys)
follows_both None mid new xs ys first next = tt
follows_both (Some a) None new xs ys first next = absurd first
follows_both (Some a) (Some b) None xs ys first next = absurd next
follows_both (Some a) (Some b) (Some c) xs ys first next =
    next ∙ ap (λ v. v ++ ys) first ∙ append_assoc a xs ys

follows_none : (now : Option (List Step)) → Follows (course now now) []
follows_none None = tt
follows_none (Some xs) = sym (append-nil xs)

-- ---- steps of which each is so

pub takes_none : (Is : Step → Type 0) (now : Option (List Step)) → TakesAll Is (course now now)
takes_none Is now = record { more = []; made = follows_none now; each = All-nil Is }

pub takes_both : {Is : Step → Type 0} {old mid new : Option (List Step)} → TakesAll Is (course old mid)
    → TakesAll Is (course mid new) → TakesAll Is (course old new)
takes_both {Is} {old} {mid} {new} first next = record {
  more = first.more ++ next.more;
  made = follows_both old mid new first.more next.more first.made next.made;
  each = All-append Is first.more next.more first.each next.each;
}

one : (Is : Step → Type 0) (step : Step) → Is step → All Is (step ∷ [])
one Is step is = All-cons Is step [] is (All-nil Is)

pub takes_one : (Is : Step → Type 0) (old new : Option (List Step)) (done : Bool) (step : Step)
    → Takes (course old new) done step → Is step → Is Failed → TakesAll Is (course old new)
takes_one Is old new true step made is fails =
    record { more = step ∷ []; made = made; each = one Is step is }
takes_one Is old new false step made is fails =
    record { more = Failed ∷ []; made = made; each = one Is Failed fails }

-- no step is made
pub leaves_none : (now : Option (List Step)) → LeavesNames (course now now)
leaves_none now = record { more = []; made = follows_none now; unnamed = All-nil GivesNoName }

pub leaves_all : (to : List ℕ) (now : Option (List Step)) → LeavesOthers to (course now now)
leaves_all to now = inl (takes_none (ClearsOwn to) now)

-- ---- a step that fails

-- a step that gives no name, and one that fails
pub fails_after : (old mid new : Option (List Step)) (path : List ℕ)
    → Follows (course old mid) (Removed path ∷ []) → Follows (course mid new) (Failed ∷ [])
    → LeavesNames (course old new)
fails_after old mid new path removed failed = record {
  more = Removed path ∷ Failed ∷ [];
  made = follows_both old mid new (Removed path ∷ []) (Failed ∷ []) removed failed;
  unnamed = All-cons GivesNoName (Removed path) (Failed ∷ []) tt (one GivesNoName Failed tt);
}

failed_now : (old new : Option (List Step)) → Follows (course old new) (Failed ∷ [])
    → HasFailedStep (course old new)
failed_now old new failed = record { before = []; after = []; made = failed }

pub failed_if : (old new : Option (List Step)) (step : Step) (b : Bool) → Takes (course old new) b step
    → b ≡ false → HasFailedStep (course old new)
failed_if old new step b made is = failed_now old new (subst (λ c. Takes (course old new) c step) is made)

pub made_if : (old new : Option (List Step)) (step : Step) (b : Bool) → Takes (course old new) b step
    → b ≡ true → Follows (course old new) (step ∷ [])
made_if old new step b made is = subst (λ c. Takes (course old new) c step) is made

pub failed_after : (old mid new : Option (List Step)) (xs : List Step) → Follows (course old mid) xs
    → HasFailedStep (course mid new) → HasFailedStep (course old new)
failed_after old mid new xs first failed = record {
  before = xs ++ failed.before;
  after = failed.after;
  made = subst (Follows (course old new)) (sym (append_assoc xs failed.before (Failed ∷ failed.after)))
      (follows_both old mid new xs (failed.before ++ Failed ∷ failed.after) first failed.made);
}

-- ---- what the last of some steps comes to

pub on_err : {A B P : Type 0} (r : Result A B) → P → OnErr r P
on_err (Ok it) is = tt
on_err (Err e) is = is

pub on_failed : {A B P : Type 0} (old new : Option (List Step)) (step : Step) (r : Result A B)
    → Takes (course old new) (is_ok r) step → (Follows (course old new) (Failed ∷ []) → P) → OnErr r P
on_failed old new step (Ok it) made is = tt
on_failed old new step (Err e) made is = is made

-- ---- the names of a new file

pub not_free_now : (to : List ℕ) (old new : Option (List Step)) → Follows (course old new) (Failed ∷ [])
    → IsNotFree to (course old new)
not_free_now to old new made = record { before = []; made = made; looks = All-nil (ClearsOwn to) }

-- a step was made that changes nothing but what a copy left, and a later one failed
pub not_free_after : (to : List ℕ) (old mid new : Option (List Step)) (step : Step)
    → Follows (course old mid) (step ∷ []) → ClearsOwn to step → IsNotFree to (course mid new)
    → IsNotFree to (course old new)
not_free_after to old mid new step made own next = record {
  before = step ∷ next.before;
  made = follows_both old mid new (step ∷ []) (next.before ++ Failed ∷ []) made next.made;
  looks = All-cons (ClearsOwn to) step next.before own next.looks;
}

-- what a copy left under its names is gone
pub clears_own : (to part log : List ℕ) → part ≡ part_of to → log ≡ log_of (part_of to)
    → ClearsOwn to (Cleared part log)
clears_own to part log is_part is_log = (is_part, is_log)

module _ {to : List ℕ} {old new : Option (List Step)} (it : IsNotFree to (course old new)) where
  pub not_free_failed : HasFailedStep (course old new)
  not_free_failed = record { before = it.before; after = []; made = it.made }

  pub not_free_names : LeavesNames (course old new)
  not_free_names = record {
    more = it.before ++ Failed ∷ [];
    made = it.made;
    unnamed = All-append GivesNoName it.before (Failed ∷ [])
        (All-weaker (ClearsOwn to) GivesNoName names_none it.before it.looks) (one GivesNoName Failed tt);
  } where
    names_none : (step : Step) → ClearsOwn to step → GivesNoName step
    names_none (Free path) is = tt
    names_none (Cleared part log) is = tt
    names_none (Tried path) is = tt
    names_none (ScratchCopied source scratch summed) is = is
    names_none (Removed path) is = tt
    names_none (Renamed from into) is = is
    names_none (Synced path) is = tt
    names_none (Ordered path) is = tt
    names_none Failed is = tt

  pub not_free_others : LeavesOthers to (course old new)
  not_free_others = inl (record {
    more = it.before ++ Failed ∷ [];
    made = it.made;
    each = All-append (ClearsOwn to) it.before (Failed ∷ []) it.looks (one (ClearsOwn to) Failed tt);
  })

-- ---- once nothing was found at its names

free_no_name : (to : List ℕ) → All GivesNoName (free_steps to)
free_no_name to =
    let six = one GivesNoName (Tried (part_of to)) tt in
    let five = All-cons GivesNoName (Free (log_of (part_of to))) (Tried (part_of to) ∷ []) tt six in
    let four =
    All-cons GivesNoName (Free (part_of to)) (Free (log_of (part_of to)) ∷ Tried (part_of to) ∷ [])
    tt five in
    let three = All-cons GivesNoName (clearing to)
    (Free (part_of to) ∷ Free (log_of (part_of to)) ∷ Tried (part_of to) ∷ []) tt four in
    let two = All-cons GivesNoName (Free (log_of to))
    (clearing to ∷ Free (part_of to) ∷ Free (log_of (part_of to)) ∷ Tried (part_of to) ∷ []) tt three in
    All-cons GivesNoName (Free to)
    (Free (log_of to) ∷ clearing to ∷ Free (part_of to) ∷ Free (log_of (part_of to))
    ∷ Tried (part_of to) ∷ [])
    tt two

-- what was given up changed nothing but the new file, and named none
module _ {to : List ℕ} {old new : Option (List Step)} (gone : GivesUp to (course old new)) where
  pub gone_changes : TakesAll (ChangesOwn to) (course old new)
  gone_changes = record {
    more = gone.more;
    made = gone.made;
    each = All-weaker (λ step. ChangesOwn to step × GivesNoName step) (ChangesOwn to) (λ step is. is.0)
        gone.more gone.each;
  }

  pub gone_unnamed : IsUnnamed [] to (course old new)
  gone_unnamed = inl (record {
    more = gone.more;
    made = gone.made;
    unnamed = All-weaker (λ step. ChangesOwn to step × GivesNoName step) GivesNoName (λ step is. is.1)
        gone.more gone.each;
  })

module _ (old mid new : Option (List Step)) (to : List ℕ) (free : Follows (course old mid) (free_steps to))
  where
    pub found_own : TakesAll (ChangesOwn to) (course mid new) → LeavesOthers to (course old new)
    found_own own = inr (record {
      rest = own.more;
      made = follows_both old mid new (free_steps to) own.more free own.made;
      own = own.each;
    })

    -- what a naming that failed comes to
    pub unnamed_after : IsUnnamed [] to (course mid new) → IsUnnamed (free_steps to) to (course old new)
    unnamed_after failed = elim failed [
      | inl none ↦ inl (record {
        more = free_steps to ++ none.more;
        made = follows_both old mid new (free_steps to) none.more free none.made;
        unnamed = All-append GivesNoName (free_steps to) none.more (free_no_name to) none.unnamed;
      })
      | inr half ↦ inr (follows_both old mid new (free_steps to) (named_steps to Failed) free half)
    ]
