-- What may be found of a desk's content, over several connections and enrolments.
use Rattle.std.proofs.Common.{◌≡◌, ◌≤◌, ◌<◌, ◌⊎◌, inl, inr, ◌+◌, ℕ, ℤ, List, [], ◌∷◌, ◌++◌, ◌∙◌, Option, Some, None, Result, Ok, Err, length, map, take, refl, ap, sym, subst, arith}
use Rattle.std.specs.Prelude.{⊤, IfErr, OnOk}
use Rattle.std.specs.Result.{IsErrAnd}
use Rattle.std.proofs.lemmas.List.{length-append, map-append}
use Rattle.std.proofs.lemmas.List.Elements.{All-append, All-cons, All-nil}
use Rattle.desk_store.specs.declared.store.PlanStore.{Ghosts}
use Rattle.desk_store.specs.Changes.{IsHonest}
use Rattle.desk_store.specs.World.{World, LeavesNoMore, LeavesOldOr, LeavesOnly}
use Rattle.desk_run.specs.Verdicts.{DeskWorld, Parts, enrolled, world_of}
use Rattle.io_ends.specs.declared.playing.PlayEnd.{PlayEnd}
use Rattle.desk_wire.specs.Given.{reported_in_play, IsCertain, IsFoundNow, IsKept, IsLeftBy}
use Rattle.desk_wire.specs.Streams.{Passage, course, HasServed, IsTaken}
use Rattle.desk_wire.specs.Playing.{HasPlayed}
use Rattle.desk_cli.specs.declared.failure.ErrorCode.{ErrorCode}
use Rattle.desk_cli.specs.declared.line.Enrolment.{Enrolment}
use Rattle.desk_cli.specs.declared.line.PlayArgs.{PlayArgs}
use Rattle.desk_cli.specs.declared.line.ServeArgs.{ServeArgs}
use Rattle.desk_cli.specs.Exits.{Ending, EndsWith, failure_after, failure_at}
use Rattle.desk_program.specs.Enrolling.{AreEnrolled, HasEnrolled, on_terms, with_operators, done_unless, IsOpen}
use Rattle.desk_program.specs.Keeping.{AreKept, AreKeptSoFar, FindsEnrolments, FindsNewEnrolments, IsFoundServed, IsLeftByOne, IsPlayKept, IsPortKept}
use Rattle.desk_program.specs.Serving.{AreNoted, AreServed, BringsEnrolments, AddsNothingNew, EndsAfter, EndsAtEnrolments, Exchange, Grows, IsAskedToListen, IsPortError, IsLastEnrolments, IsUnsent, Traffic, error_in, first_failure, news_of, outcome_of, passage_of}
use Rattle.desk_program.proofs.ServedLemmas.{all_then, all_unsent, both_more, both_news, both_noted, both_served, none, none_last, none_more, not_ok, one_closed, one_ends, served_then, stays, stops}

-- ---- enrolments

-- what is found if one more enrolment failed
kept_so_far : (H : Type 0) (es : List Enrolment) (w v after : DeskWorld) (e : Enrolment) (count : ℕ)
    (before now : Option World → Type 0) → count < length es → (H → after ≡ v)
    → (H → v ≡ with_operators w (take count es))
    → enrolled v e.operator e.ceiling ≡ with_operators w (take (count + 1) es)
    → ((found : Option World) → before found → found ≡ Some v.content)
    → LeavesOldOr (enrolled v e.operator e.ceiling).content before now → H
    → (found : Option World) → now found → AreKeptSoFar H es w after found
kept_so_far H es w v after e count before now few same listed next only crash p found may = record {
  listed = record { count = count; few = few; left = λ h. same h ∙ listed h };
  finds = by (crash found may);
}
  where
    by : before found ⊎ (found ≡ Some (enrolled v e.operator e.ceiling).content)
        → (found ≡ Some (with_operators w (take count es)).content)
        ⊎ (found ≡ Some (with_operators w (take (count + 1) es)).content)
    by (inl is) = inl (only found is ∙ ap (λ x. Some x.content) (listed p))
    by (inr is) = inr (is ∙ ap (λ x. Some x.content) next)

-- so it is if all that is known of what was found before is that nothing was changed
pub found_so_far : (es : List Enrolment) (w v after : DeskWorld) (e : Enrolment) (count : ℕ)
    (before mid now : Option World → Type 0) → count < length es → after ≡ v
    → v ≡ with_operators w (take count es)
    → enrolled v e.operator e.ceiling ≡ with_operators w (take (count + 1) es)
    → LeavesOnly v.content mid ⊎ ((v ≡ w) × LeavesNoMore before mid)
    → LeavesOldOr (enrolled v e.operator e.ceiling).content mid now
    → (found : Option World) → now found → AreKeptSoFar ⊤ es w after found ⊎ ((after ≡ w) × before found)
found_so_far es w v after e count before mid now few same listed next (inl only) crash found may =
    inl (kept_so_far ⊤ es w v after e count mid now few (λ _. same) (λ _. listed) next only crash tt found
    may)
found_so_far es w v after e count before mid now few same listed next (inr p) crash found may =
    by (crash found may)
  where
    by : mid found ⊎ (found ≡ Some (enrolled v e.operator e.ceiling).content)
        → AreKeptSoFar ⊤ es w after found ⊎ ((after ≡ w) × before found)
    by (inl was) = inr (same ∙ p.0, p.1 found was)
    by (inr is) = inl (record {
      listed = record { count = count; few = few; left = λ _. same ∙ listed };
      finds = inr (is ∙ ap (λ x. Some x.content) next);
    })

pub finds_err : {A B : Type 0} (done : Result A B) (P : B → Type 0) (es : List Enrolment)
    (w after : DeskWorld) (before now : Option World → Type 0) → IsErrAnd done P
    → ((found : Option World) → now found → AreKeptSoFar ⊤ es w after found ⊎ ((after ≡ w) × before found))
    → FindsNewEnrolments done es w after before now
finds_err (Ok d) P es w after before now is finds = absurd is
finds_err (Err e) P es w after before now is finds = finds

pub finds_ok : (w after : DeskWorld) (before now : Option World → Type 0)
    → LeavesOnly after.content now ⊎ ((after ≡ w) × LeavesNoMore before now)
    → (found : Option World) → now found → (found ≡ Some after.content) ⊎ ((after ≡ w) × before found)
finds_ok w after before now (inl only) found may = inl (only found may)
finds_ok w after before now (inr p) found may = inr (p.0, p.1 found may)

-- if the desk was settled, what is found is what enrolments left, or what one more would leave
pub settled_news : {A B : Type 0} (H : Type 0) (done : Result A B) (es : List Enrolment)
    (w after : DeskWorld) (before now : Option World → Type 0) → HasEnrolled H done es w after
    → FindsNewEnrolments done es w after before now → LeavesOnly w.content before
    → (found : Option World) → now found → FindsEnrolments H done es w after found
settled_news H (Ok d) es w after before now listed finds only found may = by (finds found may)
  where
    by : (found ≡ Some after.content) ⊎ ((after ≡ w) × before found) → found ≡ Some after.content
    by (inl is) = is
    by (inr p) = only found p.1 ∙ ap (λ x. Some x.content) (sym p.0)
settled_news H (Err e) es w after before now listed finds only found may = by (finds found may)
  where
    by : AreKeptSoFar ⊤ es w after found ⊎ ((after ≡ w) × before found) → AreKeptSoFar H es w after found
    by (inl kept) = record {
      listed = record {
        count = kept.listed.count;
        few = kept.listed.few;
        left = λ h. kept.listed.left tt;
      };
      finds = kept.finds;
    }
    by (inr p) = record {
      listed = record { count = 0; few = omega (arith, listed.few); left = λ h. p.0 };
      finds = inl (only found p.1);
    }

-- ---- connections

some_left : (xs ys : List Exchange) (w : DeskWorld) (found : Option World) → IsLeftByOne w found xs
    → IsLeftByOne w found (xs ++ ys)
some_left [] ys w found h = absurd h
some_left (x ∷ xs) ys w found (inl h) = inl h
some_left (x ∷ xs) ys w found (inr h) = inr (some_left xs ys w found h)

some_right : (xs ys : List Exchange) (w : DeskWorld) (found : Option World) → IsLeftByOne w found ys
    → IsLeftByOne w found (xs ++ ys)
some_right [] ys w found h = h
some_right (x ∷ xs) ys w found h = inr (some_right xs ys w found h)

both_found : (xs ys : List Exchange) (last : Option (List Enrolment)) (u v w : DeskWorld)
    (before mid : Type 0) (found : Option World) → (mid → IsFoundServed xs None v found ⊎ ((v ≡ u) × before))
    → IsFoundServed ys last w found ⊎ ((w ≡ v) × mid)
    → IsFoundServed (xs ++ ys) last w found ⊎ ((w ≡ u) × before)
both_found xs ys last u v w before mid found first (inl (inl is)) = inl (inl is)
both_found xs ys last u v w before mid found first (inl (inr (inl some))) =
    inl (inr (inl (some_right xs ys w found some)))
both_found xs ys last u v w before mid found first (inl (inr (inr newly_enrolled))) = inl (inr (inr newly_enrolled))
both_found xs ys last u v w before mid found first (inr p) = by (first p.1)
  where
    by : IsFoundServed xs None v found ⊎ ((v ≡ u) × before)
        → IsFoundServed (xs ++ ys) last w found ⊎ ((w ≡ u) × before)
    by (inl (inl is)) = inl (inl (is ∙ ap (λ x. Some x.content) (sym p.0)))
    by (inl (inr (inl some))) =
        inl (inr (inl (some_left xs ys w found (subst (λ x. IsLeftByOne x found xs) (sym p.0) some))))
    by (inl (inr (inr none))) = absurd none
    by (inr q) = inr (p.0 ∙ q.0, q.1)

-- so many connections, and then others
module _ {A B C : Type 0} where
  pub both_kept : {S : Type 0} (g : Ghosts S) (d : A) (then : Result B ErrorCode) (whole : Result C ErrorCode)
      (m k n : ℕ) (a b c : Traffic) (begun between left : Parts S)
      → (IsHonest (g.doubt left.store) → IsHonest (g.doubt between.store))
      → AreKept {A = A} g (Ok d) m (course a b) begun between
      → AreKept g then k (course b c) between left → m + k ≤ n
      → ((xs ys : List Exchange) (one last : Option (List Enrolment)) → EndsAfter {A = A} (Ok d) m xs one
      → EndsAfter then k ys last → EndsAfter whole n (xs ++ ys) last)
      → ((last : Option (List Enrolment)) (x y : DeskWorld)
      → IsLastEnrolments (IsHonest (g.doubt left.store)) last then x y
      → IsLastEnrolments (IsHonest (g.doubt left.store)) last whole x y)
      → ((P : Type 0) → OnOk then P → OnOk whole P) → AreKept g whole n (course a c) begun left
  both_kept g d then whole m k n a b c begun between left by h t few ends lasts well =
      let H = IsHonest (g.doubt between.store) in
      let K = IsHonest (g.doubt left.store) in
      let u = world_of g.content begun in
      let v = world_of g.content between in
      let w = world_of g.content left in
      let xs = h.taken.exchanges in
      let ys = t.taken.exchanges in
      let goes = none_last H h.taken.last d h.taken.between v h.taken.untaken in
      record {
        taken = record {
          exchanges = xs ++ ys;
          last = t.taken.last;
          between = t.taken.between;
          few = omega (arith, length-append xs ys, h.taken.few, t.taken.few, few);
          listened = t.taken.listened ∙ h.taken.listened;
          taken = subst (λ z. Grows a.taken c.taken z) (sym (map-append (λ x. x.arrival) xs ys))
              (both_more a.taken b.taken c.taken (map (λ x. x.arrival) xs) (map (λ x. x.arrival) ys)
              h.taken.taken t.taken.taken);
          closed = subst (λ z. Grows a.closed c.closed z) (sym (map-append (λ x. x.parting) xs ys))
              (both_more a.closed b.closed c.closed (map (λ x. x.parting) xs) (map (λ x. x.parting) ys)
              h.taken.closed t.taken.closed);
          fresh = All-append (λ x. IsUnsent a x.out) xs ys h.taken.fresh
              (all_unsent a b (map (λ x. x.parting) xs) h.taken.closed ys t.taken.fresh);
          reported = All-append (λ x. x.parting.outcome ≡ outcome_of x.served) xs ys h.taken.reported t.taken.reported;
          newly_enrolled = subst (λ z. Grows a.newly_enrolled c.newly_enrolled z) (both_news xs ys t.taken.last)
              (both_more a.newly_enrolled b.newly_enrolled c.newly_enrolled (news_of xs None) (news_of ys t.taken.last)
              (subst (λ l. Grows a.newly_enrolled b.newly_enrolled (news_of xs l)) goes.0 h.taken.newly_enrolled) t.taken.newly_enrolled);
          recorded = both_noted xs ys t.taken.last a.recorded b.recorded c.recorded h.taken.ends.1
              (subst (λ l. AreNoted a.recorded xs l b.recorded) goes.0 h.taken.recorded) t.taken.recorded;
          stays_open = λ was. well (IsOpen c.recorded) (t.taken.stays_open (h.taken.stays_open was));
          served = both_served K xs ys u v t.taken.between
              (all_then H K by xs u v (subst (λ z. AreServed H xs u z) (sym goes.1) h.taken.served))
              t.taken.served;
          untaken = lasts t.taken.last t.taken.between w t.taken.untaken;
          ends = ends xs ys h.taken.last t.taken.last h.taken.ends t.taken.ends;
        };
        finds = λ p found may. both_found xs ys t.taken.last u v w (g.may_leave begun.store found)
            (g.may_leave between.store found) found (λ was.
            subst (λ l. IsFoundServed xs l v found ⊎ ((v ≡ u) × g.may_leave begun.store found)) goes.0
            (h.finds (by p) found was)) (t.finds p found may);
      }

-- nothing is taken
pub none_kept : {A S : Type 0} (g : Ghosts S) (done : Result A ErrorCode) (count : ℕ) (old new : Traffic)
    (desk : Parts S) → AddsNothingNew old new → (IsOpen old.recorded → OnOk done (IsOpen new.recorded))
    → EndsAfter done count [] None → AreKept g done count (course old new) desk desk
none_kept g done count old new desk denies still ends = record {
  taken = none (IsHonest (g.doubt desk.store)) done count old new (world_of g.content desk)
      (world_of g.content desk) denies still refl ends;
  finds = λ p found may. inr (refl, may);
}

-- news are brought, and no connection is taken then
last_news : {A : Type 0} (H : Type 0) (done : Result A ErrorCode) (f : ErrorCode) (newly_enrolled : List Enrolment)
    (w after : DeskWorld) → IsErrAnd done (λ e. e ≡ f) → EndsAtEnrolments H f newly_enrolled w after
    → IsLastEnrolments H (Some newly_enrolled) done w after
last_news H (Ok d) f newly_enrolled w after is ends = absurd is
last_news H (Err e) f newly_enrolled w after is ends = subst (λ v. EndsAtEnrolments H v newly_enrolled w after) (sym is) ends

ends_news : {A : Type 0} (done : Result A ErrorCode) (f : ErrorCode) (newly_enrolled : List Enrolment)
    → IsErrAnd done (λ e. e ≡ f) → EndsAfter done 1 [] (Some newly_enrolled)
ends_news (Ok d) f newly_enrolled is = absurd is
ends_news (Err e) f newly_enrolled is = tt

pub news_kept : {A S : Type 0} (g : Ghosts S) (done : Result A ErrorCode) (f : ErrorCode)
    (newly_enrolled : List Enrolment) (old mid new : Traffic) (begun left : Parts S)
    → IsErrAnd done (λ e. e ≡ f) → BringsEnrolments old mid newly_enrolled → AddsNothingNew mid new
    → EndsAtEnrolments (IsHonest (g.doubt left.store)) f newly_enrolled (world_of g.content begun) (world_of g.content left)
    → (IsHonest (g.doubt left.store) → (found : Option World) → g.may_leave left.store found
    → IsFoundServed [] (Some newly_enrolled) (world_of g.content left) found
    ⊎ ((world_of g.content left ≡ world_of g.content begun) × g.may_leave begun.store found))
    → AreKept g done 1 (course old new) begun left
news_kept g done f newly_enrolled old mid new begun left is brings denies ends finds = record {
  taken = record {
    exchanges = [];
    last = Some newly_enrolled;
    between = world_of g.content begun;
    few = omega arith;
    listened = denies.0 ∙ brings.3;
    taken = none_more old.taken new.taken (denies.1 ∙ brings.1);
    closed = none_more old.closed new.closed (denies.2 ∙ brings.2);
    fresh = All-nil (λ x. IsUnsent old x.out);
    reported = All-nil (λ x. x.parting.outcome ≡ outcome_of x.served);
    newly_enrolled = subst (λ v. Grows old.newly_enrolled v (newly_enrolled ∷ [])) (sym denies.3) brings.0;
    recorded = (mid.recorded, brings.4, denies.4);
    stays_open = λ was. not_ok done f (IsOpen new.recorded) is;
    served = refl;
    untaken = last_news (IsHonest (g.doubt left.store)) done f newly_enrolled (world_of g.content begun)
        (world_of g.content left) is ends;
    ends = ends_news done f newly_enrolled is;
  };
  finds = finds;
}

-- what is found then: an operator could not be listed, or all are
module _ {A B : Type 0} (done : Result A B) (newly_enrolled : List Enrolment) (w after : DeskWorld)
    (before now : Option World → Type 0) (finds : FindsNewEnrolments done newly_enrolled w after before now)
    (found : Option World) where
  pub unlisted_found : (fault : B) → done ≡ Err fault → now found
      → IsFoundServed [] (Some newly_enrolled) after found ⊎ ((after ≡ w) × before found)
  unlisted_found fault was may =
      by (subst (λ r. FindsNewEnrolments r newly_enrolled w after before now) was finds found may)
    where
      by : AreKeptSoFar ⊤ newly_enrolled w after found ⊎ ((after ≡ w) × before found)
          → IsFoundServed [] (Some newly_enrolled) after found ⊎ ((after ≡ w) × before found)
      by (inl kept) = inl (inr (inr (w, kept)))
      by (inr same) = inr same

  pub listed_found : (d : A) → done ≡ Ok d → now found
      → (found ≡ Some after.content) ⊎ ((after ≡ w) × before found)
  listed_found d was may = subst (λ r. FindsNewEnrolments r newly_enrolled w after before now) was finds found may

  pub untaken_found : (d : A) → done ≡ Ok d → now found
      → IsFoundServed [] (Some newly_enrolled) after found ⊎ ((after ≡ w) × before found)
  untaken_found d was may = by (listed_found d was may)
    where
      by : (found ≡ Some after.content) ⊎ ((after ≡ w) × before found)
          → IsFoundServed [] (Some newly_enrolled) after found ⊎ ((after ≡ w) × before found)
      by (inl is) = inl (inl is)
      by (inr same) = inr same

-- one connection is taken
one_found : (x : Exchange) (w after : DeskWorld) (before : Type 0) (found : Option World)
    → HasServed ⊤ x.served (passage_of x) w x.arrival.moment after
    → IsFoundNow x.served (λ z. before) (IsTaken x.arrival.bytes x.parting.unread) w x.arrival.moment after
    found
    → IsFoundServed (x ∷ []) None after found ⊎ ((after ≡ w) × before)
one_found x w after before found served (inl is) = inl (inl is)
one_found x w after before found served (inr p) = by p.1
  where
    by : before ⊎ ((¬ IsCertain x.served)
        × IsLeftBy (IsTaken x.arrival.bytes x.parting.unread) w x.arrival.moment found)
        → IsFoundServed (x ∷ []) None after found ⊎ ((after ≡ w) × before)
    by (inl h) = inr (p.0, h)
    by (inr h) = inl (inr (inl (inl (
      h.0,
      subst (λ v. HasServed ⊤ x.served (passage_of x) v
          x.arrival.moment after)
          (sym p.0) served,
      subst (λ v. IsLeftBy (IsTaken x.arrival.bytes x.parting.unread) v x.arrival.moment found) (sym p.0) h.1,
    ))))

-- what is found after news and one connection
after_news : (x : Exchange) (w listed after : DeskWorld) (before mid : Type 0) (found : Option World)
    → (mid → (found ≡ Some listed.content) ⊎ ((listed ≡ w) × before))
    → IsFoundServed (x ∷ []) None after found ⊎ ((after ≡ listed) × mid)
    → IsFoundServed (x ∷ []) None after found ⊎ ((after ≡ w) × before)
after_news x w listed after before mid found newly_enrolled (inl is) = inl is
after_news x w listed after before mid found newly_enrolled (inr p) = by (newly_enrolled p.1)
  where
    by : (found ≡ Some listed.content) ⊎ ((listed ≡ w) × before)
        → IsFoundServed (x ∷ []) None after found ⊎ ((after ≡ w) × before)
    by (inl is) = inl (inl (is ∙ ap (λ v. Some v.content) (sym p.0)))
    by (inr q) = inr (p.0 ∙ q.0, q.1)

pub one_kept : {A S : Type 0} (g : Ghosts S) (done : Result A ErrorCode) (x : Exchange)
    (closed : Result ⊤ ErrorCode) (old new : Traffic) (begun listed left : Parts S)
    → new.listened ≡ old.listened → Grows old.taken new.taken (x.arrival ∷ [])
    → Grows old.closed new.closed (x.parting ∷ []) → IsUnsent old x.out
    → x.parting.outcome ≡ outcome_of x.served → Grows old.newly_enrolled new.newly_enrolled (x.newly_enrolled ∷ [])
    → AreNoted old.recorded (x ∷ []) None new.recorded
    → AreEnrolled (IsHonest (g.doubt left.store)) x.newly_enrolled (world_of g.content begun)
    (world_of g.content listed)
    → HasServed (IsHonest (g.doubt left.store)) x.served (passage_of x) (world_of g.content listed)
    x.arrival.moment (world_of g.content left)
    → error_in done ≡ first_failure (failure_at x.served) (error_in closed)
    → OnOk closed (IsOpen new.recorded) → IfErr closed IsPortError
    → (IsHonest (g.doubt left.store) → (found : Option World) → g.may_leave listed.store found
    → (found ≡ Some (world_of g.content listed).content)
    ⊎ ((world_of g.content listed ≡ world_of g.content begun) × g.may_leave begun.store found))
    → (IsHonest (g.doubt left.store) → (found : Option World) → g.may_leave left.store found
    → IsFoundNow x.served (g.may_leave listed.store) (IsTaken x.arrival.bytes x.parting.unread)
    (world_of g.content listed) x.arrival.moment (world_of g.content left) found)
    → AreKept g done 1 (course old new) begun left
one_kept g done x closed old new begun listed left listened takes closes fresh reported newly_enrolled noted lists served
    is still denied first finds =
    let H = IsHonest (g.doubt left.store) in
    let w = world_of g.content begun in
    let then = world_of g.content listed in
    let after = world_of g.content left in
    record {
      taken = record {
        exchanges = x ∷ [];
        last = None;
        between = after;
        few = omega arith;
        listened = listened;
        taken = takes;
        closed = closes;
        fresh = All-cons (λ z. IsUnsent old z.out) x [] fresh (All-nil (λ z. IsUnsent old z.out));
        reported = All-cons (λ z. z.parting.outcome ≡ outcome_of z.served) x [] reported
            (All-nil (λ z. z.parting.outcome ≡ outcome_of z.served));
        newly_enrolled = newly_enrolled;
        recorded = noted;
        stays_open = λ was. one_closed (IsOpen new.recorded) done (failure_at x.served) closed is still;
        served = (then, after, lists, served, refl);
        untaken = refl;
        ends = one_ends done x closed denied is;
      };
      finds = λ p found may. after_news x w then after (g.may_leave begun.store found)
          (g.may_leave listed.store found) found (first p found)
          (one_found x then after (g.may_leave listed.store found) found
          (served_then H ⊤ (λ k. p) x.served (passage_of x) then x.arrival.moment after served)
          (finds p found may));
    }

-- what is found, if what was there before was settled
pub found_served : (xs : List Exchange) (last : Option (List Enrolment)) (w after : DeskWorld)
    (before : Type 0) (found : Option World) → (before → found ≡ Some w.content)
    → IsFoundServed xs last after found ⊎ ((after ≡ w) × before) → IsFoundServed xs last after found
found_served xs last w after before found only (inl is) = is
found_served xs last w after before found only (inr p) =
    inl (only p.1 ∙ ap (λ x. Some x.content) (sym p.0))

module _ {A S : Type 0} (g : Ghosts S) (done : Result A ErrorCode) (serve : ServeArgs) (w : DeskWorld) where
  pub port_kept : (begun left : Parts S) → IsHonest (g.doubt left.store)
      → (IsHonest (g.doubt left.store)
      → world_of g.content begun ≡ with_operators (on_terms w serve.desk.terms) serve.desk.enrolments.items)
      → ((found : Option World) → g.may_leave begun.store found
      → found ≡ Some (world_of g.content begun).content)
      → (old mid new : Traffic) → IsAskedToListen old mid serve.port
      → AreKept g done serve.connections (course mid new) begun left
      → (found : Option World) → g.may_leave left.store found
      → IsPortKept (IsHonest (g.doubt left.store)) done serve (course old new) w (world_of g.content left)
      found
  port_kept begun left p listed only old mid new listens h found may =
      inl (
        record {
          begun = world_of g.content begun;
          listed = listed;
          listening = mid;
          listens = listens;
          taken = h.taken;
        },
        found_served h.taken.exchanges h.taken.last (world_of g.content begun) (world_of g.content left)
            (g.may_leave begun.store found) found (only found) (h.finds p found may),
      )

  -- the operators are listed, and no connection is taken
  pub unserved_kept : (desk : Parts S) → IsHonest (g.doubt desk.store)
      → (IsHonest (g.doubt desk.store)
      → world_of g.content desk ≡ with_operators (on_terms w serve.desk.terms) serve.desk.enrolments.items)
      → ((found : Option World) → g.may_leave desk.store found
      → found ≡ Some (world_of g.content desk).content)
      → (f : ErrorCode) (old new : Traffic) → IsErrAnd done (λ e. e ≡ f) → IsPortError f
      → IsAskedToListen old new serve.port → (found : Option World) → g.may_leave desk.store found
      → IsPortKept (IsHonest (g.doubt desk.store)) done serve (course old new) w (world_of g.content desk)
      found
  unserved_kept desk p listed only f old new is denied listens =
      port_kept desk desk p listed only old new new listens
      (none_kept g done serve.connections new new desk (stays new)
      (λ was. not_ok done f (IsOpen new.recorded) is) (stops done f is serve.connections [] None denied))

-- ---- a run over the input

module _ (H : Type 0) (play : PlayArgs) (end : Ending) (ended : PlayEnd) (answered : ℕ)
    (q : Passage) (w begun after : DeskWorld) (ends : EndsWith (done_unless (failure_after ended)) end)
    (listed : H → begun ≡ with_operators (on_terms w play.desk.terms) play.desk.enrolments.items)
    (played : HasPlayed H ended answered q begun play.moment.second after) where
  pub run_kept : H → (found : Option World)
      → IsKept ended (reported_in_play ended answered) q begun play.moment.second after found
      → IsPlayKept H play end q w after found
  run_kept p found kept =
      inl (
        record {
          ended = ended;
          answered = answered;
          ends = ends;
          played = λ h.
              subst (λ v. HasPlayed H ended answered q v play.moment.second after) (listed h) played;
        },
        subst (λ v. IsKept ended (reported_in_play ended answered) q v play.moment.second after found) (listed p)
            kept,
      )
