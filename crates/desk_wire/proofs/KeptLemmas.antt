-- What may be found of requests of a stream.
use Rattle.std.proofs.Common.{◌≡◌, ◌≢◌, ◌-◌, Bool, IfSome, ℕ, ℤ, ◌⊎◌, inl, inr, refl, sym, ap, subst, ◌∙◌, arith, List, [], ◌∷◌, ◌++◌, Option, Some, None, Result, Ok, Err}
use Rattle.std.proofs.Common.{option_map, false, is_some, length, map, take, get_or, ◌<◌}
use Rattle.std.proofs.lemmas.List.{map-append}
use Rattle.std.proofs.lemmas.List.Elements.{recursion_from_All}
use Rattle.std.specs.Result.{IsErrAnd}
use Rattle.desk_store.specs.World.{World, LeavesNoMore, LeavesOldOr, LeavesOnly}
use Rattle.request_parser.specs.Messages.{MessageParts, message_in, Reading, or_met}
use Rattle.request_parser.specs.Requests.{asked, asked_by}
use Rattle.desk_rules.specs.declared.call.Asked.{Asked}
use Rattle.desk_store.specs.declared.store.PlanStore.{Ghosts}
use Rattle.desk_store.specs.Changes.{IsHonest}
use Rattle.desk_run.specs.Calls.{Leaves}
use Rattle.desk_run.specs.Verdicts.{DeskWorld, Parts, world_of}
use Rattle.desk_wire.specs.Bytes.{desk_fault, Sent, answers_to, world_left, IsServerError, status_or_500, world_after}
use Rattle.io_ends.specs.declared.playing.PlayEnd.{PlayEnd}
use Rattle.io_ends.specs.declared.playing.PlayEnd.TheVariants.{End, Unframed, Broken, Limit, Fault}
use Rattle.io_ends.specs.declared.serving.Served.{Served}
use Rattle.io_ends.specs.declared.serving.Served.TheVariants.{Answered}
use Rattle.io_ends.specs.declared.serving.ServeFault.{ServeFault}
use Rattle.io_ends.specs.declared.serving.ServeFault.TheVariants.{Read, Write, CutShort, OutOfMemory}
use Rattle.io_ends.specs.declared.writing.PartialWrite.{PartialWrite}
use Rattle.desk_wire.specs.declared.response.ServerError.{ServerError}
use Rattle.desk_wire.specs.Given.{IsNextIn, answered, reported_in_play, FindsBy, IsCertain, IsFoundInRequests, IsFoundInStream, IsFoundNow, IsKept, IsLeftBy, IsOldOrNext, IsServedKept}
use Rattle.desk_wire.specs.Streams.{Passage, passed, requests_in, IsTaken}
use Rattle.desk_wire.specs.Playing.{ArePlayed, EndsRunBy, IsWhole, at_moment}
use Rattle.desk_wire.proofs.AllLemmas.{HaveAnswers, left_more, take_map}
use Rattle.desk_wire.proofs.BytesLemmas.{left_read}
use Rattle.desk_wire.proofs.StreamGivenLemmas.{given_broken, given_first, given_off, given_unframed, is_next}

-- the request that was taken, and what it leaves
pub left_served : (before now : Option World → Type 0) (old new : Option (List ℕ)) (moment : ℤ)
    (w : DeskWorld) (reading : Reading MessageParts) (request : List ℕ)
    → IsTaken old new request → reading ≡ message_in request
    → LeavesOldOr (world_after w moment (or_met reading asked_by)).content before now
    → (found : Option World) → now found → before found ⊎ IsLeftBy (IsTaken old new) w moment found
left_served before now old new moment w reading request taken read crash found may =
    by (crash found may)
  where
    by : before found ⊎ (found ≡ Some (world_after w moment (or_met reading asked_by)).content)
        → before found ⊎ IsLeftBy (IsTaken old new) w moment found
    by (inl is) = inl is
    by (inr is) =
        inr (request, taken, is ∙ ap (λ v. Some v.content) (left_read w moment request reading read))

-- an answer with another status than 500 is no failure of the desk
pub no_failure : (w : DeskWorld) (moment : ℤ) (reading : Reading Asked) (why : Option ServerError)
    (status : ℕ) → status ≡ status_or_500 why w moment reading → status ≢ 500 → why ≡ None
no_failure w moment reading None status is other = refl
no_failure w moment reading (Some why) status is other = absurd (other is)

-- want of memory, and an answer that was broken off, leave it uncertain
pub uncertain_memory : (r : Result Served ServeFault) → IsErrAnd r (λ e. e ≡ OutOfMemory) → IsCertain r → ⊥
uncertain_memory (Ok s) is certain = absurd is
uncertain_memory (Err e) is certain = subst (λ f. IsCertain (Err f)) is certain

pub uncertain_write : (r : Result Served ServeFault) (fault : PartialWrite) → IsErrAnd r (λ e. e ≡ Write fault)
    → IsCertain r → ⊥
uncertain_write (Ok s) fault is certain = absurd is
uncertain_write (Err e) fault is certain = subst (λ z. IsCertain (Err z)) is certain

-- what is found if the content stays, and if the answer was or was not that the desk failed
module _ (r : Result Served ServeFault) (before now : Option World → Type 0) (IsNext : List ℕ → Type 0)
    (moment : ℤ) (w after : DeskWorld) where
  abbrev LeavesNext : Type 0
  LeavesNext = (found : Option World) → now found → before found ⊎ IsLeftBy IsNext w moment found

  abbrev Finds : Type 0
  Finds = (found : Option World) → now found → IsFoundNow r before IsNext w moment after found

  pub found_failed : after ≡ w → ¬ IsCertain r → LeavesNext → Finds
  found_failed same unsure crash found may = by (crash found may)
    where
      by : before found ⊎ IsLeftBy IsNext w moment found → IsFoundNow r before IsNext w moment after found
      by (inl is) = inr (same, inl is)
      by (inr next) = inr (same, inr (unsure, next))

  pub found_answered : (error : Option ServerError) (answer : List ℕ)
      → (error ≡ None → LeavesOnly after.content now ⊎ ((after ≡ w) × LeavesNoMore before now))
      → IfSome error (λ why. IsServerError why w answer after) → IfSome error (λ why. ¬ IsCertain r)
      → LeavesNext → Finds
  found_answered None answer settled failed unsure crash found may = by (settled refl)
    where
      by : LeavesOnly after.content now ⊎ ((after ≡ w) × LeavesNoMore before now)
          → IsFoundNow r before IsNext w moment after found
      by (inl only) = inl (only found may)
      by (inr p) = inr (p.0, inl (p.1 found may))
  found_answered (Some why) answer settled failed unsure crash found may =
      found_failed failed.left unsure crash found may

pub unsure_500 : (s : Served) (status : ℕ) (framed : Bool) (w : DeskWorld) (moment : ℤ)
    (reading : Reading Asked) (why : Option ServerError) → s ≡ Answered status framed
    → status ≡ status_or_500 why w moment reading → IfSome why (λ error. ¬ IsCertain (Ok s))
unsure_500 s status framed w moment reading None is said = tt
unsure_500 s status framed w moment reading (Some why) is said =
    λ certain. subst (λ z. IsCertain (Ok z)) is certain said

pub if_some_all : (why : Option ServerError) {P : Type 0} → P → IfSome why (λ error. P)
if_some_all None p = tt
if_some_all (Some error) p = p

-- what a start may find after one request, if the desk failed, and if the answer says whether it did
module _ {S : Type 0} (g : Ghosts S) (old new : Parts S) (r : Result Served ServeFault) (q : Passage)
    (moment : ℤ) where
  abbrev MayBeNext : Type 0
  MayBeNext = IsHonest (g.doubt new.store) → (found : Option World) → g.may_leave new.store found
      → g.may_leave old.store found
      ⊎ IsLeftBy (IsTaken q.reads.before q.reads.after) (world_of g.content old) moment found

  pub kept_failed : world_of g.content new ≡ world_of g.content old → ¬ IsCertain r → MayBeNext
      → IsServedKept g old new r q moment
  kept_failed same unsure next = record {
    crash = next;
    kept = λ honest certain. absurd (unsure certain);
    found = λ honest. found_failed r (g.may_leave old.store) (g.may_leave new.store)
        (IsTaken q.reads.before q.reads.after) moment (world_of g.content old) (world_of g.content new) same
        unsure (next honest);
  }

  pub kept_answered : (after : DeskWorld) (error : Option ServerError) (answer : List ℕ)
      → Leaves g old new after (option_map desk_fault error)
      → IfSome error (λ why. IsServerError why (world_of g.content old) answer (world_of g.content new))
      → (IsHonest (g.doubt new.store) → IfSome error (λ why. ¬ IsCertain r))
      → (IsHonest (g.doubt new.store) → IsCertain r → error ≡ None) → MayBeNext
      → IsServedKept g old new r q moment
  kept_answered after error answer leaves failed unsure sure next = record {
    crash = next;
    kept = λ honest certain. leaves.kept honest (ap (option_map desk_fault) (sure honest certain));
    found = λ honest. found_answered r (g.may_leave old.store) (g.may_leave new.store)
        (IsTaken q.reads.before q.reads.after) moment (world_of g.content old) (world_of g.content new) error
        answer (λ none. leaves.settled honest (ap (option_map desk_fault) none)) failed (unsure honest)
        (next honest);
  }

-- what is found once what was settled may have one request more
pub old_or_next : (before : Option World → Type 0) (w : DeskWorld) (IsNext : List ℕ → Type 0) (moment : ℤ)
    (found : Option World) → (before found → found ≡ Some w.content)
    → before found ⊎ IsLeftBy IsNext w moment found → IsOldOrNext IsNext w moment found
old_or_next before w IsNext moment found only (inl is) = inl (only is)
old_or_next before w IsNext moment found only (inr next) = inr next

-- the place of the next request
next_in : (H : Type 0) (count : ℕ) (old input new out output : Option (List ℕ)) (w : DeskWorld) (moment : ℤ)
    (world : DeskWorld) (found : Option World) → H
    → (f : ArePlayed H count (passed old input out output) w moment world)
    → IsOldOrNext (IsTaken input new) world moment found
    → IsOldOrNext (IsNextIn old count f.requests) (world_left w (at_moment moment f.requests)) moment found
next_in H count old input new out output w moment world found p f (inl is) =
    inl (is ∙ ap (λ v. Some v.content) (f.left p))
next_in H count old input new out output w moment world found p f (inr next) =
    inr (
      next.0,
      is_next old input new f.requests next.0 count (recursion_from_All IsWhole f.requests f.whole) f.count_is
          f.taken next.1,
      next.2 ∙ ap (λ v. Some (world_after v moment (asked next.0)).content) (f.left p),
    )

-- what is found at the end of a run: what is left, if that is certain
abbrev pub FindsLast : PlayEnd → (List ℕ → Type 0) → DeskWorld → ℤ → DeskWorld → Option World → Type 0
FindsLast End IsNext world moment after found = found ≡ Some after.content
FindsLast Unframed IsNext world moment after found = found ≡ Some after.content
FindsLast Limit IsNext world moment after found = found ≡ Some after.content
FindsLast Broken IsNext world moment after found = IsOldOrNext IsNext world moment found
FindsLast (Fault Read) IsNext world moment after found = found ≡ Some after.content
FindsLast (Fault CutShort) IsNext world moment after found = found ≡ Some after.content
FindsLast (Fault OutOfMemory) IsNext world moment after found = IsOldOrNext IsNext world moment found
FindsLast (Fault (Write fault)) IsNext world moment after found = IsOldOrNext IsNext world moment found

-- by what stopped the last request
pub fault_last : (before : Option World → Type 0) (world after : DeskWorld) (IsNext : List ℕ → Type 0)
    (moment : ℤ) (found : Option World) (fault : ServeFault)
    → (IsCertain (Err fault) → found ≡ Some after.content) → (before found → found ≡ Some world.content)
    → before found ⊎ IsLeftBy IsNext world moment found
    → FindsLast (Fault fault) IsNext world moment after found
fault_last before world after IsNext moment found Read certain only left = certain tt
fault_last before world after IsNext moment found CutShort certain only left = certain tt
fault_last before world after IsNext moment found OutOfMemory certain only left =
    old_or_next before world IsNext moment found only left
fault_last before world after IsNext moment found (Write fault) certain only left =
    old_or_next before world IsNext moment found only left

module _ (H : Type 0) (old out : Option (List ℕ)) (w : DeskWorld) (moment : ℤ) (p : H) where
  abbrev Kept : PlayEnd → ℕ → Option (List ℕ) → Option (List ℕ) → DeskWorld → Option World → Type 0
  Kept ended n new now after found = IsKept ended n (passed old new out now) w moment after found

  pub kept_by : (ended : PlayEnd) (count answered : ℕ) (input new output now : Option (List ℕ))
      (world after : DeskWorld) (found : Option World)
      → ArePlayed H count (passed old input out output) w moment world
      → EndsRunBy H ended count answered (passed input new output now) world moment after
      → FindsLast ended (IsTaken input new) world moment after found
      → Kept ended (reported_in_play ended answered) new now after found
  kept_by End count answered input new output now world after found f last is =
      let given = given_first H old out w moment p End count input new output now world after last.2 refl f
      (λ e. e) in
      subst (λ n. Kept End n new now after found) (sym last.0) (record {
        requests = f.requests;
        answers = answers_to w (at_moment moment f.requests);
        given = given;
        finds = is ∙ ap (λ v. Some v.content) given.left;
      })
  kept_by Limit count answered input new output now world after found f last is =
      let given = given_first H old out w moment p Limit count input new output now world after last.2 refl f
      (λ e. e) in
      subst (λ n. Kept Limit n new now after found) (sym last.0) (record {
        requests = f.requests;
        answers = answers_to w (at_moment moment f.requests);
        given = given;
        finds = is ∙ ap (λ v. Some v.content) given.left;
      })
  kept_by Unframed count answered input new output now world after found f last is =
      let given = given_unframed H old out w moment p count input new output now world after f last.1 in
      subst (λ n. Kept Unframed n new now after found) (sym last.0) (record {
        requests = f.requests ++ last.1.served.request ∷ [];
        answers = answers_to w (at_moment moment (f.requests ++ last.1.served.request ∷ []));
        given = given;
        finds = is ∙ ap (λ v. Some v.content) given.left;
      })
  kept_by Broken count answered input new output now world after found f last is =
      let less : answered - 1 ≡ count = omega (arith, last.0) in
      subst (λ n. Kept Broken n new now after found) (sym less) (record {
        requests = f.requests;
        answers = answers_to w (at_moment moment f.requests);
        given = given_broken H old out w moment p count input new output now world after f last.1;
        finds = next_in H count old input new out output w moment world found p f is;
      })
  kept_by (Fault (Write stopped)) count answered input new output now world after found f last is =
      subst (λ n. Kept (Fault (Write stopped)) n new now after found) (sym last.0) (record {
        requests = f.requests;
        answers = answers_to w (at_moment moment f.requests);
        given = given_off H old out w moment p count stopped input new output now world after f last.1;
        finds = next_in H count old input new out output w moment world found p f is;
      })
  kept_by (Fault OutOfMemory) count answered input new output now world after found f last is =
      subst (λ n. Kept (Fault OutOfMemory) n new now after found) (sym last.0) (record {
        requests = f.requests;
        answers = answers_to w (at_moment moment f.requests);
        given = given_first H old out w moment p (Fault OutOfMemory) count input new output now world after
            last.1 refl f (λ e. e);
        finds = next_in H count old input new out output w moment world found p f is;
      })
  kept_by (Fault Read) count answered input new output now world after found f last is =
      let given = given_first H old out w moment p (Fault Read) count input new output now world after last.1
      refl f (λ e. e) in
      subst (λ n. Kept (Fault Read) n new now after found) (sym last.0) (record {
        requests = f.requests;
        answers = answers_to w (at_moment moment f.requests);
        given = given;
        finds = is ∙ ap (λ v. Some v.content) given.left;
      })
  kept_by (Fault CutShort) count answered input new output now world after found f last is =
      let given = given_first H old out w moment p (Fault CutShort) count input new output now world after
      last.1.1 refl f (λ e. e) in
      subst (λ n. Kept (Fault CutShort) n new now after found) (sym last.0) (record {
        requests = f.requests;
        answers = answers_to w (at_moment moment f.requests);
        given = given;
        finds = is ∙ ap (λ v. Some v.content) given.left;
      })

-- what is found, by the number of requests that a known stream has answered
pub found_after : (ended : PlayEnd) (n : ℕ) (q : Passage) (stream : List ℕ) (w : DeskWorld) (moment : ℤ)
    (after : DeskWorld) (found : Option World) → q.reads.before ≡ Some stream
    → IsKept ended n q w moment after found → IsFoundInStream w moment stream n found
found_after ended n q stream w moment after found is_known k =
    by ended (subst (λ old. FindsBy ended (IsNextIn old n k.requests)
    (world_left w (at_moment moment k.requests)) moment found) is_known k.finds)
  where
    begins : k.requests ≡ requests_in n stream
    begins = subst (λ old. IfSome old (λ stream. k.requests ≡ requests_in n stream)) is_known k.given.first

    first : found ≡ Some (world_left w (at_moment moment k.requests)).content
        → IsFoundInStream w moment stream n found
    first is = inl (is ∙ ap (λ rs. Some (world_left w (at_moment moment rs)).content) begins)

    either : IsOldOrNext (IsNextIn (Some stream) n k.requests) (world_left w (at_moment moment k.requests))
        moment found → IsFoundInStream w moment stream n found
    either (inl is) = first is
    either (inr next) =
        inr (next.2
        ∙ ap (λ v. Some v.content) (sym (left_more w (at_moment moment k.requests) (moment, next.0))
        ∙ ap (world_left w) (sym (map-append (λ r. (moment, r)) k.requests (next.0 ∷ []))))
        ∙ ap (λ rs. Some (world_left w (at_moment moment rs)).content) (sym next.1))

    by : (ended : PlayEnd) → FindsBy ended (IsNextIn (Some stream) n k.requests)
        (world_left w (at_moment moment k.requests)) moment found → IsFoundInStream w moment stream n found
    by End is = first is
    by Unframed is = first is
    by Limit is = first is
    by Broken is = either is
    by (Fault Read) is = first is
    by (Fault CutShort) is = first is
    by (Fault OutOfMemory) is = either is
    by (Fault (Write fault)) is = either is

-- ---- the requests of a list

pub is_none_by : {A : Type 0} (e : Option A) → is_some e ≡ false → e ≡ None
is_none_by None none = refl
is_none_by (Some x) none = cc

pub found_settled : {R V : Type 0} (shown : R → Sent) (items : V → List ℕ) (w now : DeskWorld)
    (requests : List R) (n : ℕ) (answers : List V) (found : Option World)
    → HaveAnswers shown items w requests n answers now → found ≡ Some now.content
    → IsFoundInRequests w (map shown requests) n found
found_settled shown items w now requests n answers found h is =
    inl (is ∙ ap (λ v. Some v.content) h.first.left)

pub found_next : {R V : Type 0} (shown : R → Sent) (items : V → List ℕ) (w now : DeskWorld)
    (requests : List R) (n : ℕ) (answers : List V) (r : R) (before : Option World → Type 0)
    (moment : ℤ) (request : List ℕ) (reading : Reading MessageParts) (found : Option World)
    → HaveAnswers shown items w requests n answers now → n < length requests → r ≡ get_or requests n r
    → shown r ≡ (moment, request) → reading ≡ message_in request
    → (before found → found ≡ Some now.content)
    → before found ⊎ (found ≡ Some (world_after now moment (or_met reading asked_by)).content)
    → IsFoundInRequests w (map shown requests) n found
found_next shown items w now requests n answers r before moment request reading found h below place sent read
    only (inl is) =
    found_settled shown items w now requests n answers found h (only is)
found_next shown items w now requests n answers r before moment request reading found h below place sent read
    only (inr is) =
    let first = take n (map shown requests) in
    inr (is ∙ ap (λ v. Some v.content) (left_read now moment request reading read
    ∙ ap (λ v. world_after v moment (asked request)) h.first.left
    ∙ sym (left_more w first (moment, request))
    ∙ ap (λ s. world_left w (first ++ s ∷ [])) (sym sent)
    ∙ ap (world_left w) (sym (take_map shown requests n r below place))))
