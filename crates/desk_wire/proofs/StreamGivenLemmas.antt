-- What a desk wrote for a stream: the first requests of the stream have the answers of a run.
use Rattle.std.proofs.Common.{◌≡◌, ◌≤◌, ◌+◌, ◌-◌, ℕ, ℤ, zero, suc, Bool, true, false, ◌⊎◌, inl, inr, refl, sym, ap, subst}
use Rattle.std.proofs.Common.{List, [], ◌∷◌, ◌++◌, length, take, drop, Option, Some, None, ◌∙◌, arith, append-nil, length-append}
use Rattle.std.proofs.lemmas.List.{append_assoc, map-append, length-take-le}
use Rattle.std.proofs.Math.Seq.{take-append_seam, drop-append_seam}
use Rattle.std.proofs.lemmas.List.Elements.{recursion_from_All}
use Rattle.std.proofs.lemmas.Option.{slice_get-map}
use Rattle.std.proofs.KnownBytes.{Appends-kept, Appends-trans}
use Rattle.std.specs.Prelude.{IfSome, if◌then◌else◌}
use Rattle.std.specs.List.{AllByRecursion, concat, slice_get}
use Rattle.std.specs.Option.{option_map}
use Rattle.std.specs.Io.KnownBytes.{Appends, Consumes}
use Rattle.desk_run.specs.Verdicts.{DeskWorld, side}
use Rattle.request_parser.specs.Requests.{asked}
use Rattle.desk_run.specs.Calls.{OwnAlike}
use Rattle.io_ends.specs.declared.playing.PlayEnd.{PlayEnd}
use Rattle.io_ends.specs.declared.playing.PlayEnd.TheVariants.{End, Unframed, Broken, Limit, Fault}
use Rattle.io_ends.specs.declared.serving.ServeFault.TheVariants.{Read, Write, CutShort, OutOfMemory}
use Rattle.io_ends.specs.declared.writing.PartialWrite.{PartialWrite}
use Rattle.desk_wire.specs.declared.response.ServerError.{ServerError}
use Rattle.desk_wire.specs.Bytes.{answers_to, world_left, IsAnsweredSo, IsDone, world_after}
use Rattle.desk_wire.specs.Given.{AreGiven, IsNextIn, LeavesBy, FollowsBy, reported_in_play, SparesQuiet, requests_of}
use Rattle.desk_wire.specs.Headline.{sender, LookAlike, world_at}
use Rattle.desk_wire.specs.Streams.{Passage, passed, IsBrokenOff, IsTaken, IsUntouched, IsRequest, is_framed, request_len, requests_in, with_next}
use Rattle.desk_wire.specs.Playing.{ArePlayed, EndsRunBy, HasPlayed, IsBroken, IsUnframed, IsWhole, at_moment}
use Rattle.desk_wire.proofs.AllLemmas.{left_more}
use Rattle.desk_wire.proofs.FrontLemmas.{request_more}
use Rattle.desk_wire.proofs.GivenLemmas.{quiet_take}
use Rattle.desk_wire.proofs.HeadlineLemmas.{headline, quiet}
use Rattle.desk_wire.proofs.PlayLemmas.{done_by_status, reported_one}

-- ---- the requests of a stream

take_none : (n : ℕ) → ◌≡◌ {A = List (List ℕ)} [] (take n [])
take_none zero = refl
take_none (suc n) = refl

-- fewer of them are the first of more
take_in : (n m : ℕ) (stream : List ℕ) → n ≤ m → requests_in n stream ≡ take n (requests_in m stream)
unfolding requests_in
take_in zero m stream h = refl
take_in (suc n) zero stream h = absurd (omega (arith, h))
take_in (suc n) (suc m) stream h = by_len (λ rest. take_in n m rest (omega (arith, h)))
    (request_len stream)
  where
    by_framed : (request rest : List ℕ) → requests_in n rest ≡ take n (requests_in m rest) → (b : Bool)
        → request ∷ (if b then requests_in n rest else []) ≡ request
        ∷ take n (if b then requests_in m rest else [])
    by_framed request rest ih true = ap (λ xs. request ∷ xs) ih
    by_framed request rest ih false = ap (λ xs. request ∷ xs) (take_none n)

    by_len : ((rest : List ℕ) → requests_in n rest ≡ take n (requests_in m rest)) → (o : Option ℕ)
        → with_next (requests_in n) stream o ≡ take (suc n) (with_next (requests_in m) stream o)
    by_len ih None = refl
    by_len ih (Some len) = by_framed (take len stream) (drop len stream) (ih (drop len stream))
        (is_framed (take len stream))

-- a request at the front
first_whole : (next : List ℕ → List (List ℕ)) (r more : List ℕ) → IsRequest r → is_framed r ≡ true
    → with_next next (r ++ more) (request_len (r ++ more)) ≡ r ∷ next more
first_whole next r more whole framed =
    ap (with_next next (r ++ more)) (request_more r more whole)
    ∙ (λ i. take-append_seam r more i ∷ (if is_framed (take-append_seam r more i)
    then next (drop-append_seam r more i) else []))
    ∙ ap (λ b. r ∷ (if b then next more else [])) framed

last_one : (r more : List ℕ) → IsRequest r → requests_in 1 (r ++ more) ≡ r ∷ []
unfolding requests_in
last_one r more whole =
    ap (with_next (requests_in 0) (r ++ more)) (request_more r more whole)
    ∙ (λ i. take-append_seam r more i ∷ (if is_framed (take-append_seam r more i) then [] else []))
    ∙ by_framed (is_framed r) where
      by_framed : (b : Bool) → r ∷ (if b then [] else []) ≡ r ∷ []
      by_framed true = refl
      by_framed false = refl

-- whole requests, and then those of what follows
cut_is : (rs : List (List ℕ)) (rest : List ℕ) (k n : ℕ) → AllByRecursion IsWhole rs → n ≡ length rs + k
    → requests_in n (concat rs ++ rest) ≡ rs ++ requests_in k rest
unfolding requests_in
cut_is [] rest k n all e = let same : n ≡ k = omega (arith, e) in ap (λ m. requests_in m rest) same
cut_is (r ∷ rs) rest k zero all e = absurd (omega (arith, e))
cut_is (r ∷ rs) rest k (suc n) all e =
    ap (requests_in (suc n)) (append_assoc r (concat rs) rest)
    ∙ first_whole (requests_in n) r (concat rs ++ rest) all.0.whole all.0.framed
    ∙ ap (λ xs. r ∷ xs) (cut_is rs rest k n all.1 (omega (arith, e)))

none_more : (rs : List (List ℕ)) (rest : List ℕ) → rs ++ requests_in 0 rest ≡ rs
unfolding requests_in
none_more rs rest = append-nil rs

-- the requests taken are the stream's first
are_first : (old input : Option (List ℕ)) (rs : List (List ℕ)) (n : ℕ) → AllByRecursion IsWhole rs
    → length rs
    ≡ n
    → Consumes old input (concat rs) → IfSome old (λ stream. rs ≡ requests_in n stream)
are_first None input rs n all count taken = tt
are_first (Some xs) None rs n all count taken = absurd taken
are_first (Some xs) (Some ys) rs n all count taken =
    sym (ap (requests_in n) taken ∙ cut_is rs ys 0 n all (omega (arith, count)) ∙ none_more rs ys)

pub is_next : (old input new : Option (List ℕ)) (rs : List (List ℕ)) (next : List ℕ) (n : ℕ)
    → AllByRecursion IsWhole rs
    → length rs ≡ n → Consumes old input (concat rs) → IsTaken input new next → IsNextIn old n rs next
is_next None input new rs next n all count taken last = tt
is_next (Some xs) None new rs next n all count taken last = absurd taken
is_next (Some xs) (Some ys) None rs next n all count taken last = absurd last.taken
is_next (Some xs) (Some ys) (Some zs) rs next n all count taken last =
    ap (requests_in (n + 1)) (taken ∙ ap (λ rest. concat rs ++ rest) last.taken)
    ∙ cut_is rs (next ++ zs) 1 (n + 1) all (omega (arith, count))
    ∙ ap (λ tail. rs ++ tail) (last_one next zs last.whole)

next_first : (old : Option (List ℕ)) (n : ℕ) (rs : List (List ℕ)) (next : List ℕ)
    → IsNextIn old n rs next
    → IfSome old (λ stream. rs ++ next ∷ [] ≡ requests_in (n + 1) stream)
next_first None n rs next h = tt
next_first (Some xs) n rs next h = sym h

-- ---- what was written for them

module _ (H : Type 0) (old out : Option (List ℕ)) (w : DeskWorld) (moment : ℤ) (p : H) where
  -- where nothing more is taken and written
  pub given_first : (ended : PlayEnd) (count : ℕ) (input new output now : Option (List ℕ))
      (world after : DeskWorld)
      → IsUntouched output now world after → FollowsBy ended []
      → (f : ArePlayed H count (passed old input out output) w moment world)
      → (after ≡ world_left w (at_moment moment f.requests)
      → LeavesBy ended (IsNextIn old count f.requests) (world_left w (at_moment moment f.requests))
      moment
      after)
      → AreGiven ended count (passed old new out now) w moment after f.requests
      (answers_to w (at_moment moment f.requests))
  given_first ended count input new output now world after rest follows f leaves =
      let answers = concat (answers_to w (at_moment moment f.requests)) in
      record {
        count = f.count_is;
        first = are_first old input f.requests count (recursion_from_All IsWhole f.requests f.whole)
            f.count_is f.taken;
        reported = refl;
        more = [];
        written = subst (Appends out now) (sym (append-nil answers))
            (Appends-kept out output now answers (f.written p) rest.written);
        follows = follows;
        left = leaves (rest.left ∙ f.left p);
      }

  -- where one more is answered by the desk's failure
  pub given_broken : (count : ℕ) (input new output now : Option (List ℕ)) (world after : DeskWorld)
      → (f : ArePlayed H count (passed old input out output) w moment world)
      → (b : IsBroken (passed input new output now) world after)
      → AreGiven Broken count (passed old new out now) w moment after f.requests
      (answers_to w (at_moment moment f.requests))
  given_broken count input new output now world after f b =
      let answers = concat (answers_to w (at_moment moment f.requests)) in
      let why = b.failed in
      record {
        count = f.count_is;
        first = are_first old input f.requests count (recursion_from_All IsWhole f.requests f.whole)
            f.count_is f.taken;
        reported = refl;
        more = b.answer;
        written = Appends-trans out output now answers b.answer (f.written p) b.written;
        follows = (why.0, why.1.reported);
        left = why.1.left ∙ f.left p;
      }

  -- what an answer that was broken off leaves
  left_off : (world after : DeskWorld) (request answer : List ℕ) (why : Option ServerError)
      → IsAnsweredSo why world moment (asked request) answer after
      → (after ≡ world_after world moment (asked request)) ⊎ (after ≡ world)
  left_off world after request answer None h = inl h.left
  left_off world after request answer (Some error) h = inr h.left

  pub given_off : (count : ℕ) (fault : PartialWrite) (input new output now : Option (List ℕ))
      (world after : DeskWorld)
      → (f : ArePlayed H count (passed old input out output) w moment world)
      → (b : IsBrokenOff H (passed input new output now) world moment after fault)
      → AreGiven (Fault (Write fault)) count (passed old new out now) w moment after f.requests
      (answers_to w (at_moment moment f.requests))
  given_off count fault input new output now world after f b =
      let answers = concat (answers_to w (at_moment moment f.requests)) in
      let all = recursion_from_All IsWhole f.requests f.whole in
      record {
        count = f.count_is;
        first = are_first old input f.requests count all f.count_is f.taken;
        reported = refl;
        more = take fault.sent b.answer;
        written = Appends-trans out output now answers (take fault.sent b.answer) (f.written p) b.off.written;
        follows = length-take-le fault.sent b.answer (omega (arith, b.off.short));
        left = (
          b.request,
          is_next old input new f.requests b.request count all f.count_is f.taken b.taken,
          subst (λ v. (after ≡ world_after v moment (asked b.request)) ⊎ (after ≡ v)) (f.left p)
              (left_off world after b.request b.answer b.why (b.replied.reported p)),
        );
      }

  -- where one more is answered, after which the place of the next is unknown
  pub given_unframed : (count : ℕ) (input new output now : Option (List ℕ)) (world after : DeskWorld)
      → (f : ArePlayed H count (passed old input out output) w moment world)
      → (u : IsUnframed H (passed input new output now) world moment after)
      → AreGiven Unframed (count + 1) (passed old new out now) w moment after
      (f.requests ++ u.served.request ∷ [])
      (answers_to w (at_moment moment (f.requests ++ u.served.request ∷ [])))
  given_unframed count input new output now world after f u =
      let s = u.served in
      let more = at_moment moment f.requests in
      let all = recursion_from_All IsWhole f.requests f.whole in
      let done : IsDone world moment (asked s.request) s.answer after =
      done_by_status world after moment (asked s.request) s.answer s.why u.status (s.replied.reported p)
      (s.status_is p) u.answered in
      let both : at_moment moment (f.requests ++ s.request ∷ []) ≡ more ++ (moment, s.request) ∷ [] =
      map-append (λ r. (moment, r)) f.requests (s.request ∷ []) in
      let text : concat (answers_to w more) ++ s.answer
      ≡ concat (answers_to w (at_moment moment (f.requests ++ s.request ∷ []))) =
      reported_one w world after moment more s.answer s.request done (f.left p)
      ∙ sym (ap (λ rs. concat (answers_to w rs)) both) in
      record {
        count = length-append f.requests (s.request ∷ []) ∙ ap (λ n. n + 1) f.count_is;
        first = next_first old count f.requests s.request
            (is_next old input new f.requests s.request count all f.count_is f.taken s.taken);
        reported = refl;
        more = [];
        written =
            subst (Appends out now) (text ∙ sym (append-nil _))
            (Appends-trans out output now (concat (answers_to w more)) s.answer (f.written p)
            s.written);
        follows = refl;
        left =
            done.left ∙ ap (λ v. world_after v moment (asked s.request)) (f.left p)
            ∙ sym (left_more w more (moment, s.request)) ∙ ap (world_left w) (sym both);
      }

  abbrev Given : PlayEnd → ℕ → Option (List ℕ) → Option (List ℕ) → DeskWorld → Type 0
  Given ended n new now after =
      (requests answers : List (List ℕ))
      × AreGiven ended n (passed old new out now) w moment after requests answers

  given_by : (ended : PlayEnd) (count answered : ℕ) (input new output now : Option (List ℕ))
      (world after : DeskWorld)
      → ArePlayed H count (passed old input out output) w moment world
      → EndsRunBy H ended count answered (passed input new output now) world moment after
      → Given ended (reported_in_play ended answered) new now after
  given_by End count answered input new output now world after f last =
      subst (λ n. Given End n new now after) (sym last.0)
      (f.requests, _, given_first End count input new output now world after last.2 refl f (λ e. e))
  given_by Limit count answered input new output now world after f last =
      subst (λ n. Given Limit n new now after) (sym last.0)
      (f.requests, _, given_first Limit count input new output now world after last.2 refl f (λ e. e))
  given_by Unframed count answered input new output now world after f last =
      subst (λ n. Given Unframed n new now after) (sym last.0) (
        f.requests ++ last.1.served.request ∷ [],
        _,
        given_unframed count input new output now world after f
            last.1,
      )
  given_by Broken count answered input new output now world after f last =
      let less : answered - 1 ≡ count = omega (arith, last.0) in
      subst (λ n. Given Broken n new now after) (sym less)
      (f.requests, _, given_broken count input new output now world after f last.1)
  given_by (Fault (Write fault)) count answered input new output now world after f last =
      subst (λ n. Given (Fault (Write fault)) n new now after) (sym last.0)
      (f.requests, _, given_off count fault input new output now world after f last.1)
  given_by (Fault Read) count answered input new output now world after f last =
      subst (λ n. Given (Fault Read) n new now after) (sym last.0) (
        f.requests,
        _,
        given_first (Fault Read) count input new output now world after last.1 refl f
            (λ e. e),
      )
  given_by (Fault CutShort) count answered input new output now world after f last =
      subst (λ n. Given (Fault CutShort) n new now after) (sym last.0) (
        f.requests,
        _,
        given_first (Fault CutShort) count input new output now world after last.1.1 refl f
            (λ e. e),
      )
  given_by (Fault OutOfMemory) count answered input new output now world after f last =
      subst (λ n. Given (Fault OutOfMemory) n new now after) (sym last.0) (
        f.requests,
        _,
        given_first (Fault OutOfMemory) count input new output now world after last.1 refl f
            (λ e. e),
      )

pub play_given : (H : Type 0) (ended : PlayEnd) (count : ℕ) (q : Passage) (w : DeskWorld) (moment : ℤ)
    (after : DeskWorld) → HasPlayed H ended count q w moment after → H
    → (requests answers : List (List ℕ))
    × AreGiven ended (reported_in_play ended count) q w moment after requests answers
play_given H ended count q w moment after h p =
    given_by H q.reads.before q.writes.before w moment p ended h.count count h.input q.reads.after h.output
    q.writes.after h.world after h.first h.last

-- ---- equal answers

sent_at : (moment : ℤ) (rs : List (List ℕ)) (i : ℕ) (r : List ℕ) → slice_get rs i ≡ Some r
    → slice_get (at_moment moment rs) i ≡ Some (moment, r)
sent_at moment rs i r e = slice_get-map (λ q. (moment, q)) rs i ∙ ap (option_map (λ q. (moment, q))) e

pub given_same : (e f : PlayEnd) (m n : ℕ) (p q : Passage) (v w v_after w_after : DeskWorld) (moment : ℤ)
    (rs ss xs ys : List (List ℕ)) (i j : ℕ) (r : List ℕ)
    → AreGiven e m p v moment v_after rs xs → AreGiven f n q w moment w_after ss ys
    → slice_get rs i ≡ Some r → slice_get ss j ≡ Some r
    → LookAlike (sender (moment, r)) (world_at v (at_moment moment rs) i)
    (world_at w (at_moment moment ss) j)
    → slice_get xs i ≡ slice_get ys j
given_same e f m n p q v w v_after w_after moment rs ss xs ys i j r g h is there alike =
    ap (λ zs. slice_get zs i) g.reported
    ∙ headline.decided v w (at_moment moment rs) (at_moment moment ss) i j (moment, r)
    (sent_at moment rs i r is)
    (sent_at moment ss j r there) alike
    ∙ sym (ap (λ zs. slice_get zs j) h.reported)

-- ---- who sent nothing

take_sent : (moment : ℤ) (n : ℕ) (rs : List (List ℕ)) → at_moment moment (take n rs)
    ≡ take n (at_moment moment rs)
take_sent moment zero rs = refl
take_sent moment (suc n) [] = refl
take_sent moment (suc n) (r ∷ rs) = ap (λ xs. (moment, r) ∷ xs) (take_sent moment n rs)

-- of fewer requests of a stream the operator has none either
fewer_quiet : (o : List ℕ) (moment : ℤ) (n m : ℕ) (stream : List ℕ) → n ≤ m
    → requests_of o (at_moment moment (requests_in m stream)) ≡ []
    → requests_of o (at_moment moment (requests_in n stream)) ≡ []
fewer_quiet o moment n m stream h none =
    ap (λ rs. requests_of o (at_moment moment rs)) (take_in n m stream h)
    ∙ ap (requests_of o) (take_sent moment n (requests_in m stream))
    ∙ quiet_take o n (at_moment moment (requests_in m stream)) none

module _ (o stream : List ℕ) (w : DeskWorld) (moment : ℤ) (count : ℕ)
    (none : requests_of o (at_moment moment (requests_in (count + 1) stream)) ≡ []) where
  -- the world that the first requests leave
  quiet_left : (n : ℕ) (requests : List (List ℕ)) → n ≤ count → requests ≡ requests_in n stream
      → OwnAlike o (world_left w (at_moment moment requests)) w
  quiet_left n requests h is =
      quiet o w (at_moment moment requests)
      (ap (λ rs. requests_of o (at_moment moment rs)) is
      ∙ fewer_quiet o moment n (count + 1) stream (omega (arith, h)) none)

  -- and that of one more
  quiet_next : (requests : List (List ℕ)) (next : List ℕ) → requests_in (count + 1) stream ≡ requests
      ++ next
      ∷ []
      → OwnAlike o (world_after (world_left w (at_moment moment requests)) moment (asked next)) w
  quiet_next requests next is =
      ap (λ v. side v o)
      (sym (left_more w (at_moment moment requests) (moment, next))
      ∙ ap (world_left w) (sym (map-append (λ r. (moment, r)) requests (next ∷ []))))
      ∙ quiet o w (at_moment moment (requests ++ next ∷ []))
      (ap (λ rs. requests_of o (at_moment moment rs)) (sym is) ∙ none)

  quiet_by : (ended : PlayEnd) (requests : List (List ℕ)) (after : DeskWorld)
      → requests ≡ requests_in (reported_in_play ended count) stream
      → LeavesBy ended (IsNextIn (Some stream) (reported_in_play ended count) requests)
      (world_left w (at_moment moment requests))
      moment after
      → OwnAlike o after w
  quiet_by End requests after is left = ap (λ v. side v o) left
      ∙ quiet_left count requests (omega arith) is
  quiet_by Unframed requests after is left = ap (λ v. side v o) left
      ∙ quiet_left count requests (omega arith) is
  quiet_by Limit requests after is left = ap (λ v. side v o) left
      ∙ quiet_left count requests (omega arith) is
  quiet_by Broken requests after is left = ap (λ v. side v o) left
      ∙ quiet_left (count - 1) requests (omega arith) is
  quiet_by (Fault Read) requests after is left = ap (λ v. side v o) left
      ∙ quiet_left count requests (omega arith) is
  quiet_by (Fault CutShort) requests after is left = ap (λ v. side v o) left
      ∙ quiet_left count requests (omega arith) is
  quiet_by (Fault OutOfMemory) requests after is left = ap (λ v. side v o) left
      ∙ quiet_left count requests (omega arith) is
  quiet_by (Fault (Write fault)) requests after is left =
      elim left.2 [
        | inl e ↦ ap (λ v. side v o) e ∙ quiet_next requests left.0 left.1
        | inr e ↦ ap (λ v. side v o) e ∙ quiet_left count requests (omega arith) is
      ]

pub play_quiet : (H : Type 0) (ended : PlayEnd) (count : ℕ) (q : Passage) (stream : List ℕ)
    (w : DeskWorld) (moment : ℤ) (after : DeskWorld) → HasPlayed H ended count q w moment after → H
    → q.reads.before ≡ Some stream
    → SparesQuiet w (at_moment moment (requests_in (count + 1) stream)) after
play_quiet H ended count q stream w moment after h p is o none =
    let given = play_given H ended count q w moment after h p in
    quiet_by o stream w moment count none ended given.0 after
    (subst (λ old. IfSome old (λ stream. given.0 ≡ requests_in (reported_in_play ended count) stream)) is
    given.2.first)
    (subst (λ old. LeavesBy ended (IsNextIn old (reported_in_play ended count) given.0)
    (world_left w (at_moment moment given.0)) moment after) is given.2.left)
