-- What a record says, one entry more.
use Rattle.std.proofs.Common.{◌≡◌, ◌<◌, ◌≤◌, ℕ, ◌+◌, ◌-◌, ◌^◌, min, length, List, [], ◌∷◌, ◌++◌, Bool, true, false, Option, Some, None, Result, Ok, Err, refl, sym, ap, subst, ◌∙◌, append_assoc, append-nil, arith}
use Rattle.std.specs.Prelude.{◌==◌, if◌then◌else◌, nat_lt, not, option_and_then}
use Rattle.std.specs.List.{AllByRecursion}
use Rattle.std.specs.Io.KnownBytes.{Consumes}
use Rattle.std.proofs.KnownBytes.{Consumes-nil, Consumes-trans}
use Rattle.desk_record.specs.Record.{EntryParts, Fits, entries, entry}
use Rattle.desk_record.specs.declared.kind.Kind.{Kind}
use Rattle.desk_record.specs.declared.kind.Kind.TheVariants as kind
use Rattle.desk_record.proofs.LawLemmas.{length_of}
use Rattle.desk_rules.specs.Limits.{max_priority, permitted_in}
use Rattle.desk_rules.specs.declared.permission.PermitFault.{PermitFault}
use Rattle.desk_recording.specs.Tail.{HasNoTail, AreApplied, IsEndless, IsNoRecord, IsApplied, IsNotApplied, NextTail, StepsTail, TailParts, UnansweredParts, empty_tail, grown, none_if, tail_with, tail_with_all, tail_with_answer, tail_with_answer_to, tail_with_cells, tail_with_header, tail_with_kind, tail_with_operator, tail_with_permitted, tail_with_permitted_list, tail_with_request, tail_with_spans}
use Rattle.desk_recording.specs.declared.tail.TailEnd.{TailEnd}
use Rattle.desk_recording.specs.declared.tail.TailFault.{TailFault}
use Rattle.desk_recording.specs.declared.tail.TailFault.TheVariants.{Unread, OutOfMemory, NoRecord, Endless}

some_same : {A : Type 0} {x y : A} → Some x ≡ Some y → x ≡ y
some_same e = cc

said_more : (s t u : TailParts) (es : List EntryParts) (e : EntryParts) → tail_with_all s es ≡ Some t
    → tail_with t e ≡ Some u → tail_with_all s (es ++ (e ∷ [])) ≡ Some u
unfolding tail_with_all
said_more s t u [] e first next =
    ap (λ x. option_and_then (λ y. Some y) (tail_with x e)) (some_same first)
    ∙ ap (option_and_then (λ y. Some y)) next
said_more s t u (x ∷ es) e first next =
    by_first (tail_with s x) first (λ v h. said_more v t u es e h next) where
      by_first : (o : NextTail) → option_and_then (λ v. tail_with_all v es) o ≡ Some t
          → ((v : TailParts) → tail_with_all v es ≡ Some t → tail_with_all v (es ++ (e ∷ [])) ≡ Some u)
          → option_and_then (λ v. tail_with_all v (es ++ (e ∷ []))) o ≡ Some u
      by_first (Some v) h more = more v h
      by_first None h more = cc

entries_more : (es : List EntryParts) (e : EntryParts) → entries (es ++ (e ∷ [])) ≡ entries es ++ entry e
entries_more [] e = append-nil (entry e)
entries_more (x ∷ es) e =
    ap (λ y. entry x ++ y) (entries_more es e) ∙ sym (append_assoc (entry x) (entries es) (entry e))

fit_more : (es : List EntryParts) (e : EntryParts) → AllByRecursion Fits es → Fits e
    → AllByRecursion Fits (es ++ (e ∷ []))
fit_more [] e fit one = (one, tt)
fit_more (x ∷ es) e fit one = (fit.0, fit_more es e fit.1 one)

pub none_said : (old : Option (List ℕ)) → AreApplied old old empty_tail
unfolding tail_with_all
none_said old = record { all = []; fit = tt; read = Consumes-nil old; are = refl }

-- one entry more
one_more : {old mid new : Option (List ℕ)} {s t : TailParts} → AreApplied old mid s → IsApplied mid new s t
    → AreApplied old new t
one_more {old} {mid} {new} {s} {t} first next = record {
  all = first.all ++ (next.one ∷ []);
  fit = fit_more first.all next.one first.fit next.fits;
  read = subst (Consumes old new) (sym (entries_more first.all next.one))
      (Consumes-trans old mid new (entries first.all) (entry next.one) first.read next.read);
  are = said_more empty_tail s t first.all next.one first.are next.is;
}

-- an entry that no desk writes there
none_more : {old mid new : Option (List ℕ)} {s : TailParts} → AreApplied old mid s → IsNotApplied mid new s
    → IsNoRecord old
none_more {old} {mid} {new} {s} first unsaid =
    record { mid = mid; new = new; t = s; first = first; unsaid = unsaid }

-- ==== How many bytes are counted after one entry more
-- an entry leaves the count as it is
kept_by : (s t u : TailParts) → s.size ≡ t.size → Some s ≡ Some u → u.size ≡ t.size
kept_by s t u same is = sym (ap (λ x. x.size) (some_same is)) ∙ same

kept_if : (test : Bool) (next : NextTail) (t u : TailParts) → (next ≡ Some u → u.size ≡ t.size)
    → none_if test next ≡ Some u → u.size ≡ t.size
kept_if true next t u keeps is = cc
kept_if false next t u keeps is = keeps is

kept_permitted : (t u : TailParts) (more : List ℕ) (result : Result (List ℕ) PermitFault)
    → tail_with_permitted_list t more result ≡ Some u → u.size ≡ t.size
kept_permitted t u more (Ok permitted) is = kept_by _ t u refl is
kept_permitted t u more (Err fault) is = cc

kept_choice : (test : Bool) (r s t u : TailParts) → r.size ≡ t.size → s.size ≡ t.size
    → (if test then Some r else Some s) ≡ Some u → u.size ≡ t.size
kept_choice true r s t u first second is = kept_by r t u first is
kept_choice false r s t u first second is = kept_by s t u second is

kept_answer : (t u : TailParts) (asked : Option UnansweredParts) (second : ℕ) (answer : List ℕ)
    → tail_with_answer_to t asked second answer ≡ Some u → u.size ≡ t.size
kept_answer t u None second answer is = cc
kept_answer t u (Some asked) second answer is = kept_if _ _ t u (kept_choice _ _ _ t u refl refl) is

kept_operator : (t u : TailParts) (n : ℕ) (bytes : List ℕ) → tail_with_operator t n bytes ≡ Some u
    → u.size ≡ t.size
unfolding tail_with_operator
kept_operator t u n bytes is = kept_if _ _ t u (kept_if _ _ t u (kept_by _ t u refl)) is

kept_request : (t u : TailParts) (n : ℕ) (bytes : List ℕ) → tail_with_request t n bytes ≡ Some u
    → u.size ≡ t.size
unfolding tail_with_request
kept_request t u n bytes is = kept_if _ _ t u (kept_if _ _ t u (kept_by _ t u refl)) is

kept : (k : Kind) (t u : TailParts) (n : ℕ) (bytes : List ℕ) → tail_with_kind k t n bytes ≡ Some u
    → u.size ≡ t.size
unfolding tail_with_header tail_with_permitted tail_with_spans tail_with_cells tail_with_answer
kept kind.Record t u n bytes is = kept_if _ _ t u (kept_by _ t u refl) is
kept kind.Permitted t u n bytes is =
    let more = t.permitted ++ (n ∷ []) in
    kept_if (not (length bytes == 0)) _ t u
    (kept_if (nat_lt max_priority n) _ t u (kept_permitted t u more (permitted_in more))) is
kept kind.Spans t u n bytes is = kept_if _ _ t u (kept_if _ _ t u (kept_by _ t u refl)) is
kept kind.Cells t u n bytes is = kept_if _ _ t u (kept_if _ _ t u (kept_by _ t u refl)) is
kept kind.Operator t u n bytes is = kept_operator t u n bytes is
kept kind.Request t u n bytes is = kept_request t u n bytes is
kept kind.Answer t u n bytes is = kept_answer t u t.asked n bytes is

grows_by : (s t : TailParts) (e : EntryParts) → tail_with s e ≡ Some t
    → t.size ≡ min (s.size + length (entry e)) (2 ^ 64 - 1)
unfolding tail_with
grows_by s t e is =
    kept_if _ _ (grown s (length (entry e))) t
    (kept e.kind (grown s (length (entry e))) t e.number e.bytes) is

more_counted : (now size long own : ℕ) → now ≡ min (size + long) (2 ^ 64 - 1) → long ≡ 86 + own + 1
    → size < 2 ^ 64 - 1 → size < now
more_counted now size long own is sized low = omega (arith, is, sized, low)

-- an entry has a byte or more
pub counts_more : (R : Type 0) (r : Option TailEnd) (old new : Option (List ℕ)) (s t : TailParts) → r ≡ None
    → StepsTail {R = R} (Ok r) old new s t → s.size < 2 ^ 64 - 1 → s.size < t.size
counts_more R r old new s t none step low =
    let next : IsApplied old new s t = subst (λ x. StepsTail {R = R} (Ok x) old new s t) none step in
    more_counted t.size s.size (length (entry next.one)) (length next.one.bytes)
    (grows_by s t next.one next.is) (length_of next.one) low

capped : (now all : ℕ) → now ≡ min all (2 ^ 64 - 1) → now ≤ 2 ^ 64 - 1
capped now all is = omega (arith, is)

counted_at_most : (s t : TailParts) (es : List EntryParts) → s.size ≤ 2 ^ 64 - 1
    → tail_with_all s es ≡ Some t → t.size ≤ 2 ^ 64 - 1
unfolding tail_with_all
counted_at_most s t [] low is = subst (λ n. n ≤ 2 ^ 64 - 1) (ap (λ x. x.size) (some_same is)) low
counted_at_most s t (e ∷ es) low is =
    by_first (tail_with s e) (λ v h. counted_at_most v t es (capped v.size _ (grows_by s v e h))) is where
      by_first : (o : NextTail)
          → ((v : TailParts) → o ≡ Some v → tail_with_all v es ≡ Some t → t.size ≤ 2 ^ 64 - 1)
          → option_and_then (λ v. tail_with_all v es) o ≡ Some t → t.size ≤ 2 ^ 64 - 1
      by_first (Some v) next h = next v refl h
      by_first None next h = cc

both_bounds : (n m : ℕ) → m ≤ n → n ≤ m → n ≡ m
both_bounds n m low high = omega (arith, low, high)

-- no more bytes can be counted
pub ends_full : (old mid : Option (List ℕ)) (t : TailParts) → 2 ^ 64 - 1 ≤ t.size → AreApplied old mid t
    → IsEndless old
ends_full old mid t full first = record {
  mid = mid;
  t = t;
  first = first;
  full = both_bounds t.size (2 ^ 64 - 1) full
      (counted_at_most empty_tail t first.all (omega arith) first.are);
}

-- a step at which nothing ended
pub goes_on : (R : Type 0) (r : Option TailEnd) (old mid new : Option (List ℕ)) (s t : TailParts) → r ≡ None
    → AreApplied old mid s → StepsTail {R = R} (Ok r) mid new s t → AreApplied old new t
goes_on R r old mid new s t is first step =
    one_more first (subst (λ x. StepsTail {R = R} (Ok x) mid new s t) is step)

-- why no tail is reported
pub unreported : {R : Type 0} (fault : TailFault R) (old mid new : Option (List ℕ)) (s t : TailParts)
    → AreApplied old mid s → StepsTail (Err fault) mid new s t → HasNoTail old fault
unreported (Unread error) old mid new s t first step = tt
unreported OutOfMemory old mid new s t first step = tt
unreported NoRecord old mid new s t first step = none_more first step
unreported Endless old mid new s t first step = absurd step
