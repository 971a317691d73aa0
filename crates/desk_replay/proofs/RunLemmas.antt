-- Runs of a replay: one entry more.
use Rattle.std.proofs.Common.{◌≡◌, ◌⊎◌, ℕ, ◌+◌, ◌^◌, ◌-◌, min, arith, length, length-append, List, [], ◌∷◌, ◌++◌, Option, Result, Ok, Err, refl, sym, ap, subst, ◌∙◌, append_assoc, append-nil}
use Rattle.std.specs.List.{AllByRecursion}
use Rattle.std.specs.Io.KnownBytes.{Consumes}
use Rattle.std.proofs.KnownBytes.{Consumes-nil, Consumes-trans}
use Rattle.desk_record.specs.Record.{EntryParts, Fits, entries, entry}
use Rattle.desk_run.specs.Verdicts.{DeskWorld}
use Rattle.desk_wire.specs.Streams.{course}
use Rattle.desk_replay.specs.Replaying.{IsDeskFault, Outcome, State, played, taken, then_taken}
use Rattle.desk_replay.specs.Running.{AreEntriesPlayed, Ends, HasReplayed, IsEntryPlayed, size_of, start}
use Rattle.desk_replay.specs.declared.stream.ReplayEnd.{ReplayEnd}
use Rattle.desk_replay.specs.declared.stream.ReplayEnd.TheVariants.{End, Until, Unread, Unplayed, Endless}

ok_same : {A E : Type 0} {x y : A} → ◌≡◌ {A = Result A E} (Ok x) (Ok y) → x ≡ y
ok_same e = cc

played_more : (s t u : State) (es : List EntryParts) (e : EntryParts) → played s es ≡ Ok t → taken t e ≡ Ok u
    → played s (es ++ (e ∷ [])) ≡ Ok u
unfolding played
played_more s t u [] e first next =
    let same : s ≡ t = ok_same first in
    ap (λ x. then_taken (λ y. Ok y) (taken x e)) same ∙ ap (then_taken (λ y. Ok y)) next
played_more s t u (x ∷ es) e first next =
    by_first (taken s x) first (λ v h. played_more v t u es e h next) where
      by_first : (o : Outcome) → then_taken (λ v. played v es) o ≡ Ok t
          → ((v : State) → played v es ≡ Ok t → played v (es ++ (e ∷ [])) ≡ Ok u)
          → then_taken (λ v. played v (es ++ (e ∷ []))) o ≡ Ok u
      by_first (Ok v) h more = more v h
      by_first (Err fault) h more = cc

entries_more : (es : List EntryParts) (e : EntryParts) → entries (es ++ (e ∷ [])) ≡ entries es ++ entry e
entries_more [] e = append-nil (entry e)
entries_more (x ∷ es) e =
    ap (λ y. entry x ++ y) (entries_more es e) ∙ sym (append_assoc (entry x) (entries es) (entry e))

fit_more : (es : List EntryParts) (e : EntryParts) → AllByRecursion Fits es → Fits e
    → AllByRecursion Fits (es ++ (e ∷ []))
fit_more [] e fit one = (one, tt)
fit_more (x ∷ es) e fit one = (fit.0, fit_more es e fit.1 one)

-- the sizes of two texts, one after the other
sized_more : (place size now a b : ℕ) → place ≡ min a (2 ^ 64 - 1) → size ≡ min b (2 ^ 64 - 1)
    → now ≡ min (place + size) (2 ^ 64 - 1) → now ≡ min (a + b) (2 ^ 64 - 1)
sized_more place size now a b first next is = omega (arith, first, next, is)

sized_both : (place size now : ℕ) (es : List EntryParts) (e : EntryParts) → place ≡ size_of (entries es)
    → size ≡ size_of (entry e) → now ≡ min (place + size) (2 ^ 64 - 1)
    → now ≡ size_of (entries (es ++ (e ∷ [])))
sized_both place size now es e first next is =
    sized_more place size now (length (entries es)) (length (entry e)) first next is
    ∙ ap (λ n. min n (2 ^ 64 - 1)) (sym (length-append (entries es) (entry e))
    ∙ ap length (sym (entries_more es e)))

-- nothing is played yet
pub none_played : (H : Type 0) (old : Option (List ℕ)) (w : DeskWorld)
    → AreEntriesPlayed H 0 (course old old) w (start w)
unfolding played
none_played H old w =
    record { all = []; fit = tt; sized = omega arith; read = Consumes-nil old; gives = λ h. refl }

-- one entry more
pub one_more : {H G : Type 0} (place size now : ℕ) (old mid new : Option (List ℕ)) (w : DeskWorld)
    (s t : State) → (G → H) → now ≡ min (place + size) (2 ^ 64 - 1)
    → AreEntriesPlayed H place (course old mid) w s
    → IsEntryPlayed G size (course mid new) s t → AreEntriesPlayed G now (course old new) w t
one_more place size now old mid new w s t down is first next = record {
  all = first.all ++ (next.one ∷ []);
  fit = fit_more first.all next.one first.fit next.fits;
  sized = sized_both place size now first.all next.one first.sized next.sized is;
  read = subst (Consumes old new) (sym (entries_more first.all next.one))
      (Consumes-trans old mid new (entries first.all) (entry next.one) first.read next.read);
  gives = λ h. played_more (start w) s t first.all next.one (first.gives (down h)) (next.gives h);
}

ends_at : {R H : Type 0} (until : Option ℕ) (end : ReplayEnd R) (place : ℕ) (mid new : Option (List ℕ))
    (s t : State) → Ends H until end 0 (course mid new) s → (H → t ≡ s)
    → Ends H until end place (course mid new) t
ends_at until End place mid new s t h same = h
ends_at until Until place mid new s t h same = h
ends_at until (Unread fault) place mid new s t h same = h
ends_at until Endless place mid new s t h same = absurd (omega (arith, h))
ends_at until (Unplayed fault) place mid new s t h same = record {
  one = h.one;
  fits = h.fits;
  read = h.read;
  refused = λ honest.
      subst (λ v. IsDeskFault fault ⊎ (taken v h.one ≡ Err fault)) (sym (same honest)) (h.refused honest);
}

-- no entry more
pub no_more : {R H G : Type 0} (until : Option ℕ) (end : ReplayEnd R) (place : ℕ)
    (old mid new : Option (List ℕ)) (w : DeskWorld) (s t : State) → (G → H)
    → AreEntriesPlayed H place (course old mid) w s
    → Ends G until end 0 (course mid new) s × (G → t ≡ s)
    → HasReplayed G until end place (course old new) w t
no_more until end place old mid new w s t down first ends = record {
  mid = mid;
  first = record {
    all = first.all;
    fit = first.fit;
    sized = first.sized;
    read = first.read;
    gives = λ h. first.gives (down h) ∙ ap Ok (sym (ends.1 h));
  };
  ends = ends_at until end place mid new s t ends.0 ends.1;
}
