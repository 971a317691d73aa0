-- The long spans that are kept, after one more is put among them.
use Rattle.std.proofs.Common.{◌≡◌, ℕ, ◌+◌, ◌≤◌, suc, zero, inl, inr, Bool, true, false, ◌||◌, List, [], ◌∷◌, Option, ◌<◌, length, get_or, set, take, refl, sym, ap, ◌∙◌, subst, arith}
use Rattle.std.specs.List.{AllByRecursion, list_any}
use Rattle.std.specs.Prelude.{IsTrue}
use Rattle.std.proofs.lemmas.List.Folds.{list_any_more}
use Rattle.s2_cover.specs.declared.spans.Span.{Span}
use Rattle.volume4d.specs.declared.slab.Slab.{Slab}
use Rattle.row_codec.specs.declared.span_bounds.SpanBounds.{SpanBounds}
use Rattle.row_codec.specs.SpanBounds.{FindAll, IsAmong, IsWithinExtent, Keeps, begins_in, takes_in}

or_left : (a b : Bool) → a ≡ true → (a || b) ≡ true
or_left a b h = ap (λ c. c || b) h

or_right : (a b : Bool) → b ≡ true → (a || b) ≡ true
or_right true b h = refl
or_right false b h = h

by_or : (a b c : Bool) → (b ≡ true → c ≡ true) → (a || b) ≡ true → (a || c) ≡ true
by_or true b c more h = refl
by_or false b c more h = more h

by_first : (a b c : Bool) → (a ≡ true → b ≡ true) → (a || c) ≡ true → (b || c) ≡ true
by_first true b c more h = or_left b c (more refl)
by_first false b c more h = or_right b c h

module _ {X : Type 0} (p : X → Bool) where
  -- an element that passes, put in the place of one
  pub set_passes : (xs : List X) (at : ℕ) (y : X) → at < length xs → p y ≡ true
      → list_any p (set xs at y) ≡ true
  set_passes [] at y within h = absurd (omega (arith, within))
  set_passes (z ∷ xs) zero y within h = or_left (p y) (list_any p xs) h
  set_passes (z ∷ xs) (suc at) y within h =
      or_right (p z) (list_any p (set xs at y)) (set_passes xs at y (omega (arith, within)) h)

  -- one that passes if that does in whose place it is put
  pub set_kept : (xs : List X) (at : ℕ) (d y : X) → (p (get_or xs at d) ≡ true → p y ≡ true)
      → list_any p xs ≡ true → list_any p (set xs at y) ≡ true
  set_kept [] at d y more h = h
  set_kept (z ∷ xs) zero d y more h = by_first (p z) (p y) (list_any p xs) more h
  set_kept (z ∷ xs) (suc at) d y more h =
      by_or (p z) (list_any p xs) (list_any p (set xs at y)) (set_kept xs at d y more) h

-- with more long spans no less is known
pub keeps_long_spans : (old new : SpanBounds) → new.bound ≡ old.bound
    → ((span : Span) → IsAmong old.long_spans span → IsAmong new.long_spans span) → Keeps old new
keeps_long_spans old new same more span known = elim known [
  | inl short ↦ inl (subst (λ bound. span.last ≤ span.first + bound) (sym same) short)
  | inr among ↦ inr (more span among)
]

-- ---- the walk along the long spans, for the queries

module _ (extent : Slab) (low : ℕ) where
  abbrev pub AreFor : Option Span → List Span → Type 0
  AreFor long_span queries =
      FindAll extent (λ span. IsTrue (takes_in span long_span) × (span.first < low)) queries

  -- the queries for some of the long spans that are kept
  pub record AreAskedFor (long_spans : List (Option Span)) (queries : List Span) : Type 0 where
    pub whole : FindAll extent (λ span. IsAmong long_spans span × (span.first < low)) queries
    pub within : AllByRecursion (IsWithinExtent extent) queries

  pub asked_on : (long_spans : List (Option Span)) (i : ℕ) (d : Option Span) (old new : List Span)
      → i < length long_spans → AreAskedFor (take i long_spans) old → AreFor (get_or long_spans i d) new
      → ((span : Span) → IsTrue (list_any (begins_in span) old) → IsTrue (list_any (begins_in span) new))
      → (AllByRecursion (IsWithinExtent extent) old → AllByRecursion (IsWithinExtent extent) new)
      → AreAskedFor (take (i + 1) long_spans) new
  asked_on long_spans i d old new inside before here kept within = record {
    whole = λ span one ends begins. by_place span one.1 ends begins
        (list_any (takes_in span) (take i long_spans)) refl
        (sym (list_any_more (takes_in span) long_spans i d inside) ∙ one.0);
    within = within before.within;
  } where
    by_place : (span : Span) → span.first < low → extent.first ≤ span.last → span.first ≤ extent.last
        → (b : Bool) → list_any (takes_in span) (take i long_spans) ≡ b
        → (b || takes_in span (get_or long_spans i d)) ≡ true → list_any (begins_in span) new ≡ true
    by_place span early ends begins true was h = kept span (before.whole span (was, early) ends begins)
    by_place span early ends begins false was h = here span (h, early) ends begins
