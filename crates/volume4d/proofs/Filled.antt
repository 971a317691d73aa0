-- The slabs of volumes each have a point.
use Rattle.std.proofs.Common.{◌≡◌, ℕ, ◌+◌, ◌<◌, ℤ, ◌<ℤ◌, true, List, [], ◌∷◌, ◌++◌, length, get_or, take, sym, ap, ◌∙◌, subst, arith}
use Rattle.std.specs.Prelude.{All, map, int_lt}
use Rattle.std.proofs.lemmas.Int.{ints}
use Rattle.std.proofs.lemmas.Bool.{and_parts}
use Rattle.std.proofs.lemmas.List.{length-map, length-append, take_more}
use Rattle.std.proofs.lemmas.List.Elements.{All-nil, All-append, All-cons, All-head, All-tail}
use Rattle.std.specs.List.Sorted.{IsPermutation}
use Rattle.std.proofs.lemmas.List.Sorted.{All-permutation, length_permutation}
use Rattle.s2_cover.specs.declared.spans.Span.{Span}
use Rattle.s2_cover.specs.Covers.{IsSpan}
use Rattle.volume4d.specs.declared.slab.Slab.{Slab}
use Rattle.volume4d.specs.VolumeLimits.{within_altitudes, within_times, within_length}
use Rattle.volume4d.specs.Volume.{WindowParts, is_window, Block}
use Rattle.volume4d.specs.Slab.{span_of, slab_window, AreSlabsOn, AreVolumeSlabs, AreAreaSlabs, IsFilled, AreFilled}
use Rattle.volume4d.proofs.SlabPoints.{slabs_of_push}

before : (a b : ℤ) → int_lt a b ≡ true → a <ℤ b
before a b e = grind (arith, ints)

-- the least altitude of an window stands below the other, and its first second before the other
ordered : (e : WindowParts) → is_window e ≡ true → (e.lower <ℤ e.upper) × (e.start <ℤ e.end)
ordered e is =
    let parts = and_parts (within_altitudes e.lower e.upper) _ is in
    let times = and_parts (within_times e.start e.end) (within_length e.start e.end) parts.1 in
    let high = (and_parts _ (int_lt e.lower e.upper) (and_parts _ _ parts.0).0).1 in
    let late = (and_parts _ (int_lt e.start e.end) (and_parts _ _ times.0).0).1 in
    (before e.lower e.upper high, before e.start e.end late)

filled_each : (e : WindowParts) (slabs : List Slab) → is_window e ≡ true
    → All IsSpan (map span_of slabs)
    → All (λ s. slab_window s ≡ e) slabs → All IsFilled slabs
filled_each e [] is spans windows = All-nil IsFilled
filled_each e (s ∷ rest) is spans windows =
    let same = All-head (λ t. slab_window t ≡ e) s rest windows in
    let span = All-head IsSpan (span_of s) (map span_of rest) spans in
    let order = ordered (slab_window s) (ap is_window same ∙ is) in
    All-cons IsFilled s rest (record { ground = span.ordered; height = order.0; time = order.1 })
    (filled_each e rest is (All-tail IsSpan (span_of s) (map span_of rest) spans)
    (All-tail (λ t. slab_window t ≡ e) s rest windows))

-- slabs of some spans, within the limits
pub filled_on : (spans : List Span) (e : WindowParts) (slabs : List Slab) → is_window e ≡ true
    → 0 < length spans → All IsSpan spans → AreSlabsOn spans e slabs → AreFilled slabs
filled_on spans e slabs is some each on = record {
  some = subst (λ n. 0 < n) (ap length (sym on.each) ∙ length-map slabs span_of) some;
  each = filled_each e slabs is (subst (All IsSpan) (sym on.each) each) on.windows;
}

-- the slabs of the volumes so far, each of which has a point
pub record AreSoFar (volumes : List Block) (slabs : List Slab) : Type 0 where
  pub slabs_of : AreAreaSlabs volumes slabs
  pub each : All IsFilled slabs
  pub some : 0 < length volumes → 0 < length slabs

pub one_more_volume : (volumes : List Block) (count : ℕ) (volume : Block) (slabs more : List Slab)
    → count < length volumes → volume ≡ get_or volumes count volume
    → AreSoFar (take count volumes) slabs → AreVolumeSlabs volume more → AreFilled more
    → AreSoFar (take (count + 1) volumes) (slabs ++ more)
one_more_volume volumes count volume slabs more below is so_far next filled = record {
  slabs_of =
      subst (λ all. AreAreaSlabs all (slabs ++ more))
      (ap (λ v. take count volumes ++ v ∷ []) is ∙ sym (take_more volumes count volume below))
      (slabs_of_push (take count volumes) volume slabs more so_far.slabs_of next);
  each = All-append IsFilled slabs more so_far.each filled.each;
  some = λ any. omega (arith, length-append slabs more, filled.some);
}

-- in whatever order they stand
pub filled_again : (slabs others : List Slab) → IsPermutation slabs others → AreFilled slabs
    → AreFilled others
filled_again slabs others same filled = record {
  some = omega (arith, filled.some, length_permutation slabs others same);
  each = All-permutation IsFilled slabs others same filled.each;
}
