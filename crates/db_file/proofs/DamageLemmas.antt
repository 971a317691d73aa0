-- What a damaged log is, and what is none.
use Rattle.std.proofs.Common.{◌≡◌, inl, inr, ℕ, zero, suc, ◌+◌, ◌-◌, ◌<◌, ◌≤◌, true, false, List, [], length, refl, sym, ap, ap₂, ◌∙◌, subst, arith, add-zero}
use Rattle.std.proofs.lemmas.Bool.{leb-true, le-leb, true≢false, and_parts, and_from}
use Rattle.std.proofs.lemmas.Bool.Decides.{leb_tells}
use Rattle.std.proofs.lemmas.Slice.Eq.{bytes_eq-Decides}
use Rattle.sqlite_wal.specs.Recovery.{Passes, frame, frame_at}
use Rattle.sqlite_wal.proofs.PartLemmas.{frames_len-le, frames_len-suc, frames_len-zero}
use Rattle.db_file.specs.Wal.{IsDamaged, IsDamagedAt, IsRunOfFrames, ends_commit, ends_in, is_frame_whole, is_salted}
use Rattle.db_file.proofs.CountLemmas.{one_at_most, one_if}

module _ (page : ℕ) (log : List ℕ) where
  -- a frame before one that is whole is whole
  pub whole_before : (i j : ℕ) → i ≤ j → is_frame_whole page log j ≡ true → is_frame_whole page log i ≡ true
  whole_before i j before whole =
      le-leb _ _ (omega (arith, leb-true _ _ whole, frames_len-le page i j before))

  -- a frame that recovery takes has the log's salts
  pub salted_if_taken : (i : ℕ) → Passes page log i → is_salted page log i ≡ true
  salted_if_taken i passes = and_from _ _ (le-leb _ _ passes.within)
      ((bytes_eq-Decides _ _).1 passes.passes.salt)

  -- a run in which a commit ends is not empty
  some_frames : (stop frames commits : ℕ) → IsRunOfFrames page log stop frames
      → commits ≡ ends_in page log stop frames → 2 ≤ commits
      → is_salted page log stop ≡ true
  unfolding ends_in
  some_frames stop zero commits run lost several = absurd (omega (arith, lost, several))
  some_frames stop (suc n) commits run lost several =
      subst (λ k. is_salted page log k ≡ true) (add-zero stop) (run.salted 0 (omega arith))

  pub first_salted : (stop commits : ℕ) → IsDamagedAt page log stop commits → is_salted page log stop ≡ true
  first_salted stop commits damaged = some_frames stop _ commits damaged.run damaged.lost damaged.several

  pub first_whole : (stop commits : ℕ) → IsDamagedAt page log stop commits → is_frame_whole page log stop
      ≡ true
  first_whole stop commits damaged = (and_parts _ _ (first_salted stop commits damaged)).0

  -- a run has one length
  pub one_run : (stop n m : ℕ) → IsRunOfFrames page log stop n → IsRunOfFrames page log stop m → n ≡ m
  one_run stop n m run other =
      elim (leb_tells (suc n) m) [
        | inl h ↦ absurd (true≢false (sym (other.salted n h.1) ∙ run.ended))
        | inr h ↦ elim (leb_tells (suc m) n) [
          | inl k ↦ absurd (true≢false (sym (run.salted m k.1) ∙ other.ended))
          | inr k ↦ omega (arith, h.1, k.1)
        ]
      ]

  -- and ends at a frame without the salts
  run_within : (stop last n : ℕ) → IsRunOfFrames page log stop n → stop < last → is_salted page log last
      ≡ false
      → stop + n ≤ last
  run_within stop last n run before unsalted =
      elim (leb_tells (stop + n) last) [
        | inl h ↦ h.1
        | inr h ↦
            let place : stop + (last - stop) ≡ last = omega (arith, before) in
            let salted = run.salted (last - stop) (omega (arith, h.1, before)) in
            absurd (true≢false (sym salted ∙ ap (is_salted page log) place ∙ unsalted))
      ]

  -- recovery stops at one place
  pub is_at_stop : (stop n commits : ℕ) → IsDamagedAt page log stop commits
      → ((i : ℕ) → i < n → Passes page log i)
      → ¬ Passes page log n → stop ≡ n
  is_at_stop stop n commits damaged taken refused =
      elim (leb_tells (suc stop) n) [
        | inl h ↦ absurd (damaged.refused (taken stop h.1))
        | inr h ↦ elim (leb_tells (suc n) stop) [
          | inl k ↦ absurd (refused (damaged.taken n k.1))
          | inr k ↦ omega (arith, h.1, k.1)
        ]
      ]

  -- where recovery takes the first frames, it stops behind them
  behind_taken : (stop first commits : ℕ) → IsDamagedAt page log stop commits
      → ((i : ℕ) → i < first → Passes page log i)
      → first ≤ stop
  behind_taken stop first commits damaged taken =
      elim (leb_tells first stop) [
        | inl h ↦ h.1
        | inr h ↦ absurd (damaged.refused (taken stop h.1))
      ]

  -- and not behind a frame without the salts
  before_unsalted : (stop last commits : ℕ) → IsDamagedAt page log stop commits
      → is_salted page log last ≡ false → stop < last
  before_unsalted stop last commits damaged unsalted =
      elim (leb_tells (suc stop) last) [
        | inl h ↦ h.1
        | inr h ↦ elim (leb_tells (suc last) stop) [
          | inl k ↦ absurd (true≢false (sym (salted_if_taken last (damaged.taken last k.1)) ∙ unsalted))
          | inr k ↦
              let same : last ≡ stop = omega (arith, h.1, k.1) in
              absurd (true≢false (sym (first_salted stop commits damaged)
              ∙ subst (λ k. is_salted page log k ≡ false) same unsalted))
        ]
      ]

  pub shut : (first stop commits : ℕ) → ((i : ℕ) → i < first → Passes page log i)
      → is_salted page log first ≡ false
      → ¬ IsDamagedAt page log stop commits
  shut first stop commits taken unsalted damaged =
      omega (
        arith,
        behind_taken stop first commits damaged taken,
        before_unsalted stop first commits damaged unsalted,
      )

  module _ (first last : ℕ) (none : (i : ℕ) → first ≤ i → i < last → ends_commit (frame page log i) ≡ false)
    where
      no_end : (stop n : ℕ) → first ≤ stop → stop + n ≤ last → ends_in page log stop n ≡ 0
      unfolding ends_in
      no_end stop zero low high = refl
      no_end stop (suc n) low high =
          ap₂ (λ x y. x + y) (no_end stop n low (omega (arith, high)))
          (ap one_if (none (stop + n) (omega (arith, low)) (omega (arith, high))))

      one_end : (stop n : ℕ) → first ≤ stop → stop + n ≤ suc last → ends_in page log stop n ≤ 1
      unfolding ends_in
      one_end stop zero low high = omega arith
      one_end stop (suc n) low high =
          omega (
            arith,
            no_end stop n low (omega (arith, high)),
            one_at_most (ends_commit (frame page log (stop + n))) _ refl,
          )

      pub torn : (stop commits : ℕ) → ((i : ℕ) → i < first → Passes page log i)
          → is_salted page log (suc last) ≡ false
          → ¬ IsDamagedAt page log stop commits
      torn stop commits taken unsalted damaged =
          let low = behind_taken stop first commits damaged taken in
          let high = before_unsalted stop (suc last) commits damaged unsalted in
          let short = run_within stop (suc last) damaged.frames damaged.run high unsalted in
          let few = one_end stop damaged.frames low short in
          omega (arith, few, damaged.lost, damaged.several)

-- no more commits end in a run than it has frames
few_ends : (page : ℕ) (log : List ℕ) (stop n : ℕ) → ends_in page log stop n ≤ n
unfolding ends_in
few_ends page log stop zero = omega arith
few_ends page log stop (suc n) =
    omega (arith, few_ends page log stop n, one_at_most (ends_commit (frame page log (stop + n))) _ refl)

pub long : (page : ℕ) (log : List ℕ) (stop commits : ℕ) → IsDamagedAt page log stop commits
    → 1104 ≤ length log
long page log stop commits damaged =
    let few = few_ends page log stop damaged.frames in
    let two : 2 ≤ damaged.frames = omega (arith, few, damaged.lost, damaged.several) in
    let second = damaged.run.salted 1 two in
    let fits : frame_at page (stop + 1) + (24 + page) ≤ length log = leb-true _ _ (and_parts _ _ second).0 in
    let behind = frames_len-le page 1 (stop + 1) (omega arith) in
    omega (arith, fits, behind, frames_len-suc page 0, frames_len-zero page, damaged.size.0)

pub empty : (stop commits : ℕ) → ¬ IsDamaged [] stop commits
empty stop commits damaged = absurd (omega (arith, leb-true _ _ (first_whole _ [] stop commits damaged)))

pub good : (page : ℕ) (log : List ℕ) (stop commits : ℕ)
    → ((i : ℕ) → is_frame_whole page log i ≡ true → Passes page log i)
    → ¬ IsDamagedAt page log stop commits
good page log stop commits taken damaged = damaged.refused
    (taken stop (first_whole page log stop commits damaged))
