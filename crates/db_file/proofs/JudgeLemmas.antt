-- What is said of a whole log.
use Rattle.std.proofs.Common.{◌≡◌, inl, inr, ℕ, suc, ◌<◌, List, ◌++◌, length, drop, Option, None, Some, Result, Ok, Err, IfOk, IfSome, sym, ap, ◌∙◌, subst, arith, drop_at}
use Rattle.std.proofs.lemmas.Bool.{leb-true, true≢false}
use Rattle.std.proofs.lemmas.Bool.Decides.{leb_tells}
use Rattle.std.proofs.lemmas.List.{take_at}
use Rattle.std.specs.Io.KnownBytes.{Consumes}
use Rattle.sqlite_wal.specs.Format.{part, be32, IsHeader}
use Rattle.sqlite_wal.specs.PageSize.{IsPageSize}
use Rattle.sqlite_wal.specs.Recovery.{frame_at, header}
use Rattle.sqlite_wal.proofs.PartLemmas.{frames_len-zero}
use Rattle.db_file.specs.declared.judging.WalState.{WalState}
use Rattle.db_file.specs.declared.judging.WalState.TheVariants.{Damaged, Sound}
use Rattle.db_file.specs.Wal.{IsDamaged, IsDamagedAt, IsStateOf, ends_in, IsAllTaken, IsBefore, IsStop, IsStopState, LosesCommits}
use Rattle.db_file.proofs.DamageLemmas.{first_whole, is_at_stop, one_run, whole_before}

-- the header and what follows it
header_of : (head rest : List ℕ) → length head ≡ 32 → header (head ++ rest) ≡ head
unfolding part
header_of head rest len = take_at head rest 32 len

first_of : (page : ℕ) (head rest : List ℕ) → length head ≡ 32 → IsBefore page (head ++ rest) 0 (Some rest)
first_of page head rest len =
    let at : frame_at page 0 ≡ 32 = omega (arith, frames_len-zero page) in
    ap Some (sym (ap (λ n. drop n (head ++ rest)) at ∙ drop_at head rest 32 len))

-- what is said of the bytes behind the header is said of all
pub reported_of_all : {E : Type 0} (page : ℕ) (head : List ℕ) (old new : Option (List ℕ)) (r : Result WalState E)
    → length head ≡ 32 → Consumes old new head
    → ((bytes : List ℕ) → header bytes ≡ head → IsBefore page bytes 0 new → IfOk r (IsStateOf bytes))
    → IfOk r (λ verdict. IfSome old (λ bytes. IsStateOf bytes verdict))
reported_of_all page head old new (Err e) len taken reported = tt
reported_of_all page head None new (Ok verdict) len taken reported = tt
reported_of_all page head (Some bytes) None (Ok verdict) len taken reported = absurd taken
reported_of_all page head (Some bytes) (Some rest) (Ok verdict) len taken reported =
    subst (λ b. IsStateOf b verdict) (sym taken)
    (reported (head ++ rest) (header_of head rest len) (first_of page head rest len))

-- a log with no header of one is sound
pub no_log : (head : List ℕ) (old new : Option (List ℕ)) → length head ≡ 32 → Consumes old new head
    → (IsHeader (be32 head 8) head → ¬ IsPageSize (be32 head 8)) → IfSome old (λ bytes. IsStateOf bytes Sound)
no_log head None new len taken none = tt
no_log head (Some bytes) None len taken none = absurd taken
no_log head (Some bytes) (Some rest) len taken none =
    let same : header bytes ≡ head = ap header taken ∙ header_of head rest len in
    λ stop commits damaged.
    subst (λ h. IsHeader (be32 h 8) h → ¬ IsPageSize (be32 h 8)) (sym same) none damaged.head damaged.size

-- nor is one that ends inside its header
pub too_short : (old : Option (List ℕ)) (room : List ℕ) → length room ≡ 32
    → IfSome old (λ bytes. length bytes < length room) → IfSome old (λ bytes. IsStateOf bytes Sound)
too_short None room len short = tt
too_short (Some bytes) room len short =
    λ stop commits damaged. absurd
    (omega (arith, len, short, leb-true _ _ (first_whole _ bytes stop commits damaged)))

module _ (page : ℕ) (log head : List ℕ) (same : header log ≡ head) (is_head : IsHeader page head)
    (size : IsPageSize page) where
  page_is : be32 (header log) 8 ≡ page
  page_is = ap (λ h. be32 h 8) same ∙ is_head.size

  with_page : (stop commits : ℕ) → IsDamaged log stop commits → IsDamagedAt page log stop commits
  with_page stop commits = subst (λ p. IsDamagedAt p log stop commits) page_is

  -- nor is one of which recovery takes each whole frame
  pub all_taken : IsAllTaken page log → IsStateOf log Sound
  all_taken taken stop commits damaged =
      let whole = first_whole page log stop commits (with_page stop commits damaged) in
      elim (leb_tells (suc stop) taken.0) [
        | inl h ↦ (with_page stop commits damaged).refused (taken.2 stop h.1)
        | inr h ↦ true≢false (sym (whole_before page log taken.0 stop (omega (arith, h.1)) whole) ∙ taken.1)
      ]

  counted_once : (n commits others : ℕ) → IsDamagedAt page log n commits → LosesCommits page log n others
      → commits ≡ others
  counted_once n commits others damaged counted =
      let run = one_run page log n damaged.frames counted.frames damaged.run counted.run in
      damaged.lost ∙ ap (ends_in page log n) run ∙ sym counted.lost

  -- what is said of a log in which recovery stops at frame n
  pub reported_at : {E : Type 0} (n : ℕ) (room : List ℕ) (left : Option (List ℕ)) (r : Result WalState E)
      → IsStop page log n room left
      → IfOk r (IsStopState page log n) → IfOk r (IsStateOf log)
  reported_at n room left (Err e) at reported = tt
  reported_at n room left (Ok Sound) at reported =
      λ stop commits damaged.
      let here = is_at_stop page log stop n commits (with_page stop commits damaged) at.taken at.refused in
      let there = subst (λ k. IsDamagedAt page log k commits) here (with_page stop commits damaged) in
      omega (arith, counted_once n commits reported.0 there reported.1, reported.2, there.several)
  reported_at n room left (Ok (Damaged stop commits)) at reported =
      let there : IsDamagedAt page log n commits =
      record {
        head = subst (IsHeader page) (sym same) is_head;
        size = size;
        taken = at.taken;
        refused = at.refused;
        frames = reported.1.frames;
        run = reported.1.run;
        lost = reported.1.lost;
        several = reported.2;
      } in
      subst (λ p. IsDamagedAt p log stop commits) (sym page_is)
      (subst (λ k. IsDamagedAt page log k commits) (sym reported.0) there)
