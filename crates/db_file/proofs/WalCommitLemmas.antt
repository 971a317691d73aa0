-- What a commit that recovery takes says of its log.
use Rattle.std.proofs.Common.{◌≡◌, ◌∙◌, inl, inr, ℕ, ◌+◌, ◌-◌, ◌≤◌, ◌==◌, Bool, true, false, not, IsTrue, List, [], ◌∷◌, length, ap, refl, subst, sym, arith}
use Rattle.std.proofs.Math.Dec.{eqb-suc-zero}
use Rattle.std.proofs.lemmas.Bool.{true≢false}
use Rattle.sqlite_wal.specs.PageSize.{IsPageSize}
use Rattle.sqlite_wal.specs.Recovery.{AreFramesOf, IsCommitted, IsIgnored, IsLast, Replays}
use Rattle.sqlite_wal.proofs.PartLemmas.{frames_len-zero}
use Rattle.db_file.specs.Wal.{HasCommit, least_with_commit}

-- a log of which recovery takes a frame has all of its header, and of the frame
long_if_committed : (page frames : ℕ) (log : List ℕ) → 1 ≤ frames → IsCommitted page log frames
    → 56 + page ≤ length log
long_if_committed page frames log some committed =
    omega (arith, (committed.valid 0 some).within, frames_len-zero page)

long_if_taken : (page frames : ℕ) (log : List ℕ) → 1 ≤ frames → Replays page log frames
    → 56 + page ≤ length log
long_if_taken page frames log some (inl none) = absurd (omega (arith, some, none.1))
long_if_taken page frames log some (inr taken) = long_if_committed page frames log some taken.0

-- and so it has the bytes of a header and of a frame of the smallest pages
pub long : (log : List ℕ) → HasCommit log → least_with_commit ≤ length log
long log has =
    omega (arith, long_if_taken has.page has.frames log has.some has.taken, has.size.0)

-- where recovery takes a frame there is a commit
pub some_taken : (page : ℕ) (log numbers : List ℕ) → IsPageSize page → AreFramesOf page log numbers
    → 1 ≤ length numbers → HasCommit log
some_taken page log numbers size are some =
    record { page = page; size = size; frames = length numbers; some = some; taken = are.0 }

module _ (page frames : ℕ) (log : List ℕ) (some : 1 ≤ frames) (committed : IsCommitted page log frames) where
  taken_if_signed : ¬ IsIgnored log
  taken_if_signed (inl short) = omega (arith, short, long_if_committed page frames log some committed)
  taken_if_signed (inr unsigned) = unsigned committed.head.signed

  -- its last frame commits, and so no size of a page leaves it out
  not_last : ¬ IsLast page log 0
  not_last last =
      let behind : (frames - 1) + 1 ≡ frames = omega (arith, some) in
      committed.commits (frames - 1) behind
      (last.quiet (frames - 1) (omega arith) (λ i low. committed.valid i (omega (arith, low, some))))

  not_none : (other : ℕ) → ¬ Replays other log 0
  not_none other (inl none) = taken_if_signed none.0
  not_none other (inr none) =
      let same : other ≡ page = sym none.0.head.size ∙ committed.head.size in
      not_last (subst (λ size. IsLast size log 0) same none.1)

-- where it takes none there is none
pub none_taken : (page : ℕ) (log : List ℕ) → Replays page log 0 → ¬ HasCommit log
none_taken page log none has = without has.taken
  where
    without : Replays has.page log has.frames → ⊥
    without (inl ignored) = omega (arith, has.some, ignored.1)
    without (inr taken) = not_none has.page has.frames log has.some taken.0 page none

-- so there is one exactly if recovery takes a frame
pub taken_iff : (page count : ℕ) (log numbers : List ℕ) (is_empty : Bool) → IsPageSize page
    → AreFramesOf page log numbers → length numbers ≡ count → is_empty ≡ (count == 0)
    → (IsTrue (not is_empty) → HasCommit log) × (HasCommit log → IsTrue (not is_empty))
taken_iff page count log [] is_empty size are counted is =
    let empty : is_empty ≡ true = is ∙ ap (λ n. n == 0) (sym counted) in (
      λ some. absurd (true≢false (sym (subst (λ b. IsTrue (not b)) empty some))),
      λ has. absurd (none_taken page log are.0 has),
    )
taken_iff page count log (number ∷ more) is_empty size are counted is =
    let some : is_empty ≡ false = is ∙ ap (λ n. n == 0) (sym counted) ∙ eqb-suc-zero (length more) in (
      λ taken. some_taken page log (number ∷ more) size are (omega arith),
      λ has. subst (λ b. IsTrue (not b)) (sym some) refl,
    )
