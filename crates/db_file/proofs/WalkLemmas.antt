-- Steps from one frame of a log to the next.
use Rattle.std.proofs.Common.{◌≡◌, ℕ, suc, ◌+◌, ◌-◌, ◌<◌, inl, inr, Bool, true, false, List, ◌++◌, length, take, drop, Option, Some, None, Result, Ok, Err, IfOk, IfSome, refl, sym, ap, ◌∙◌, subst, arith, length-append, length-drop, drop_at, drop-drop, add-one}
use Rattle.std.proofs.lemmas.Bool.{le-leb, leb-true}
use Rattle.std.proofs.lemmas.Bool.Decides.{leb_tells}
use Rattle.std.proofs.lemmas.List.{take_at}
use Rattle.std.specs.Io.KnownBytes.{Consumes}
use Rattle.sqlite_wal.specs.Format.{part, stored_sum, IsFrame}
use Rattle.sqlite_wal.specs.Recovery.{Passes, frame_at, header, sum_before}
use Rattle.sqlite_wal.proofs.PartLemmas.{frames_len-suc}
use Rattle.db_file.specs.Wal.{is_frame_whole, HasFrame, IsBefore, IsNext}

-- recovery accepts the first n frames, and `sum` is the checksum that the next frame continues
pub record IsFollowed (page : ℕ) (log : List ℕ) (n : ℕ) (sum : ℕ × ℕ) : Type 0 where
  pub taken : (i : ℕ) → i < n → Passes page log i
  pub same : sum ≡ sum_before page log n

module _ (page n : ℕ) (log room : List ℕ) (len : length room ≡ 24 + page) where
  -- the bytes of a frame stand in front of those that follow it
  frame_there : (rest : List ℕ) → drop (frame_at page n) log ≡ room ++ rest
      → HasFrame page log n room (Some rest)
  unfolding part
  frame_there rest split =
      let sizes = length-append room rest in
      let left = length-drop (frame_at page n) log in
      let total : length log - frame_at page n ≡ length room + length rest = sym left ∙ ap length split
      ∙ sizes in
      let further : frame_at page (suc n) ≡ frame_at page n + (24 + page) =
      omega (arith, frames_len-suc page n) in
      record {
        whole = le-leb _ _ (omega (arith, total, len));
        same = sym (ap (take (24 + page)) split ∙ take_at room rest (24 + page) len);
        behind = ap Some (sym (
            ap (λ k. drop k log) further
            ∙ sym (drop-drop (24 + page) (frame_at page n) log)
            ∙ ap (drop (24 + page)) split
            ∙ drop_at room rest (24 + page) len));
      }

  -- what was consumed from frame n on is that frame
  frame_read : (new : Option (List ℕ)) → Consumes (Some (drop (frame_at page n) log)) new room
      → HasFrame page log n room new
  frame_read None taken = absurd taken
  frame_read (Some rest) taken = frame_there rest taken

  -- too few bytes are left for frame n
  too_short : length (drop (frame_at page n) log) < length room → is_frame_whole page log n ≡ false
  too_short short =
      let left = length-drop (frame_at page n) log in
      elim (leb_tells (frame_at page n + (24 + page)) (length log)) [
        | inl h ↦ absurd (omega (arith, left, h.1, short, len))
        | inr h ↦ h.0
      ]

  -- frame n was read whole, or it is not whole
  pub next_read : {E : Type 0} (old new : Option (List ℕ)) (r : Result Bool E)
      → IfOk r (λ whole. whole ≡ true → Consumes old new room)
      → IfOk r (λ whole. whole ≡ false → IfSome old (λ rest. length rest < length room))
      → IsBefore page log n old → IfOk r (IsNext page log n room new)
  next_read old new (Err e) whole short before = tt
  next_read old new (Ok true) whole short before =
      frame_read new (subst (λ o. Consumes o new room) before (whole refl))
  next_read old new (Ok false) whole short before =
      too_short (subst (λ o. IfSome o (λ rest. length rest < length room)) before (short refl))

module _ (page n : ℕ) (log head room : List ℕ) (sum : ℕ × ℕ) (left : Option (List ℕ))
    (same : header log ≡ head) (so_far : IsFollowed page log n sum)
    (next : HasFrame page log n room left) where
  passes : IsFrame head sum room → Passes page log n
  passes taken = record {
    within = leb-true _ _ next.whole;
    passes = subst (λ f. IsFrame (header log) (sum_before page log n) f) next.same
        (subst (λ s. IsFrame (header log) s room) so_far.same
        (subst (λ h. IsFrame h sum room) (sym same) taken));
  }

  same_place : (i : ℕ) → i < suc n → n < suc i → n ≡ i
  same_place i low above = omega arith

  follows : IsFrame head sum room → IsFollowed page log (suc n) (stored_sum room 16)
  follows taken = record {
    taken = λ i low. elim (leb_tells (suc i) n) [
      | inl h ↦ so_far.taken i h.1
      | inr h ↦ subst (Passes page log) (same_place i low h.1) (passes taken)
    ];
    same = ap (λ f. stored_sum f 16) next.same;
  }

  -- recovery takes one more frame
  pub follows_on : (after : ℕ × ℕ) → after ≡ stored_sum room 16 → IsFrame head sum room
      → IsFollowed page log (n + 1) after × IsBefore page log (n + 1) left
  follows_on after is taken =
      let further = sym (add-one n) in (
        subst (λ k. IsFollowed page log k after) further
            (subst (IsFollowed page log (suc n)) (sym is) (follows taken)),
        subst (λ k. IsBefore page log k left) further next.behind,
      )
