-- Bytes that are read into a part of a room.
use Rattle.std.proofs.Common.{◌≡◌, ℕ, ◌+◌, ◌-◌, ◌*◌, ◌≤◌, List, ◌++◌, arith, length, take, sym, ap, ◌∙◌, subst, refl, le_refl, drop_at, length-take-le, length-append, Option, None, Some}
use Rattle.std.proofs.lemmas.Slice.{take-put_mid_below}
use Rattle.std.specs.Io.KnownBytes.{Consumes}
use Rattle.std.proofs.KnownBytes.{Consumes-trans}
use Rattle.db_file.specs.Wal.{HasRead}
use borrow.Rule.Slice.PartMut.{put_mid, post_of}
use lib.Seq.{take-add, take-append-le}

-- the bytes that were taken stand in the room up to here
pub record Reached (a c : Option (List ℕ)) (room : List ℕ) (count : ℕ) : Type 0 where
  pub within : count ≤ length room
  pub taken : Consumes a c (take count room)

module _ (from : ℕ) (old part : List ℕ) (a b c : Option (List ℕ)) (before : Reached a b old from) where
  room_left : from ≤ length (put_mid from (length old - from) old part)
      × (from + length part ≤ length (put_mid from (length old - from) old part))
  room_left =
      let after = post_of from (length old - from) old in
      let parts = length-append (take from old) (part ++ after) in
      let behind = length-append part after in
      let front = length-take-le from old before.within in
      (omega (arith, parts, behind, front), omega (arith, parts, behind, front))

  joined : (count : ℕ) → count ≤ length part → take from old ++ take count part
      ≡ take (from + count) (put_mid from (length old - from) old part)
  joined count fits =
      let new = put_mid from (length old - from) old part in
      let front = take-put_mid_below from (length old - from) old part from (le_refl from) before.within in
      let after = post_of from (length old - from) old in
      let front_len = length-take-le from old before.within in
      let behind = ap (take count) (drop_at (take from old) (part ++ after) from front_len)
      ∙ take-append-le count part after fits in
      ap (λ l. l ++ take count part) (sym front)
      ∙ ap (λ l. take from new ++ l) (sym behind)
      ∙ sym (take-add from count new)

  -- so many bytes were read into the part of the room that was left
  pub more_taken : (count : ℕ) → count ≤ length part → Consumes b c (take count part)
      → Reached a c (put_mid from (length old - from) old part) (from + count)
  more_taken count fits taken =
      record {
        within = omega (arith, room_left.1);
        taken = subst (Consumes a c) (joined count fits) (Consumes-trans a b c _ _ before.taken taken);
      }

-- nothing was read yet
pub begins_read : (left : Option (List ℕ)) → HasRead left left 0
begins_read None = tt
begins_read (Some left) = omega arith

-- a frame more was read
pub frame_more : (old mid now : Option (List ℕ)) (frame : List ℕ) (n : ℕ) → HasRead old mid (24 * n)
    → 24 ≤ length frame → Consumes mid now frame → HasRead old now (24 * (n + 1))
frame_more None mid now frame n so_far long taken = tt
frame_more (Some old) None now frame n so_far long taken = absurd so_far
frame_more (Some old) (Some mid) None frame n so_far long taken = absurd taken
frame_more (Some old) (Some mid) (Some now) frame n so_far long taken =
    omega (arith, so_far, long, ap length taken, length-append frame now)
