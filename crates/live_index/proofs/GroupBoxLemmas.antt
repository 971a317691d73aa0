-- Bounding boxes of groups.
use Rattle.std.proofs.Common.{◌≡◌, ℕ, zero, suc, ◌+◌, ◌<◌, List, [], ◌∷◌, ◌++◌, take, drop, length, get_or, refl, sym, ap, subst, ◌∙◌, IsPermutation}
use Rattle.std.specs.List.{AllByRecursion}
use Rattle.desk_store.proofs.lemmas.Order.{all_append, all_weaker}
use Rattle.live_index.specs.declared.chunk.Chunk.{Chunk}
use Rattle.live_index.specs.declared.bbox.BoundingBox.{BoundingBox}
use Rattle.live_index.specs.declared.group.Group.{Group}
use Rattle.live_index.specs.declared.volume.LiveVolume.{LiveVolume}
use Rattle.live_index.specs.Live.{AreBoundedChunks, IsInBox, IsBoundedGroup, IsBoundedChunk, volumes_in}
use Rattle.live_index.proofs.ChunkLemmas.{all_permuted}
use Rattle.live_index.proofs.GatherLemmas.{all_at, gathered_more, volumes-append}

pub round_begins : (first : Chunk) (others : List Chunk) → AreBoundedChunks (first ∷ others)
    → AllByRecursion (IsInBox first.bbox) (volumes_in (first ∷ []))
round_begins first others whole = all_append (IsInBox first.bbox) first.volumes.items [] whole.0 tt

-- the bounding box of the chunks so far, joined with that of one more
pub round_more : (first : Chunk) (others : List Chunk) (i : ℕ) (one : Chunk) (old new : BoundingBox)
    → i < length others → one ≡ get_or others i one
    → ((live : LiveVolume) → IsInBox old live → IsInBox new live)
    → ((live : LiveVolume) → IsInBox one.bbox live → IsInBox new live)
    → (AreBoundedChunks (first ∷ others) → AllByRecursion (IsInBox old) (volumes_in (first ∷ take i others)))
    → AreBoundedChunks (first ∷ others) → AllByRecursion (IsInBox new) (volumes_in (first ∷ take (i + 1) others))
round_more first others i one old new below is left right before whole =
    subst (λ vs. AllByRecursion (IsInBox new) (first.volumes.items ++ vs))
    (gathered_more (λ c. c.volumes.items) others i one (volumes_in (take i others))
    (volumes_in (take i others) ++ one.volumes.items) below is refl refl)
    (subst (AllByRecursion (IsInBox new))
    (append_there first.volumes.items (volumes_in (take i others)) one.volumes.items)
    (all_append (IsInBox new) (volumes_in (first ∷ take i others)) one.volumes.items
    (all_weaker (IsInBox old) (IsInBox new) left (volumes_in (first ∷ take i others)) (before whole))
    (all_weaker (IsInBox one.bbox) (IsInBox new) right one.volumes.items
    (subst IsBoundedChunk (sym is) (all_at IsBoundedChunk others i one whole.1 below))))) where
      append_there : (xs ys zs : List LiveVolume) → (xs ++ ys) ++ zs ≡ xs ++ (ys ++ zs)
      append_there [] ys zs = refl
      append_there (x ∷ xs) ys zs = ap (λ vs. x ∷ vs) (append_there xs ys zs)

-- one more volume, for which the bounding box was widened
pub group_bounded_with : (old new : Group) (live : LiveVolume)
    → (AreBoundedChunks old.chunks.items → AreBoundedChunks new.chunks.items)
    → IsPermutation (live ∷ volumes_in old.chunks.items) (volumes_in new.chunks.items)
    → IsInBox new.bbox live → ((other : LiveVolume) → IsInBox old.bbox other → IsInBox new.bbox other)
    → IsBoundedGroup old → IsBoundedGroup new
group_bounded_with old new live each same one kept h = record {
  each = each h.each;
  all = all_permuted (IsInBox new.bbox) (live ∷ volumes_in old.chunks.items) (volumes_in new.chunks.items)
      same
      (one, all_weaker (IsInBox old.bbox) (IsInBox new.bbox) kept (volumes_in old.chunks.items) h.all);
}

take_then : (n : ℕ) (cs : List Chunk) → take n cs ++ drop n cs ≡ cs
take_then zero cs = refl
take_then (suc n) [] = refl
take_then (suc n) (c ∷ cs) = ap (λ ds. c ∷ ds) (take_then n cs)

pub halved : (n : ℕ) (old front back : List Chunk) → front ≡ take n old → back ≡ drop n old
    → volumes_in old ≡ volumes_in front ++ volumes_in back
halved n old front back is are = ap volumes_in (sym (take_then n old))
    ∙ volumes-append (λ c. c.volumes.items) (take n old) (drop n old)
    ∙ (λ i. volumes_in (sym is i) ++ volumes_in (sym are i))
