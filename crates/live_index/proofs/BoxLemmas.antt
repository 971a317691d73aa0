-- What lies within a bounding box.
use Rattle.std.proofs.Common.{◌≡◌, ℕ, ◌+◌, ◌≤◌, ◌<◌, List, [], ◌∷◌, ◌++◌, take, length, get_or, sym, ap, subst, ◌∙◌, arith}
use Rattle.std.specs.List.{AllByRecursion}
use Rattle.std.proofs.lemmas.List.{take_more}
use Rattle.volume4d.specs.declared.slab.Slab.{Slab}
use Rattle.volume4d.specs.Slab.{IsJoin}
use Rattle.volume4d.proofs.lemmas.Bounds.{left_in, right_in, within_itself, within_through}
use Rattle.desk_store.proofs.lemmas.Order.{all_weaker, all_append}
use Rattle.live_index.specs.declared.bbox.BoundingBox.{BoundingBox}
use Rattle.live_index.specs.declared.volume.LiveVolume.{LiveVolume}
use Rattle.live_index.specs.Live.{IsInBox}

pub in_box_alone : (live : LiveVolume) → IsInBox (record { bounds = live.bounds; top = live.priority }) live
in_box_alone live = record { within = within_itself live.bounds; top = omega arith }

-- a bounding box that is widened by one more volume encloses those before and that one
pub in_box_more : (first : LiveVolume) (more : List LiveVolume) (i : ℕ) (live : LiveVolume) (old new : BoundingBox)
    → i < length more → live ≡ get_or more i live
    → AllByRecursion (IsInBox old) (first ∷ take i more) → IsInBox new live
    → ((other : LiveVolume) → IsInBox old other → IsInBox new other)
    → AllByRecursion (IsInBox new) (first ∷ take (i + 1) more)
in_box_more first more i live old new below is before one kept =
    subst (λ xs. AllByRecursion (IsInBox new) (first ∷ xs))
    (ap (λ x. take i more ++ x ∷ []) is ∙ sym (take_more more i live below)) (
      kept first before.0,
      all_append (IsInBox new) (take i more) (live ∷ [])
          (all_weaker (IsInBox old) (IsInBox new) kept (take i more) before.1) (one, tt),
    )

-- what lay within a bounding box lies within its join with another
pub in_box_left : (old : BoundingBox) (right slab : Slab) (top : ℕ) (live : LiveVolume)
    → IsJoin old.bounds right slab → old.top ≤ top → IsInBox old live
    → IsInBox (record { bounds = slab; top = top }) live
in_box_left old right slab top live join above h = record {
  within = within_through live.bounds old.bounds slab h.within (left_in old.bounds right slab join);
  top = omega (arith, h.top, above);
}

pub in_box_right : (left : Slab) (old : BoundingBox) (slab : Slab) (top : ℕ) (live : LiveVolume)
    → IsJoin left old.bounds slab → old.top ≤ top → IsInBox old live
    → IsInBox (record { bounds = slab; top = top }) live
in_box_right left old slab top live join above h = record {
  within = within_through live.bounds old.bounds slab h.within (right_in left old.bounds slab join);
  top = omega (arith, h.top, above);
}

-- volumes within a bounding box, and one more
pub in_box_with : (old new : BoundingBox) (live : LiveVolume) (xs ys : List LiveVolume) → ys ≡ xs ++ live ∷ []
    → IsInBox new live → ((other : LiveVolume) → IsInBox old other → IsInBox new other)
    → AllByRecursion (IsInBox old) xs → AllByRecursion (IsInBox new) ys
in_box_with old new live xs ys is one kept h = subst (AllByRecursion (IsInBox new)) (sym is)
    (all_append (IsInBox new) xs (live ∷ []) (all_weaker (IsInBox old) (IsInBox new) kept xs h) (one, tt))

-- volumes within two bounding boxes, which were joined
pub in_box_both : (old next new : BoundingBox) (xs ys zs : List LiveVolume) → zs ≡ xs ++ ys
    → ((live : LiveVolume) → IsInBox old live → IsInBox new live)
    → ((live : LiveVolume) → IsInBox next live → IsInBox new live)
    → AllByRecursion (IsInBox old) xs → AllByRecursion (IsInBox next) ys → AllByRecursion (IsInBox new) zs
in_box_both old next new xs ys zs is left right h k = subst (AllByRecursion (IsInBox new)) (sym is)
    (all_append (IsInBox new) xs ys (all_weaker (IsInBox old) (IsInBox new) left xs h)
    (all_weaker (IsInBox next) (IsInBox new) right ys k))
