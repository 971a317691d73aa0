-- What is left of a list of slabs after its first cluster.
use Rattle.std.proofs.Common.{List, sym, subst}
use Rattle.std.specs.List.{All}
use Rattle.std.proofs.lemmas.List.Elements.{All-drop}
use Rattle.std.proofs.lemmas.List.Sorted.{IsNonDecreasingBy-drop}
use Rattle.volume4d.specs.declared.slab.Slab.{Slab}
use Rattle.volume4d.specs.Slab.{IsFilled, IsCluster}
use Rattle.volume4d.specs.Sweep.{Ascend}

module _ (slabs cluster later : List Slab) (split : IsCluster slabs cluster later) where
  pub later_filled : All IsFilled slabs → All IsFilled later
  later_filled each = subst (All IsFilled) (sym split.later_is) (All-drop IsFilled split.count slabs each)

  pub later_order : Ascend (λ s. s) slabs → Ascend (λ s. s) later
  later_order order =
      subst (Ascend (λ s. s)) (sym split.later_is)
      (IsNonDecreasingBy-drop (λ s. s.first) split.count slabs order)
