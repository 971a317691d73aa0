use Rattle.std.proofs.Common.{rules}
use Rattle.std.proofs.lemmas.List.Sorted.{IsNonDecreasingBy-from_sort_by_key}
use Rattle.desk_store.proofs.lemmas.Held.{top_held-permutation}
use Rattle.desk_store.proofs.list.in_order.Goals as goal

pub returns-clause-same : goal.returns-clause-same
returns-clause-same c x =
    top_held-permutation c.args.helds.items c.sort_unstable_by_key.new.self.items x
    c.sort_unstable_by_key.ensures.permutation

pub returns-clause-order : goal.returns-clause-order
returns-clause-order c =
    IsNonDecreasingBy-from_sort_by_key (λ h. h.slab.first) _ c.sort_unstable_by_key.ensures.sorted
    (λ a r q k. search rules)
