use Rattle.std.proofs.Common.{◌∙◌}
use Rattle.desk_store.proofs.lemmas.Held.{top_held-permutation}
use Rattle.desk_run.proofs.pending.pieces.cut_in_order.Goals as goal

pub returns : goal.returns
returns c x =
    top_held-permutation c.cut_all.new.helds c.sort_unstable_by_key.new.self x
    c.sort_unstable_by_key.ensures.permutation ∙ c.cut_all.ensures x
