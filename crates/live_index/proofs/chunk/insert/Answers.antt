use Rattle.std.proofs.lemmas.List.Sorted.{IsPermutation-cons, IsPermutation-trans}
use Rattle.std.proofs.lemmas.Result.{on_err_weaker, on_ok_weaker}
use Rattle.live_index.specs.Live.{volumes_in}
use Rattle.live_index.proofs.chunk.insert.Goals as goal

pub returns-clause-added : goal.returns-clause-added
returns-clause-added c =
    on_ok_weaker c.add.result (λ h. IsPermutation-trans _ _ _
    (IsPermutation-cons c.args.live.now (volumes_in c.args.chunks.now.items)
    (volumes_in c.make_room.new.chunks.items) c.in_ok-make_room.ensures.same) h) c.add.ensures.added

pub returns-clause-kept : goal.returns-clause-kept
returns-clause-kept c =
    on_err_weaker c.add.result (λ h. IsPermutation-trans _ _ _ c.in_ok-make_room.ensures.same h)
    c.add.ensures.kept
