use Rattle.std.proofs.Common.{◌∷◌, IsPermutation, subst}
use Rattle.std.proofs.lemmas.Result.{on_err_weaker, on_ok_weaker}
use Rattle.live_index.specs.Live.{volumes_under}
use Rattle.live_index.proofs.group.insert.Goals as goal

pub returns-clause-added : goal.returns-clause-added
returns-clause-added c =
    on_ok_weaker c.add.result (λ h. subst (λ vs. IsPermutation (c.args.live.now ∷ vs)
    (volumes_under c.add.new.groups.items)) c.in_ok-make_room.ensures.same h) c.add.ensures.added

pub returns-clause-kept : goal.returns-clause-kept
returns-clause-kept c =
    on_err_weaker c.add.result (λ h. subst (λ vs. IsPermutation vs
    (volumes_under c.add.new.groups.items)) c.in_ok-make_room.ensures.same h) c.add.ensures.kept
