use Rattle.std.proofs.Common.{◌<◌, ◌∷◌, ◌∙◌, IsPermutation, length, rules, subst}
use Rattle.std.proofs.lemmas.Result.{on_err_weaker, on_ok_weaker}
use Rattle.live_index.specs.declared.group.Group.{Group}
use Rattle.live_index.specs.Live.{volumes_in}
use Rattle.live_index.proofs.GatherLemmas.{added_one, kept_one, last_added}
use Rattle.live_index.proofs.group.add.Goals as goal

pub returns-then-at-len-clause-added : goal.returns-then-at-len-clause-added
returns-then-at-len-clause-added c =
    let below : c.last_at_or_before-at.result < length c.args.groups.now.items = search rules in
    on_ok_weaker c.insert.result (λ is.
    added_one (λ g. volumes_in g.chunks.items) c.args.live.now c.args.groups.now.items c.last_at_or_before-at.result
    c.index_mut.result.now c.insert.new.self below
    (subst (λ (g : Group). IsPermutation (c.args.live.now ∷ volumes_in g.chunks.items)
    (volumes_in c.insert.new.self.chunks.items)) c.index_mut.ensures.value is))
    c.insert.ensures.added

pub returns-then-at-len-clause-kept : goal.returns-then-at-len-clause-kept
returns-then-at-len-clause-kept c =
    let below : c.last_at_or_before-at.result < length c.args.groups.now.items = search rules in
    on_err_weaker c.insert.result (λ is.
    kept_one (λ g. volumes_in g.chunks.items) c.args.groups.now.items c.last_at_or_before-at.result
    c.index_mut.result.now c.insert.new.self below
    (subst (λ (g : Group). IsPermutation (volumes_in g.chunks.items)
    (volumes_in c.insert.new.self.chunks.items)) c.index_mut.ensures.value is))
    c.insert.ensures.kept

pub returns-clause-added : goal.returns-clause-added
returns-clause-added c =
    last_added (λ g. volumes_in g.chunks.items) c.args.live.now c.args.groups.now.items c.push.new.self.items
    c.in_ok-try_new.field-0 c.in_ok-push.ensures.items
    (c.in_ok-try_new.ensures.same ∙ c.from_ref.ensures.value)
