use Rattle.std.proofs.Common.{◌∙◌, ap, None}
use Rattle.volume4d.specs.Slab.{level_where, slab_has, top_held}
use Rattle.desk_rules.specs.Conflict.{at_least}
use Rattle.desk_run.proofs.ListingLemmas.{at_mine, begin_level, held_adds, held_passed, none_without}
use Rattle.desk_run.proofs.pending.near.push_helds.Goals as goal
use Rattle.desk_run.proofs.pending.near.push_helds.Goals.{then-is_wanted+in_ok-push, else-is_wanted}

pub loop-held-init : goal.loop-held-init
loop-held-init c =
    record {
      order = c.requires.order;
      left = λ x at has. has;
      levels = λ x has. begin_level c.args.least (top_held c.args.theirs.now.items x) x;
    }

pub loop-held-preserved : goal.loop-held-preserved
loop-held-preserved c =
    let n = c.args.least in
    let helds = c.args.helds.now in
    let held = c.held-item.result in
    let so_far = c.loop-held.invariant in
    record {
      order = c.remaining_at-left.ensures.order;
      left = c.remaining_at-left.ensures.left;
      levels = λ x has.
          (let before = top_held c.args.theirs.now.items x in
          elim c.if-is_wanted.branch [
            | then-is_wanted+in_ok-push w ↦ ap (λ v. top_held v.items x) w.theirs-is
                ∙ held_adds n c.loop-held.theirs.items _ helds c.loop-held.held-index held x before
                c.loop-held-test.true c.held-item.is (c.is_wanted.ensures.high_enough w.if-is_wanted.true)
                w.in_ok-push.ensures.items (so_far.levels x has)
            | else-is_wanted w ↦ ap (λ v. top_held v.items x) w.theirs-is
                ∙ held_passed n helds c.loop-held.held-index held x _ before c.loop-held-test.true
                c.held-item.is
                (at_mine (at_least n (level_where (slab_has held.slab x) held.priority)) None
                c.args.mine.now c.remaining_at-left.result.now held.slab x c.remaining_at-left.ensures.left has
                (c.is_wanted.ensures.nothing_lost w.if-is_wanted.false x (c.requires.bounds x has)
                (c.requires.parts x has))
                (none_without n held.priority (slab_has held.slab x)))
                (so_far.levels x has)
          ]);
    }
