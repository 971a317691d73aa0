use Rattle.std.proofs.Common.{◌≡◌, ◌≤◌, ◌&&◌, refl, sym, subst}
use Rattle.s2_hilbert.specs.Curve.{position_of}
use Rattle.volume4d.specs.Volume.{Point}
use Rattle.volume4d.specs.Slab.{slab_has}
use Rattle.volume4d.specs.Sweep.{AddsFirst, lanes_have}
use Rattle.volume4d.proofs.LaneLemmas.{sweep_goes_on, sweep_stops}
use Rattle.volume4d.proofs.sweep.first_along.Goals as goal

pub returns-then-is_after : goal.returns-then-is_after
returns-then-is_after g c =
    sweep_stops g.T.HasSlab.slab_of (lanes_have c.args.lanes.now) c.args.theirs.now c.loop-item.item-index
    c.item-item.result c.loop-item.lanes c.loop-item.first c.loop-item-test.true c.item-item.is
    c.requires.theirs c.loop-item.invariant
    (λ x later. c.if-is_after.ensures refl x
    (subst (λ s. s.first ≤ position_of x.leaf) (sym c.slab-other.ensures) later))

pub loop-item-preserved : goal.loop-item-preserved
loop-item-preserved g c =
    let lanes = c.loop-item.lanes in
    let more = c.first_across-first.new.lanes in
    sweep_goes_on g.T.HasSlab.slab_of (lanes_have c.args.lanes.now) c.args.theirs.now c.loop-item.item-index
    c.item-item.result lanes more c.loop-item.first c.first_across-first.result c.loop-item-test.true
    c.item-item.is c.requires.theirs c.loop-item.invariant c.first_across-first.ensures.order
    (subst (λ s. (x : Point) → s.first ≤ position_of x.leaf → lanes_have more x ≡ lanes_have lanes x)
    c.slab-other.ensures c.first_across-first.ensures.kept)
    (subst (λ s. AddsFirst (λ x. lanes_have lanes x && slab_has s x) c.loop-item.first
    c.first_across-first.result) c.slab-other.ensures c.first_across-first.ensures.first)
