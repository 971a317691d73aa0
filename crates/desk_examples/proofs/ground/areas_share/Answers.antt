use Rattle.std.proofs.Common.{◌↔◌, IsTrue, subst, sym}
use Rattle.desk_rules.specs.Conflict.{HaveAPoint}
use Rattle.desk_examples.proofs.ground.areas_share.Goals as goal

pub returns : goal.returns
returns c =
    subst (λ share. IsTrue share ↔ HaveAPoint c.args.one.now c.args.other.now)
    (sym (c.share_a_point.ensures c.args.one.now c.args.other.now
    (rw c.deref.ensures.value c.in_ok-slabs.ensures.points)
    (rw c.deref-2.ensures.value c.in_ok-slabs-2.ensures.points)))
    (c.shared_point_is_found.ensures c.args.one.now c.args.other.now)
