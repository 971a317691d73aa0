use Rattle.s2_hilbert.proofs.lemmas.Curve.{found_at}
use Rattle.s2_hilbert.proofs.leaves.leaf_at.Goals as goal

pub returns-clause-value : goal.returns-clause-value
returns-clause-value c =
    (found_at c.args.position c.point_on_face-i.result.0 c.point_on_face-i.result.1 c.requires
    c.point_on_face-i.ensures.i_below
    c.point_on_face-i.ensures.j_below c.point_on_face-i.ensures.inverse).value

pub returns-clause-inverse : goal.returns-clause-inverse
returns-clause-inverse c =
    (found_at c.args.position c.point_on_face-i.result.0 c.point_on_face-i.result.1 c.requires
    c.point_on_face-i.ensures.i_below
    c.point_on_face-i.ensures.j_below c.point_on_face-i.ensures.inverse).undone

pub returns-clause-only : goal.returns-clause-only
returns-clause-only c =
    (found_at c.args.position c.point_on_face-i.result.0 c.point_on_face-i.result.1 c.requires
    c.point_on_face-i.ensures.i_below
    c.point_on_face-i.ensures.j_below c.point_on_face-i.ensures.inverse).only
