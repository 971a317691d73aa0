use Rattle.volume4d.proofs.CoverCounts.{few}
use Rattle.volume4d.proofs.laws.covers_are_few.Goals as goal

pub returns : goal.returns
returns c =
    few c.one_canonical_list.ensures c.equal_sets_have_equal_covers.ensures c.canonical_list_is.ensures
    c.shortest.ensures
