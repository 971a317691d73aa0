use Rattle.std.proofs.Common.{arith}
use Rattle.std.specs.List.Sorted.{IsStrictlySortedBy}
use Rattle.desk_store.proofs.list.ListStore.new.Goals as goal

pub invariant_of-result : goal.invariant_of-result
unfolding IsStrictlySortedBy
invariant_of-result c = rw (c.new-2.ensures.empty, c.new.ensures.empty) (
  record {
    world = record {
      operators = tt;
      plans = tt;
      listed = tt;
      rows = λ o. omega arith;
      ceilings = tt;
      priorities = tt;
    };
    names = tt;
    rows = tt;
  },
  tt,
)
