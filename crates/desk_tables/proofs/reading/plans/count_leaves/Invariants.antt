use Rattle.std.proofs.Common.{◌≡◌, min, take, ◌-◌, ◌^◌}
use Rattle.row_codec.specs.RowsRead.{query_leaf_count}
use Rattle.desk_tables.proofs.reading.plans.count_leaves.Given as goal

abbrev pub invariant-loop-query : goal.invariant-loop-query
invariant-loop-query l = l.leaves ≡ min (query_leaf_count (take l.query-index l.queries)) (2 ^ 64 - 1)
