use Rattle.std.proofs.Common.{refl}
use Rattle.sqlite_pool.specs.Pool.{state}
use Rattle.sqlite_trees.specs.View.{doubt}
use Rattle.desk_tables.proofs.laws.a_store_in_memory_is_intact.Goals as goal

pub returns : goal.returns
unfolding state doubt
returns c = refl
