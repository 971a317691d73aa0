use Rattle.std.proofs.Common.{arith}
use Rattle.desk_tables.proofs.laws.a_store_over_files_is_guarded.Goals as goal

pub returns-clause-opened : goal.returns-clause-opened
returns-clause-opened g c = λ image h w it. (
  λ clean. it.guarded (omega (arith, it.doubt, clean)),
  λ clean blank. (it.found, it.opened clean, it.summed (omega (arith, it.doubt, clean)) blank),
)

pub returns-clause-moved : goal.returns-clause-moved
returns-clause-moved g c = λ image h w count it clean. it.guarded (omega (arith, it.doubt, clean))

pub returns-clause-made : goal.returns-clause-made
returns-clause-made g c = λ image h it. (
  λ clean. it.guarded (omega (arith, it.doubt, clean)),
  λ clean blank. (it.found, it.opened clean, it.summed (omega (arith, it.doubt, clean)) blank),
)
