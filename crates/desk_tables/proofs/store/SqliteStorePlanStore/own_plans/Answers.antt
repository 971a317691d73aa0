use Rattle.std.proofs.Common.{arith, subst}
use Rattle.sqlite.specs.Held.{state}
use Rattle.sqlite.specs.State.{HasCleanDisk}
use Rattle.desk_store.specs.World.{IsContent}
use Rattle.table_load.proofs.lemmas.Store.{on_any}
use Rattle.desk_tables.proofs.store.SqliteStorePlanStore.own_plans.Goals as goal

pub returns-clause-content : goal.returns-clause-content
returns-clause-content g c = λ honest.
    let clean : HasCleanDisk (state g.S.Store c.self.inside.tables.held) =
    omega (arith, c.own_plans-answer.ensures.reads.doubt, honest) in
    on_any c.count_fault.result (subst (λ s. IsContent s.world) c.self.view_is (c.self.invariant.1 clean))
