use Rattle.std.proofs.Common.{subst, sym}
use Rattle.sqlite.specs.Held.{state}
use Rattle.sqlite.specs.State.{HasCleanDisk}
use Rattle.desk_store.specs.World.{IsContent}
use Rattle.desk_tables.proofs.store.SqliteStorePlanStore.ceiling.Goals as goal

pub returns-clause-content : goal.returns-clause-content
returns-clause-content g c = λ honest.
    let clean = subst (λ s. HasCleanDisk (state g.S.Store s.held)) (sym c.self.view_is) honest in
    subst (λ s. IsContent s.world) c.self.view_is (c.self.invariant.1 clean)
