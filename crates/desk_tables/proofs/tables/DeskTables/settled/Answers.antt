use Rattle.std.proofs.Common.{subst}
use Rattle.table_load.specs.Files.{IsSettledAt}
use Rattle.desk_tables.proofs.LeavingLemmas.{leaves_what_stands}
use Rattle.desk_tables.proofs.tables.DeskTables.settled.Goals as goal

pub returns-clause-left : goal.returns-clause-left
returns-clause-left g c =
    let connection = c.self.inside.connection in
    subst (λ t. IsSettledAt g.S.Store t.held t.world) c.self.view_is (λ clean live.
    leaves_what_stands c.one_state.ensures g.S.Store connection c.self.inside.kept.world c.self.invariant
    clean live
    (c.committed_and_sound.ensures.settled c.self.invariant.settled live)
    (c.committed_and_sound.ensures.sound live).0
    (λ db may. g.met.S.Store.settled connection.store db live may))
