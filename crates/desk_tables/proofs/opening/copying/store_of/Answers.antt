use Rattle.std.proofs.Common.{rules, sym, subst}
use Rattle.table_load.specs.Files.{IsSettledAt}
use Rattle.desk_tables.proofs.opening.copying.store_of.Goals as goal

pub returns-in-Ok-clause-adopted : goal.returns-in-Ok-clause-adopted
returns-in-Ok-clause-adopted g c =
    let left : IsSettledAt g.S.Store c.with.result.held c.with.result.world =
    subst (λ s. IsSettledAt g.S.Store s.held s.world) (sym c.with.ensures.value) c.with.ensures.left in
    search (rules, left)
