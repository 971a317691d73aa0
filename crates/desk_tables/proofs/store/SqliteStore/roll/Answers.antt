use Rattle.std.proofs.Common.{◌∙◌, ap, subst, sym}
use Rattle.std.proofs.lemmas.Result.{IfOk-weaker}
use Rattle.sqlite.specs.Held.{state}
use Rattle.sqlite.specs.State.{HasCleanDisk}
use Rattle.desk_tables.proofs.store.SqliteStore.roll.Goals as goal

pub returns : goal.returns
returns g c = λ clean.
    let w = c.self.inside.tables.world in
    let content = c.self.invariant.1
    (subst (λ s. HasCleanDisk (state g.S.Store s.held)) (sym c.self.view_is) clean) in
    IfOk-weaker c.listed.result _ _
    (λ listed are. are w c.self.invariant.0.roll content.world.operators
    ∙ ap (λ s. s.world.operators) c.self.view_is)
    c.listed.ensures
