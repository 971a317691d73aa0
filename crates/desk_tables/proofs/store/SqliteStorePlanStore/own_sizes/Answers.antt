use Rattle.std.proofs.Common.{◌≡◌, ℕ, ◌<◌, ◌^◌, arith, ap, subst, sym, ◌∙◌}
use Rattle.sqlite.specs.Held.{state}
use Rattle.sqlite.specs.State.{HasCleanDisk}
use Rattle.desk_store.specs.World.{plans_of, sizes_beside}
use Rattle.desk_store.specs.declared.sizes.Sizes.{Sizes}
use Rattle.desk_tables.proofs.store.SqliteStorePlanStore.own_sizes.Goals as goal

-- sizes with as many spans and as many cells are the same
both : (a b : Sizes) → a.spans ≡ b.spans → a.cells ≡ b.cells → a ≡ b
both a b spans cells =
    let first : a ≡ record { spans = b.spans; cells = a.cells } =
    ap (λ n. record { spans = n; cells = a.cells }) spans in
    let second : record { spans = b.spans; cells = a.cells } ≡ b =
    ap (λ n. record { spans = b.spans; cells = n }) cells in
    first ∙ second

pub returns-clause-value : goal.returns-clause-value
returns-clause-value g c = λ honest.
    let w = c.self.inside.tables.world in
    let o = c.args.operator.now in
    let id = c.args.id.now in
    let clean = subst (λ s. HasCleanDisk (state g.S.Store s.held)) (sym c.self.view_is) honest in
    let spans = c.spans_are_few.ensures w o id (c.self.invariant.1 clean) in
    let cells = c.cells_are_few.ensures w o id (c.self.invariant.1 clean) in
    both c.sizes_beside.result (sizes_beside id (plans_of o w))
    (c.sizes_beside.ensures.spans w c.self.invariant.0.roll (omega (arith, spans)))
    (c.sizes_beside.ensures.cells w c.self.invariant.0.roll (omega (arith, cells)))
    ∙ ap (λ s. sizes_beside id (plans_of o s.world)) c.self.view_is
