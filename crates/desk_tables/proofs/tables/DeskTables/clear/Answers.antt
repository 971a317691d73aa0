use Rattle.std.proofs.Common.{ap, subst, sym, ◌∙◌, map}
use Rattle.std.specs.List.{AllByRecursion}
use Rattle.std.specs.String.{string_bytes}
use Rattle.desk_changes.specs.RowChanges.{RemovesPlans}
use Rattle.desk_store.specs.declared.change.Change.TheVariants.{Clear}
use Rattle.desk_tables.specs.Store.{IsNext, ChangesRows, IsWithinLimits}
use Rattle.row_codec.specs.Tables.{id_text}
use Rattle.desk_store.specs.World.{IsId}
use Rattle.desk_tables.proofs.AfterLemmas.{committed_as, followed, followed_blamed, made_cleared}
use Rattle.desk_tables.proofs.tables.DeskTables.clear.Goals as goal

pub invariant_of-self : goal.invariant_of-self
unfolding ChangesRows IsWithinLimits
invariant_of-self g c =
    let old = c.self.inside.connection in
    let new = c.clear_plans-committed.new.connection in
    let w = c.self.inside.kept.world in
    let operator = c.args.operator.now in
    let change = Clear operator c.args.ids.now in
    let texts = map string_bytes c.deref-2.result.now in
    let next = subst (λ t. IsNext g.S.Store t c.args.next.world change) (sym c.self.view_is) c.requires in
    (followed g.S.Store old new w c.advance_if_committed.new.kept.world c.args.next.world tt change
    c.clear_plans-committed.result c.advance_if_committed.result
    (made_cleared g.S.Store old new w c.self.invariant _ change operator c.args.ids.now.items texts
    (subst (AllByRecursion IsId) c.deref.ensures.value c.in_ok-texts.ensures.valid) (λ one two e. e)
    (ap (map string_bytes) c.deref-2.ensures.value ∙ c.in_ok-texts.ensures.value
    ∙ ap (map id_text) c.deref.ensures.value)
    (committed_as (λ name. RemovesPlans name texts) c.as_str.ensures.value
    c.clear_plans-committed.ensures.committed) next.fits)
    c.advance_if_committed.ensures next.world).0

pub returns-clause-made : goal.returns-clause-made
unfolding ChangesRows IsWithinLimits
returns-clause-made g c =
    let old = c.self.inside.connection in
    let new = c.clear_plans-committed.new.connection in
    let w = c.self.inside.kept.world in
    let operator = c.args.operator.now in
    let change = Clear operator c.args.ids.now in
    let texts = map string_bytes c.deref-2.result.now in
    let next = subst (λ t. IsNext g.S.Store t c.args.next.world change) (sym c.self.view_is) c.requires in
    rw (← c.self.view_is) (followed g.S.Store old new w c.advance_if_committed.new.kept.world c.args.next.world tt change
    c.clear_plans-committed.result c.advance_if_committed.result
    (made_cleared g.S.Store old new w c.self.invariant _ change operator c.args.ids.now.items texts
    (subst (AllByRecursion IsId) c.deref.ensures.value c.in_ok-texts.ensures.valid) (λ one two e. e)
    (ap (map string_bytes) c.deref-2.ensures.value ∙ c.in_ok-texts.ensures.value
    ∙ ap (map id_text) c.deref.ensures.value)
    (committed_as (λ name. RemovesPlans name texts) c.as_str.ensures.value
    c.clear_plans-committed.ensures.committed) next.fits)
    c.advance_if_committed.ensures next.world).1

pub returns-clause-cause : goal.returns-clause-cause
returns-clause-cause g c =
    rw (← c.self.view_is) (followed_blamed g.S.Store c.self.inside.connection
    c.clear_plans-committed.new.connection c.self.inside.kept.world c.advance_if_committed.new.kept.world
    c.args.next.world tt c.clear_plans-committed.result c.advance_if_committed.result c.self.invariant.unlimited
    c.advance_if_committed.ensures (c.clear_plans-committed.ensures.committed.cause tt))
