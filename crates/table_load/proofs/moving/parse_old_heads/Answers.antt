use Rattle.std.proofs.Common.{◌≡◌, ◌∙◌, List, rules, subst, sym, true≢false}
use Rattle.std.specs.List.{AllByRecursion}
use Rattle.sqlite_value.specs.Order.{Row}
use Rattle.desk_sql.specs.Rows.{Tables}
use Rattle.desk_store.specs.World.{Filed, World}
use Rattle.table_load.specs.declared.fault.OpenFault.TheVariants.{NotADesk}
use Rattle.table_load.specs.Moving.{IsOldArea, IsOldContent}
use Rattle.table_load.specs.Opening.{AreRows}
use Rattle.table_load.proofs.lemmas.Assembly.{agreed, assembled, world_of}
use Rattle.table_load.proofs.lemmas.Moving.{no_old_areas}
use Rattle.table_load.proofs.moving.parse_old_heads.Goals as goal

pub returns-in_err-operators-clause-refused : goal.returns-in_err-operators-clause-refused
returns-in_err-operators-clause-refused c =
    let none : c.in_err-operators.field-0.0 ≡ NotADesk → (w : World) (spans : List Row) → IsOldContent w
    → AreRows (record c.args.heads.now { spans = spans }) w → ⊥ = λ n w spans old are.
    c.in_err-operators.ensures.refused n w spans old.content are in
    search (rules, none)

pub returns-then-not-branch-clause-refused : goal.returns-then-not-branch-clause-refused
returns-then-not-branch-clause-refused c = λ _ w spans old are.
    let t : Tables = record c.args.heads.now { spans = spans } in
    let ls = c.in_ok-operators.operators.items in
    let ps = c.in_ok-operators.plans.items in
    let parts = c.in_ok-operators.ensures.value in
    let made = assembled c.one_shape.ensures t ls ps parts.operators parts.plans
    (agreed c.one_shape.ensures t ls ps parts.operators parts.plans w old.content are) in
    no_old_areas c.one_shape.ensures t (world_of ls ps) made.0 made.1
    (λ all. true≢false (sym (c.in_ok-are_within_old_limits.ensures.1
    (subst (AllByRecursion (λ (p : Filed). IsOldArea p.row.area)) (sym c.deref.ensures.value) all))
    ∙ c.if-not-branch.true)) w old are
