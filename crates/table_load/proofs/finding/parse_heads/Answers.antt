use Rattle.std.proofs.Common.{◌≡◌, ◌∙◌, List, ap, refl, rules, sym, true≢false}
use Rattle.sqlite_value.specs.Order.{Row}
use Rattle.desk_sql.specs.Rows.{Tables}
use Rattle.desk_store.specs.World.{World, IsContent}
use Rattle.row_codec.specs.declared.exact.RowFault.TheVariants.{InvalidRows}
use Rattle.table_load.specs.Opening.{AreRows}
use Rattle.row_codec.specs.contracts.content.TableRows.{the_view}
use Rattle.table_load.proofs.lemmas.Assembly.{no_plans, none_if}
use Rattle.table_load.proofs.finding.parse_heads.Goals as goal

pub returns-in_err-plans-clause-refused : goal.returns-in_err-plans-clause-refused
returns-in_err-plans-clause-refused c =
    let none : c.in_err-plans.field-0.0 ≡ InvalidRows → (w : World) (spans : List Row) → IsContent w
    → AreRows (record c.args.heads.now { spans = spans }) w → ⊥ = λ n w spans h are.
    no_plans (record (the_view c.heads.inside) { spans = spans }) (record c.args.heads.now { spans = spans })
    c.deref-2.result.now c.deref-3.result.now
    (ap (λ (t : Tables). record t { spans = spans }) c.heads.view_is) c.deref-2.ensures.value
    c.deref-3.ensures.value (c.in_err-plans.ensures.refused n) w h are in
    search (rules, none)

pub returns-then-not-are_in_order-clause-refused : goal.returns-then-not-are_in_order-clause-refused
returns-then-not-are_in_order-clause-refused c = λ _ w spans h are.
    none_if c.one_shape.ensures (record (the_view c.heads.inside) { spans = spans })
    (record c.args.heads.now { spans = spans }) c.deref.result.now c.deref-2.result.now c.deref-3.result.now
    spans c.in_ok-operators.operators.items c.deref-4.result.now c.in_ok-plans.plans.items
    c.deref-5.result.now (ap (λ (t : Tables). record t { spans = spans }) c.heads.view_is)
    c.deref.ensures.value c.deref-2.ensures.value c.deref-3.ensures.value refl c.deref-4.ensures.value
    c.deref-5.ensures.value c.in_ok-operators.ensures.ok c.in_ok-plans.ensures.ok
    (λ agreed. true≢false (sym (c.are_in_order.ensures.1 (record {
      names = agreed.names;
      keys = agreed.keys;
      shared = agreed.shared;
    })) ∙ c.if-not-are_in_order.true)) w h are
