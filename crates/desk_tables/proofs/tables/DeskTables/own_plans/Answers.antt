use Rattle.std.proofs.Common.{[], ◌∷◌, ◌≤◌, ◌<◌, ◌^◌, length, refl, subst, arith}
use Rattle.std.specs.List.{filter}
use Rattle.sqlite.specs.Held.{state}
use Rattle.desk_sql.specs.Rows as sql
use Rattle.desk_sql.specs.Rows.{tables_of, with_volumes, Lists}
use Rattle.desk_rules.specs.Limits.{max_plans}
use Rattle.desk_store.specs.World.{is_by}
use Rattle.row_codec.specs.RowsRead.{HasCollected}
use Rattle.row_codec.proofs.lemmas.Result.{weaker}
use Rattle.table_load.proofs.lemmas.Store.{on_whole}
use Rattle.desk_tables.proofs.JoinedLemmas.{own_listing, own_plans_are}
use Rattle.std.proofs.lemmas.List.{length-map}
use Rattle.desk_store.proofs.lemmas.Order.{all_filter}
use Rattle.desk_tables.specs.Store.{BlamesStore}
use Rattle.desk_tables.proofs.CauseLemmas.{err_weaker, listing_blamed, within_bits}
use Rattle.desk_tables.proofs.tables.DeskTables.own_plans.Goals as goal

pub returns : goal.returns
returns g c =
    let w = c.self.inside.kept.world in
    let o = c.args.operator.now in
    let old = c.self.inside.connection in
    let new = c.own_plans-taken.new.connection in
    let answers = c.own_plans-taken.ensures.answers in
    let tables = tables_of (state g.S.Store old).now.trees in
    let collector = c.own_plans-taken.new.visitor in
    rw (← c.self.view_is) (record {
      value = λ clean.
          on_whole _ c.own_plans-taken.result c.plans_if_read.result c.plans_if_read.ensures.whole
          (c.own_plans-taken.ensures.open clean) (λ live. on_whole _ c.own_plans-taken.result
          c.plans_if_read.result c.plans_if_read.ensures.whole (answers.value clean) (λ handed.
          (let standing = c.self.invariant.standing (omega (arith, answers.reads.doubt, clean)) live in
          let (rows, by_name, taken) = handed in
          let lists = subst (λ name. Lists (1 ∷ 5 ∷ []) (with_volumes (sql.is_row_by name) tables) rows)
          c.as_str.ensures.value by_name in
          let listing = own_listing tables w o rows standing.content standing.tables lists in
          weaker c.plans_if_read.result
          (λ plans read. read (filter (is_by o) w.plans) (own_plans_are w o standing.content)
          (subst (HasCollected collector.plans.items collector.head collector.volumes.items) listing taken))
          c.plans_if_read.ensures.value)));
      -- the rows of an operator's plans are gathered
      cause = err_weaker c.plans_if_read.result (BlamesStore g.S.Store old new) c.plans_if_read.ensures.refused
          (λ e why clean live is.
          (let before = answers.reads.kept clean live in
          let standing = c.self.invariant.standing (omega (arith, answers.reads.doubt, clean))
          before.was_open in
          let mine = filter (is_by o) w.plans in
          let few : length mine ≤ max_plans = omega (
            arith,
            length-map mine (λ p. p.row),
            standing.content.world.rows o,
          ) in
          listing_blamed g.S.Store old new c.self.invariant.unlimited
          (Lists (1 ∷ 5 ∷ []) (with_volumes (sql.is_row_by c.as_str.result.now) tables)) mine
          (own_plans_are w o standing.content)
          (all_filter (λ p. p.row.priority < 2 ^ 32) (is_by o) w.plans
          (within_bits w.plans standing.content.world.priorities)) few
          (λ rows by_name. own_listing tables w o rows standing.content standing.tables
          (subst (λ name. Lists (1 ∷ 5 ∷ []) (with_volumes (sql.is_row_by name) tables) rows)
          c.as_str.ensures.value by_name)) c.own_plans-taken.result collector.plans.items collector.head
          collector.volumes.items (why is) (answers.cause clean live) (answers.value clean)));
      same = refl;
      reads = answers.reads;
    })
