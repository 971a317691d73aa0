use Rattle.std.proofs.Common.{◌≡◌, ◌<◌, ◌≤◌, ◌∙◌, Some, None, sym, rules}
use Rattle.db_file.specs.Orders as spec
use Rattle.db_file.proofs.OrderLemmas.{placed_all, placed_not, placed_on}
use Rattle.db_file.proofs.orders.place_rows.Goals as goal

pub returns-then-not-place_row-clause-missing : goal.returns-then-not-place_row-clause-missing
returns-then-not-place_row-clause-missing c not =
    let less : c.loop-to.to < c.args.count = search rules in
    let is : spec.placed_by_name c.args.old.now c.loop-to.to c.loop-to.page ≡ None = search rules in
    sym c.loop-to.invariant.placed
    ∙ placed_not c.args.old.now c.loop-to.page c.loop-to.to c.args.count less is

pub loop-to-preserved : goal.loop-to-preserved
loop-to-preserved c =
    let less : c.loop-to.to < c.args.count = search rules in
    let is : spec.placed_by_name c.args.old.now c.loop-to.to c.loop-to.page ≡ Some c.place_row.new.page =
    search rules in
    record {
      same = c.place_row.ensures.length ∙ c.loop-to.invariant.same;
      placed =
          sym (placed_on c.args.old.now c.loop-to.page c.place_row.new.page c.loop-to.to c.args.count less is)
          ∙ c.loop-to.invariant.placed;
    }

pub returns-clause-placed : goal.returns-clause-placed
returns-clause-placed c is =
    let most : c.args.count ≤ c.loop-to.to = search rules in
    sym c.loop-to.invariant.placed ∙ placed_all c.args.old.now c.loop-to.page c.loop-to.to c.args.count most
