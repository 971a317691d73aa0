use Rattle.std.proofs.Common.{[], ◌∷◌, ◌∙◌, arith, subst}
use Rattle.sqlite.specs.Effect.{Database}
use Rattle.sqlite.specs.State.{HasCleanDisk}
use Rattle.sqlite.specs.Held.{state}
use Rattle.desk_sql.specs.Rows.{Lists, tables_at, ListVolumes}
use Rattle.table_load.proofs.finding.read_heads.Goals as goal

pub returns-clause-value : goal.returns-clause-value
returns-clause-value g c = λ clean.
    let made = c.args.made in
    let one = c.all_rows.new.connection in
    let two = c.all_rows-2.new.connection in
    let clean_two : HasCleanDisk (state g.S.Store two) =
    omega (arith, c.take_volumes.ensures.reads.doubt, clean) in
    let clean_one : HasCleanDisk (state g.S.Store one) =
    omega (arith, c.all_rows-2.ensures.answers.reads.doubt, clean_two) in
    let live_one = c.in_ok-operators.ensures.live clean_one
    (c.in_ok-operators.ensures.open c.requires.part.some clean_one) in
    let live_two = c.in_ok-plans.ensures.live clean_two live_one in
    let since_one = (c.all_rows.ensures.answers.reads.kept clean_one live_one).now in
    let since_two = (c.all_rows-2.ensures.answers.reads.kept clean_two live_two).now in
    let (rows, listed, compared) = c.in_ok-take_volumes.ensures.value clean in
    record {
      operator_part = c.in_ok-operators.ensures.answers.value clean_one;
      plan_part = subst (λ (db : Database). Lists (0 ∷ 1 ∷ []) (tables_at made db.trees).plans
          c.in_ok-plans.plans.items) since_one (c.in_ok-plans.ensures.answers.value clean_two);
      whole = rows;
      listed = subst (λ (db : Database). ListVolumes (tables_at made db.trees) rows)
          (since_two ∙ since_one) listed;
      compared = compared;
    }

pub returns-clause-live : goal.returns-clause-live
returns-clause-live g c = λ clean.
    let two : HasCleanDisk (state g.S.Store c.all_rows-2.new.connection) =
    omega (arith, c.take_volumes.ensures.reads.doubt, clean) in
    let one : HasCleanDisk (state g.S.Store c.all_rows.new.connection) =
    omega (arith, c.all_rows-2.ensures.answers.reads.doubt, two) in
    c.in_ok-take_volumes.ensures.live clean
    (c.in_ok-plans.ensures.live two
    (c.in_ok-operators.ensures.live one (c.in_ok-operators.ensures.open c.requires.part.some one)))
