use Rattle.std.proofs.Common.{◌∙◌, arith, rules}
use Rattle.sqlite.specs.State.{HasCleanDisk}
use Rattle.sqlite.specs.Held.{state}
use Rattle.table_load.proofs.lemmas.Opening.{blames_reading}
use Rattle.table_load.proofs.moving.read_old_heads.Goals as goal

pub returns-in_err-volumes-clause-cause : goal.returns-in_err-volumes-clause-cause
returns-in_err-volumes-clause-cause g c =
    let one = c.all_rows.ensures.answers in
    let two = c.all_rows-2.ensures.answers in
    let blames = blames_reading g.S.Store c.args.connection.now c.all_rows-2.new.connection
    c.all_rows-3.new.connection c.in_err-volumes.field-0.0
    (omega (arith, one.reads.faults, two.reads.faults))
    (two.reads.limit ∙ one.reads.limit) c.in_err-volumes.ensures.answers.cause in
    search (rules, blames)

pub returns-clause-live : goal.returns-clause-live
returns-clause-live g c = λ clean.
    let two : HasCleanDisk (state g.S.Store c.all_rows-2.new.connection) =
    omega (arith, c.all_rows-3.ensures.answers.reads.doubt, clean) in
    let one : HasCleanDisk (state g.S.Store c.all_rows.new.connection) =
    omega (arith, c.all_rows-2.ensures.answers.reads.doubt, two) in
    c.in_ok-volumes.ensures.live clean (c.in_ok-plans.ensures.live two
    (c.in_ok-operators.ensures.live one (c.in_ok-operators.ensures.open c.requires.part.some one)))
