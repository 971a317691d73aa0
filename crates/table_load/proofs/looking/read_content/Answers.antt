use Rattle.std.proofs.Common.{◌≡◌, Err}
use Rattle.table_load.specs.declared.fault.OpenFault.TheVariants.{NotADesk}
use Rattle.table_load.specs.Moving.{ShowsNone}
use Rattle.table_load.proofs.NoneShownLemmas.{none_later_shown, none_shown}
use Rattle.table_load.proofs.lemmas.Opening.{reported_as}
use Rattle.table_load.proofs.looking.read_content.Goals as goal

pub returns-in_err-made-clause-refused : goal.returns-in_err-made-clause-refused
returns-in_err-made-clause-refused g c =
    let old = c.args.connection.now in
    let new = c.find_desk_tables.new.connection in
    reported_as (λ e. e ≡ NotADesk → ShowsNone g.S.Store old new) c.from_residual.result _
    c.from_residual.ensures.1
    (λ n. none_shown g.S.Store old new (c.in_err-made.ensures.refused n))

pub returns-in_err-content-clause-refused : goal.returns-in_err-content-clause-refused
returns-in_err-content-clause-refused g c =
    let a = c.args.connection.now in
    let b = c.find_desk_tables.new.connection in
    let d = c.load_content_in_schema.new.connection in
    reported_as (λ e. e ≡ NotADesk → ShowsNone g.S.Store a d) c.from_residual-in_err-content.result _
    c.from_residual-in_err-content.ensures.1
    (none_later_shown g.S.Store a b d c.in_ok-made.made c.in_ok-made.old c.in_ok-made.ensures.reads
    c.in_ok-made.ensures.part c.in_ok-made.ensures.rows c.in_err-content.ensures.read.reads {V = Unit {0}}
    (Err c.in_err-content.field-0.0) c.in_err-content.ensures.read.none)
