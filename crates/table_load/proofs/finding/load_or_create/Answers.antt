use Rattle.table_load.proofs.lemmas.Cut.{spared_becomes}
use Rattle.table_load.specs.OpeningSteps.{IsCompletedAs, BeginsCompleted, BeginsOrdered}
use Rattle.std.proofs.Common.{inl, inr, rules}
use Rattle.desk_sql.specs.declared.opening.finding.TablesPresent.TheVariants.{All, Packed}
use Rattle.desk_sql.specs.Effects.{Holds}
use Rattle.desk_sql.specs.Rows.{IsMadeTo}
use Rattle.table_load.specs.Opening.{HasNewRows}
use Rattle.table_load.proofs.lemmas.Opening.{set_up_anew, set_up_as_read}
use Rattle.table_load.proofs.finding.load_or_create.Goals as goal

pub returns-in-All-clause-set_up : goal.returns-in-All-clause-set_up
returns-in-All-clause-set_up g c =
    let old = c.args.connection.now in
    let whole : Holds g.S.Store old (IsMadeTo All) = search rules in
    let new : Holds g.S.Store old (HasNewRows All) = search rules in
    set_up_as_read g.S.Store (λ found. found.0.world) c.load_tables.result old c.load_tables.new.connection
    c.requires.unlimited whole new c.load_tables.ensures.read c.load_tables.ensures.live

pub returns-in-Packed-clause-set_up : goal.returns-in-Packed-clause-set_up
returns-in-Packed-clause-set_up g c =
    let old = c.args.connection.now in
    let new = c.load_and_reorder.new.connection in
    let part : Holds g.S.Store old (IsMadeTo Packed) = search rules in
    let rows : Holds g.S.Store old (HasNewRows Packed) = search rules in
    set_up_anew g.S.Store Packed (λ found. found.0.world) c.load_and_reorder.result
    (BeginsOrdered g.S.Store old new) old new (λ w begins clean live. inr (inr (inr (begins clean))))
    part rows c.load_and_reorder.ensures.set_up

pub returns-in_default-clause-set_up : goal.returns-in_default-clause-set_up
returns-in_default-clause-set_up g c =
    let old = c.args.connection.now in
    let new = c.load_and_complete.new.connection in
    set_up_anew g.S.Store c.args.made (λ found. found.0.world) c.load_and_complete.result
    (BeginsCompleted g.S.Store old new) old new (λ w begins clean live. inr (inr (inl (begins clean))))
    c.requires.part.part c.requires.new c.load_and_complete.ensures.set_up

pub returns-in-All-clause-crash : goal.returns-in-All-clause-crash
returns-in-All-clause-crash g c =
    spared_becomes g.S.Store IsCompletedAs c.args.connection.now c.load_tables.new.connection
    c.load_tables.ensures.read.reads.spared
