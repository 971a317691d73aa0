use Rattle.table_load.proofs.lemmas.Cut.{remade_completes}
use Rattle.table_load.specs.Moving.{HasNoNewRows}
use Rattle.desk_sql.specs.Rows.{tables_at}
use Rattle.desk_sql.specs.Effects.{Holds}
use Rattle.desk_sql.specs.Changing.{MayComplete}
use Rattle.std.proofs.Common.{arith, refl, rules, ◌≡◌, subst, sym}
use Rattle.sqlite.specs.State.{HasCleanDisk}
use Rattle.sqlite.specs.Held.{state}
use Rattle.desk_sql.specs.declared.opening.finding.TablesPresent.TheVariants.{All, Packed}
use Rattle.table_load.proofs.lemmas.Moving.{whole_already}
use Rattle.table_load.proofs.lemmas.Opening.{blames_reading}
use Rattle.table_load.proofs.moving.complete_or_rebuild.Goals as goal

pub returns-then-eq-clause-done : goal.returns-then-eq-clause-done
returns-then-eq-clause-done g c =
    let all : c.args.made ≡ All = search rules in
    whole_already g.S.Store c.args.made c.args.connection.now c.requires.part.part all

pub returns-in_err-complete_tables-clause-cause : goal.returns-in_err-complete_tables-clause-cause
returns-in_err-complete_tables-clause-cause g c small =
    let old = c.args.connection.now in
    let blames = blames_reading g.S.Store old old c.complete_tables.new.connection
    c.in_err-complete_tables.field-0.0 (omega arith) refl
    (λ clean live.
    let early : HasCleanDisk (state g.S.Store old) =
    omega (arith, c.complete_tables.ensures.over.doubt, clean) in
    c.in_err-complete_tables.ensures.cause
    (small early (c.in_err-complete_tables.ensures.kept clean live).was_open) clean live) in
    search (rules, blames)

pub returns-then-eq-2-clause-crash : goal.returns-then-eq-2-clause-crash
returns-then-eq-2-clause-crash g c =
    let old = c.args.connection.now in
    let packed : c.args.made ≡ Packed = search rules in
    let empty : Holds g.S.Store old (λ db. HasNoNewRows (tables_at Packed db.trees)) =
    subst (λ made. Holds g.S.Store old (λ db. HasNoNewRows (tables_at made db.trees))) packed
    c.requires.empty in
    subst (λ made. MayComplete g.S.Store made old c.rebuild_alone.new.connection) (sym packed)
    (remade_completes g.S.Store old c.rebuild_alone.new.connection empty c.rebuild_alone.ensures.over.doubt
    c.rebuild_alone.ensures.crash)
