use Rattle.std.proofs.Common.{◌≡◌, ◌∙◌, sym, subst, arith}
use Rattle.desk_tables.proofs.ListingLemmas.{none_stored, plan_stored, none_first, some_first}
use Rattle.desk_tables.specs.Store.{BlamesStore, own_of}
use Rattle.row_codec.specs.Tables.{volume_rows}
use Rattle.desk_tables.proofs.CauseLemmas.{plan_reads}
use Rattle.table_load.proofs.lemmas.Frame.{reads_then}
use Rattle.row_codec.proofs.lemmas.Unread.{no_value, on_err}
use Rattle.desk_tables.proofs.tables.DeskTables.plan.Goals as goal

pub returns-in_default : goal.returns-in_default
returns-in_default g c =
    let read = c.in_ok-head_rows.ensures in
    record {
      value = λ clean.
          let none = none_first c.deref.result.now c.in_default.ensures.value in
          none_stored c.args.operator.now c.args.id.now c.args.self.now.world
          c.in_ok-head_rows.head_rows.items (read.value clean).1 (sym c.deref.ensures.value ∙ none);
      cause = tt;
      same = read.same;
      reads = read.reads;
    }

pub returns : goal.returns
returns g c =
    let operator = c.args.operator.now in
    let id = c.args.id.now in
    let w = c.args.self.now.world in
    let read = c.in_ok-head_rows.ensures in
    let also = c.in_ok-rows.ensures in
    record {
      value = λ clean.
          let head_rows = read.value (omega (arith, also.reads.doubt, clean)) in
          let rows = also.value clean in
          let first = some_first c.deref.result.now c.in-Some.head.now c.in-Some.ensures.value in
          plan_stored operator id w c.in_ok-head_rows.head_rows.items c.deref-2.result.now first.0
          c.in-Some.head.now c.in_ok-plan_of_rows.field-0 head_rows.0 head_rows.1 (c.deref-2.ensures.value
          ∙ subst (λ v. c.in_ok-rows.rows.items ≡ volume_rows (own_of operator id v)) read.same rows.1)
          (sym c.deref.ensures.value ∙ first.1)
          (λ p is head each area. c.in_ok-plan_of_rows.ensures.value p is head each area);
      cause = tt;
      same = also.same ∙ read.same;
      reads = reads_then g.S.Store _ _ _ read.reads also.reads;
    }

-- the rows of a stored plan are read
pub returns-in_err-plan_of_rows : goal.returns-in_err-plan_of_rows
returns-in_err-plan_of_rows g c =
    let operator = c.args.operator.now in
    let id = c.args.id.now in
    let w = c.args.self.now.world in
    let read = c.in_ok-head_rows.ensures in
    let also = c.in_ok-rows.ensures in
    record {
      value = λ clean.
          no_value _ c.from_residual-in_err-plan_of_rows.result c.in_err-plan_of_rows.field-0.0
          c.from_residual-in_err-plan_of_rows.ensures.1;
      cause = on_err c.from_residual-in_err-plan_of_rows.result c.in_err-plan_of_rows.field-0.0
          (BlamesStore g.S.Store c.args.self.now.held c.volumes.new.self.held)
          c.from_residual-in_err-plan_of_rows.ensures.1 (λ clean live is.
          (let head_rows = read.value (omega (arith, also.reads.doubt, clean)) in
          let rows = also.value clean in
          let first = some_first c.deref.result.now c.in-Some.head.now c.in-Some.ensures.value in
          absurd (plan_reads operator id w c.in_ok-head_rows.head_rows.items c.deref-2.result.now first.0
          c.in-Some.head.now head_rows.0 head_rows.1 (c.deref-2.ensures.value
          ∙ subst (λ v. c.in_ok-rows.rows.items ≡ volume_rows (own_of operator id v)) read.same rows.1)
          (sym c.deref.ensures.value ∙ first.1) (c.in_err-plan_of_rows.ensures.refused is))));
      same = also.same ∙ read.same;
      reads = reads_then g.S.Store _ _ _ read.reads also.reads;
    }
