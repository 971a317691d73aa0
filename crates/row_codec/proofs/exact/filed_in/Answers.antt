use Rattle.std.proofs.Common.{sym, true≢false}
use Rattle.row_codec.specs.Tables.{row_fault_of}
use Rattle.row_codec.proofs.lemmas.Unread.{on_err}
use Rattle.row_codec.proofs.lemmas.Exact.{store_of, no_area, no_other}
use Rattle.row_codec.proofs.exact.filed_in.Goals as goal

pub returns-in_err-area-clause-refused : goal.returns-in_err-area-clause-refused
returns-in_err-area-clause-refused c =
    on_err c.from_residual.result (row_fault_of c.in_err-area.field-0.0) _ c.from_residual.ensures.1
    (λ e. no_area c.args.head.now c.args.volumes.now
    (c.in_err-area.ensures.refused (store_of c.in_err-area.field-0.0 e)))

pub returns-then-not-are_rows_of-clause-refused : goal.returns-then-not-are_rows_of-clause-refused
returns-then-not-are_rows_of-clause-refused c =
    λ _. no_other c.args.head.now c.args.volumes.now c.in-Some.operator c.in_ok-row.row c.in_ok-area.area
    c.in-Some.ensures.1
    c.in_ok-area.ensures.value c.in_ok-row.ensures.value
    (λ rows. true≢false (sym (c.if-not-are_rows_of.ensures.1 rows)))
