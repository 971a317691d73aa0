use Rattle.std.proofs.Common.{subst, sym}
use Rattle.std.specs.List.Sorted.{IsStrictlySortedBy}
use Rattle.operator_index.specs.Roll.{AreAccountsOf, accounts_of}
use Rattle.desk_store.specs.World.{World, filed_cmp}
use Rattle.row_codec.specs.SpanBounds.{Bounds}
use Rattle.row_codec.specs.Tables.{AreSpanRows}
use Rattle.row_codec.proofs.lemmas.SpanBound.{bounds_of}
use Rattle.table_load.proofs.finding.finish_content.Goals as goal

pub returns-clause-known : goal.returns-clause-known
returns-clause-known c order =
    let own = c.args.check in
    let new = c.agrees.new.self in
    let world : World = record { operators = c.args.operators.items; plans = new.plans.items } in
    let rows = c.requires.taken.0 in
    let checked = c.requires.taken.1 in
    let agree = subst (λ ps. AreSpanRows ps rows) (sym c.agrees.ensures.plans)
    ((c.in_ok-agrees.ensures.agree rows checked).0 c.if-not-branch.false) in
    record {
      span_bounds = subst (λ b. Bounds b world) (sym c.agrees.ensures.span_bounds)
          (bounds_of c.one_list_of_ranges.ensures own.span_bounds world rows agree checked.known);
      live = c.in_ok-live_index_of.ensures world
          (subst (IsStrictlySortedBy filed_cmp) (sym c.agrees.ensures.plans) order.keys)
          (sym c.deref.ensures.value);
      roll = subst (λ ls. AreAccountsOf ls world.plans (accounts_of c.in_ok-operator_index_of.field-0))
          c.deref-2.ensures.value
          (subst (λ ps. AreAccountsOf c.deref-2.result.now ps (accounts_of c.in_ok-operator_index_of.field-0))
          c.deref-3.ensures.value c.in_ok-operator_index_of.ensures);
    }
