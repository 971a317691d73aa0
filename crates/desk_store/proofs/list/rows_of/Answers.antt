use Rattle.std.proofs.Common.{◌≡◌, [], ◌∷◌, ◌++◌, ◌∙◌, ap, sym}
use Rattle.std.proofs.lemmas.List.{append-nil}
use Rattle.desk_store.specs.World.{rows_by, filed_of, filed_all}
use Rattle.desk_store.proofs.StoreLemmas.{row_added, row_passed}
use Rattle.desk_store.proofs.list.rows_of.Goals as goal

pub loop-key-init : goal.loop-key-init
loop-key-init c =
    let start : c.into_iter-key-iterator.result ≡ c.args.plans.now.entries =
    c.into_iter-key-iterator.ensures.into_iter_gives.0 in
    λ k. c.new-rows.ensures.items k ++ rows_by c.args.operator.now (filed_all (start k))

pub loop-key-preserved-in_ok-push : goal.loop-key-preserved-in_ok-push
loop-key-preserved-in_ok-push c =
    let o = c.args.operator.now in
    let rows = c.loop-key.rows.items in
    let rest = c.in-Some.ensures.steps in
    row_added o (filed_of (c.in-Some.key.now, c.in-Some.plan.now)) (filed_all c.next.new.self) rows
    c.push.new.self.items _ (sym c.if-is_by.ensures)
    (c.in_ok-push.ensures.items ∙ ap (λ row. rows ++ row ∷ []) c.in_ok-row.ensures)
    (ap (λ es. rows ++ rows_by o (filed_all es)) (sym rest) ∙ c.loop-key.invariant)

pub loop-key-preserved : goal.loop-key-preserved
loop-key-preserved c =
    let o = c.args.operator.now in
    let rows = c.loop-key.rows.items in
    row_passed o (filed_of (c.in-Some.key.now, c.in-Some.plan.now)) (filed_all c.next.new.self) rows _
    (sym c.if-is_by.ensures)
    (ap (λ es. rows ++ rows_by o (filed_all es)) (sym c.in-Some.ensures.steps) ∙ c.loop-key.invariant)

pub returns : goal.returns
returns c =
    let rows = c.loop-key.rows.items in
    sym (ap (λ es. rows ++ rows_by c.args.operator.now (filed_all es)) c.in-None.ensures.steps.0
    ∙ append-nil rows) ∙ c.loop-key.invariant
