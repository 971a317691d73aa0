use Rattle.std.proofs.Common.{◌<◌, ◌^◌, ◌∙◌, ap, refl, subst, sym}
use Rattle.desk_rules.specs.Outcome.{row_cells, row_spans}
use Rattle.desk_store.specs.World.{plans_of}
use Rattle.operator_index.specs.Roll.{state_cells_beside, state_spans_beside, plans_or_none}
use Rattle.operator_index.proofs.lemmas.Roll.{counted}
use Rattle.operator_index.proofs.roll.OperatorIndex.sizes_beside.Goals as goal

pub returns-in-Some-clause-spans : goal.returns-in-Some-clause-spans
returns-in-Some-clause-spans c = λ w h few.
    let o = c.args.operator.now in
    let id = c.args.id.now in
    let same =
    ap (state_spans_beside id) (ap plans_or_none c.in-Some.ensures.value ∙ h.states o)
    ∙ counted (λ s. s.spans) row_spans id (λ r. refl) (plans_of o w) in
    c.sizes_beside.ensures.spans (subst (λ n. n < 2 ^ 32) (sym same) few) ∙ same

pub returns-in-Some-clause-cells : goal.returns-in-Some-clause-cells
returns-in-Some-clause-cells c = λ w h few.
    let o = c.args.operator.now in
    let id = c.args.id.now in
    let same =
    ap (state_cells_beside id) (ap plans_or_none c.in-Some.ensures.value ∙ h.states o)
    ∙ counted (λ s. s.cells) row_cells id (λ r. refl) (plans_of o w) in
    c.sizes_beside.ensures.cells (subst (λ n. n < 2 ^ 32) (sym same) few) ∙ same

pub returns-in-None-clause-spans : goal.returns-in-None-clause-spans
returns-in-None-clause-spans c = λ w h few.
    let o = c.args.operator.now in
    let id = c.args.id.now in
    ap (λ s. s.spans) c.none.ensures
    ∙ ap (state_spans_beside id) (ap plans_or_none c.in-None.ensures.value ∙ h.states o)
    ∙ counted (λ s. s.spans) row_spans id (λ r. refl) (plans_of o w)

pub returns-in-None-clause-cells : goal.returns-in-None-clause-cells
returns-in-None-clause-cells c = λ w h few.
    let o = c.args.operator.now in
    let id = c.args.id.now in
    ap (λ s. s.cells) c.none.ensures
    ∙ ap (state_cells_beside id) (ap plans_or_none c.in-None.ensures.value ∙ h.states o)
    ∙ counted (λ s. s.cells) row_cells id (λ r. refl) (plans_of o w)
