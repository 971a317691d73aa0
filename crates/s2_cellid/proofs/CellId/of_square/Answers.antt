use Rattle.std.proofs.Common.{◌≡◌, ◌∙◌, ap, arith}
use Rattle.s2_hilbert.specs.Grid.{GridSquare}
use Rattle.s2_hilbert.specs.Curve.{leaf_count}
use Rattle.s2_cellid.proofs.lemmas.Family.{square_cell, square_cell_has, count_room}
use Rattle.s2_cellid.proofs.CellId.of_square.Goals as goal

lowest_is : (c : goal.After-lowest_bit_for) → c.lowest_bit_for.result ≡ leaf_count c.args.square.now.level
lowest_is c = c.lowest_bit_for.ensures ∙ ap
    (λ (square : GridSquare). leaf_count square.level) c.square.view_is

pub overflow_add-id : goal.overflow_add-id
overflow_add-id c = rw (lowest_is c) (omega
    (arith, c.first.ensures.below, count_room c.args.square.now.level))

pub invariant_of-result : goal.invariant_of-result
invariant_of-result c =
    rw (c.first.ensures.value, lowest_is c) (square_cell c.args.square.now c.first.ensures.square).valid

pub returns-clause-level : goal.returns-clause-level
returns-clause-level c =
    rw (c.first.ensures.value, lowest_is c) (square_cell c.args.square.now c.first.ensures.square).level_is

pub returns-clause-leaves : goal.returns-clause-leaves
returns-clause-leaves c =
    rw (c.first.ensures.value, lowest_is c)
    (λ leaf is. square_cell_has leaf c.args.square.now is c.first.ensures.square)

pub returns-clause-valid : goal.returns-clause-valid
returns-clause-valid c = invariant_of-result c
