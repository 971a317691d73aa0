use Rattle.std.proofs.Common.{◌≤◌, arith}
use Rattle.s2_cellid.specs.Cell.{level_of}
use Rattle.s2_cellid.proofs.lemmas.Family.{parent_cell, parent_cell_has, count_room, kept_above}
use Rattle.s2_cellid.proofs.CellId.parent.Goals as goal

pub overflow_mul-above : goal.overflow_mul-above
overflow_mul-above c = rw c.lowest_bit_for-lowest_bit.ensures (omega (arith, count_room c.args.level))

pub overflow_sub-above : goal.overflow_sub-above
overflow_sub-above c = rw c.lowest_bit_for-lowest_bit.ensures (omega (arith, count_room c.args.level))

pub overflow_add-id : goal.overflow_add-id
overflow_add-id c =
    let cell = parent_cell c.args.level c.self.inside.id c.self.invariant (omega (arith, c.requires)) in
    rw (c.lowest_bit_for-lowest_bit.ensures, kept_above c.args.level c.self.inside.id c.self.invariant)
    (omega (arith, cell.id_is, cell.within, count_room c.args.level))

pub invariant_of-result : goal.invariant_of-result
invariant_of-result c =
    rw (c.lowest_bit_for-lowest_bit.ensures, kept_above c.args.level c.self.inside.id c.self.invariant)
    (parent_cell c.args.level c.self.inside.id c.self.invariant (omega (arith, c.requires))).valid

pub returns-clause-value : goal.returns-clause-value
returns-clause-value c =
    rw (
      ← c.self.view_is,
      c.lowest_bit_for-lowest_bit.ensures,
      kept_above c.args.level c.self.inside.id
          c.self.invariant,
    )

pub returns-clause-level : goal.returns-clause-level
returns-clause-level c =
    rw (c.lowest_bit_for-lowest_bit.ensures, kept_above c.args.level c.self.inside.id c.self.invariant)
    (parent_cell c.args.level c.self.inside.id c.self.invariant (omega (arith, c.requires))).level_is

pub returns-clause-leaves : goal.returns-clause-leaves
returns-clause-leaves c =
    let below : c.args.level ≤ level_of c.self.inside.id = rw (← c.self.view_is) at c.requires in
    rw (
      c.lowest_bit_for-lowest_bit.ensures,
      ← c.self.view_is,
      kept_above c.args.level c.self.inside.id
          c.self.invariant,
    )
    (λ inner leaf inner_is leaf_is has.
    parent_cell_has c.args.level c.self.inside.id inner leaf c.self.invariant below inner_is leaf_is has)

pub returns-clause-valid : goal.returns-clause-valid
returns-clause-valid c = invariant_of-result c
