use Rattle.std.proofs.Common.{◌+◌, ◌<◌, arith}
use Rattle.s2_hilbert.specs.Curve.{position_of}
use Rattle.s2_cellid.specs.Cell.{level_of}
use Rattle.s2_cellid.proofs.lemmas.Block.{ends_of}
use Rattle.s2_cellid.proofs.lemmas.Family.{child_cell, child_cell_has, count_room}
use Rattle.s2_cellid.proofs.CellId.child.Goals as goal

pub overflow_sub-id : goal.overflow_sub-id
overflow_sub-id c =
    rw (c.lowest_bit-lowest_bit.ensures, ← c.self.view_is)
    (ends_of c.self.inside.id c.self.invariant).unit_within

pub overflow_add-id-2 : goal.overflow_add-id-2
overflow_add-id-2 c =
    let below : level_of c.self.inside.id < 30 = rw (← c.self.view_is) at c.requires.level in
    let cell = child_cell c.args.k c.self.inside.id c.self.invariant c.requires.k below in
    rw (c.lowest_bit-lowest_bit.ensures, c.from.ensures, ← c.self.view_is)
    (omega (arith, cell.id_is, cell.within, count_room (level_of c.self.inside.id + 1)))

pub invariant_of-result : goal.invariant_of-result
invariant_of-result c =
    let below : level_of c.self.inside.id < 30 = rw (← c.self.view_is) at c.requires.level in
    rw (c.lowest_bit-lowest_bit.ensures, c.from.ensures, ← c.self.view_is)
    (child_cell c.args.k c.self.inside.id c.self.invariant c.requires.k below).valid

pub returns-clause-level : goal.returns-clause-level
returns-clause-level c =
    let below : level_of c.self.inside.id < 30 = rw (← c.self.view_is) at c.requires.level in
    rw (c.lowest_bit-lowest_bit.ensures, c.from.ensures, ← c.self.view_is)
    (child_cell c.args.k c.self.inside.id c.self.invariant c.requires.k below).level_is

pub returns-clause-leaves : goal.returns-clause-leaves
returns-clause-leaves c =
    let below : level_of c.self.inside.id < 30 = rw (← c.self.view_is) at c.requires.level in
    rw (c.lowest_bit-lowest_bit.ensures, c.from.ensures, ← c.self.view_is)
    (λ leaf is. child_cell_has c.args.k c.self.inside.id
    (position_of leaf) c.self.invariant c.requires.k below)

pub returns-clause-valid : goal.returns-clause-valid
returns-clause-valid c = invariant_of-result c
