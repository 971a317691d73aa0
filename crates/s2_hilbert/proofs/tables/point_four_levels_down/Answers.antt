use Rattle.s2_hilbert.proofs.FourTables.{point_entry}
use Rattle.s2_hilbert.proofs.tables.point_four_levels_down.Goals as goal

pub returns-clause-place : goal.returns-clause-place
returns-clause-place c = (point_entry c.args.key _ c.requires).place_is

pub returns-clause-row : goal.returns-clause-row
returns-clause-row c = (point_entry c.args.key _ c.requires).row_is

pub returns-clause-i : goal.returns-clause-i
returns-clause-i c = (point_entry c.args.key _ c.requires).i_below

pub returns-clause-j : goal.returns-clause-j
returns-clause-j c = (point_entry c.args.key _ c.requires).j_below
