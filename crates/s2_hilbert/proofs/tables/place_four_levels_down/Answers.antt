use Rattle.s2_hilbert.proofs.FourTables.{place_entry}
use Rattle.s2_hilbert.proofs.tables.place_four_levels_down.Goals as goal

pub returns-clause-place : goal.returns-clause-place
returns-clause-place c = (place_entry c.args.key _ c.requires).place_is

pub returns-clause-row : goal.returns-clause-row
returns-clause-row c = (place_entry c.args.key _ c.requires).row_is

pub returns-clause-below : goal.returns-clause-below
returns-clause-below c = (place_entry c.args.key _ c.requires).below
