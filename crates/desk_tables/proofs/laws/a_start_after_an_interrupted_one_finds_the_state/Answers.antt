use Rattle.sqlite.specs.Files.{over_files}
use Rattle.desk_tables.proofs.CutFoundLemmas.{begins_moved_shown, found_after_cut}
use Rattle.desk_tables.proofs.laws.a_start_after_an_interrupted_one_finds_the_state.Goals as goal

pub returns-clause-found : goal.returns-clause-found
returns-clause-found g c = found_after_cut c.one_shape.ensures

pub returns-clause-begins : goal.returns-clause-begins
returns-clause-begins g c = begins_moved_shown c.one_shape.ensures over_files
