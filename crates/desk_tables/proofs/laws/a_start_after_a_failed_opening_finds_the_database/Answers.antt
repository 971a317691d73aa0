use Rattle.table_load.proofs.lemmas.Leftover.{finds_first, found_after}
use Rattle.desk_tables.proofs.laws.a_start_after_a_failed_opening_finds_the_database.Goals as goal

pub returns-clause-found : goal.returns-clause-found
returns-clause-found g c = λ image next it found db held remains first.
    finds_first image next it remains found first db held

pub returns-clause-after : goal.returns-clause-after
returns-clause-after g c = λ last image next it found by remains first.
    found_after image next it remains found first last by
