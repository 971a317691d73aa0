use Rattle.std.proofs.Common.{◌<◌}
use Rattle.desk_sql.specs.declared.opening.finding.TablesPresent.{TablesPresent}
use Rattle.desk_sql.specs.Schema.{IsSchemaOf}
use Rattle.desk_sql.proofs.MadeLemmas.{place_of}
use Rattle.desk_sql.proofs.opening.matching.tables_present.Given as goal

abbrev pub invariant-steps : goal.invariant-steps
invariant-steps l = (made : TablesPresent) → place_of made < l.made-index → ¬ IsSchemaOf made l.schema
