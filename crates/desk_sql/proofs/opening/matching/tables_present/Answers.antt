use Rattle.std.proofs.Common.{arith}
use Rattle.std.proofs.lemmas.Bool.{both_ways}
use Rattle.desk_sql.specs.Schema.{IsSchemaOf}
use Rattle.desk_sql.proofs.MadeLemmas.{few_places, one_more}
use Rattle.desk_sql.proofs.opening.matching.tables_present.Goals as goal

pub steps-init : goal.steps-init
steps-init c = λ made low. absurd (omega (arith, low))

pub steps-preserved : goal.steps-preserved
steps-preserved c = one_more (λ made. ¬ IsSchemaOf made c.args.schema.now) c.steps.made-index _
    c.steps.invariant (λ same. both_ways _ c.if-is_made.false (c.is_made.ensures.1 same))

pub returns : goal.returns
returns c = λ made. c.steps.invariant made (omega (arith, few_places made, c.steps-test.false))
