use Rattle.std.proofs.Common.{[], ◌∙◌}
use Rattle.std.proofs.lemmas.List.{append-nil}
use Rattle.row_codec.specs.RowsRead.{listing_rows}
use Rattle.row_codec.proofs.JoinLemmas.{ended}
use Rattle.row_codec.proofs.listing.PlanCollector.finish.Goals as goal

pub returns-clause-value : goal.returns-clause-value
returns-clause-value c = λ ps h collected. c.in_ok-finish_plan.ensures.plans
    ∙ ended c.args.self.plans.items c.args.self.head c.args.self.volumes.items ps h
    (collected ps [] h (append-nil (listing_rows ps)))
