use Rattle.std.proofs.Common.{◌∷◌}
use Rattle.row_codec.specs.RowsRead.{BeginNoListing}
use Rattle.row_codec.proofs.lemmas.Collector.{never_ungathered}
use Rattle.row_codec.proofs.lemmas.Unread.{refused_by}
use Rattle.row_codec.proofs.listing.PlanCollectorRowVisitor.take.Goals as goal

pub returns-in-Err-clause-refused : goal.returns-in-Err-clause-refused
returns-in-Err-clause-refused c = λ rows collected.
    refused_by c.in-Err.e c.error_of.result (BeginNoListing rows c.args.row.now) c.error_of.ensures
    (λ store ps left h low same.
    never_ungathered c.args.self.now.plans.items c.args.self.now.head c.args.self.now.volumes.items
    c.args.row.now left ps h low (collected ps (c.args.row.now ∷ left) h same)
    (c.in-Err.ensures.refused store))
