use Rattle.std.proofs.Common.{subst}
use Rattle.uss_desk.specs.OpenedFor.{AreReadsTested, HasNotedDesk}
use Rattle.uss_desk.proofs.session.Session.recover.Goals as goal

pub returns-in-Ok-clause-noted : goal.returns-in-Ok-clause-noted
returns-in-Ok-clause-noted g c =
    λ noted.
    c.finish.ensures.noted
    (subst (λ opened. HasNotedDesk opened c.args.self.now.roll) c.in-Ok.is noted)

pub returns-in-Ok-clause-tested : goal.returns-in-Ok-clause-tested
returns-in-Ok-clause-tested g c =
    λ tested. c.finish.ensures.tested (subst (λ opened. AreReadsTested opened) c.in-Ok.is tested)
