use Rattle.std.proofs.Common.{ap, sym, subst}
use Rattle.uss_desk.specs.OpenedFor.{HasNoted}
use Rattle.uss_desk.proofs.opening.opened_anew.Goals as goal

pub returns-clause-noted : goal.returns-clause-noted
returns-clause-noted g c =
    subst (λ s. HasNoted s c.note.new.roll) (sym (ap (λ d. d.store) c.new.ensures)) c.note.ensures
