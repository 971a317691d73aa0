use Rattle.std.proofs.Common.{ap, sym, subst, ◌∙◌}
use Rattle.sqlite_wal.specs.Files.{image_at}
use Rattle.sqlite.specs.Files.{over_files}
use Rattle.table_load.specs.Files.{AreRefused, OpensIn, IsGuarded, IsSettledAt}
use Rattle.uss_desk.specs.OpenedFor.{HasNoted}
use Rattle.desk_admin.proofs.UnopenedLemmas.{fails_over}
use Rattle.uss_desk.proofs.opening.open_file.Goals as goal

pub returns-in-Ok-clause-opened : goal.returns-in-Ok-clause-opened
returns-in-Ok-clause-opened g c =
    let same = ap (λ d. d.store) c.new.ensures ∙ c.over.ensures in
    let opens = subst (λ s. OpensIn (image_at g.F.Start) s.held s.world) (sym same) c.in-Ok.ensures.begins in
    let left = subst (λ s. IsSettledAt over_files s.held s.world) (sym same) c.in-Ok.ensures.left in record {
      opens = opens;
      left = λ clean. left clean (opens.live clean);
      guarded = subst (λ s. IsGuarded s.held) (sym same) c.in-Ok.ensures.guarded;
      none = ap (λ d. d.terms) c.new.ensures;
    }

pub returns-in-Ok-clause-noted : goal.returns-in-Ok-clause-noted
returns-in-Ok-clause-noted g c =
    subst (λ s. HasNoted s c.note.new.self) (sym (ap (λ d. d.store) c.new.ensures ∙ c.over.ensures))
    c.note.ensures.noted

pub returns-in-Err-clause-opened : goal.returns-in-Err-clause-opened
returns-in-Err-clause-opened g c =
    fails_over (λ files. AreRefused (image_at g.F.Start) files.fault files.connection) c.of.result
    c.in-Err.refused c.of.ensures.failure c.of.ensures.refused c.in-Err.ensures.fault
