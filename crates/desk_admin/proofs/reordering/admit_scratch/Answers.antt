use Rattle.std.proofs.Common.{IfOk, refl, subst}
use Rattle.desk_admin.specs.FilesReported.{IsReadAs}
use Rattle.desk_admin.proofs.reordering.admit_scratch.Goals as goal

pub returns-then-is_too_old-clause-admitted : goal.returns-then-is_too_old-clause-admitted
returns-then-is_too_old-clause-admitted g c = λ image reads fails.
    let old = c.if-is_too_old.ensures.old refl in
    record {
      file = c.in-Ok.read;
      read = subst (λ r. IfOk r (λ it. IsReadAs image it.0 it.1)) c.in-Ok.is reads;
      untaken = old.0;
      old = old.1;
      failure = refl;
    }

pub returns-else-is_too_old-clause-admitted : goal.returns-else-is_too_old-clause-admitted
returns-else-is_too_old-clause-admitted g c = λ image reads fails. record {
  file = c.in-Ok.read;
  read = subst (λ r. IfOk r (λ it. IsReadAs image it.0 it.1)) c.in-Ok.is reads;
  taken = c.if-is_too_old.ensures.taken refl;
}
