use Rattle.std.proofs.Common.{Err, refl, subst, sym}
use Rattle.desk_wire.specs.Streams.{course}
use Rattle.desk_admin.specs.ScratchCopies.{IsOrderedIf}
use Rattle.desk_admin.proofs.reordering.reorder_if_valid.Goals as goal

pub returns-in-Ok-clause-ordered : goal.returns-in-Ok-clause-ordered
returns-in-Ok-clause-ordered g c = λ image reads fails scratch_copies.
    let removed = g.P.Folder.steps c.remove_scratch.new.folder in
    record {
      admitted = c.admit_scratch-admitted.result.0;
      between = removed;
      is = c.admit_scratch-admitted.ensures.admitted image reads fails;
      removed = c.remove_scratch.ensures c.args.file.path.now scratch_copies;
      ordered = subst (λ it. IsOrderedIf c.args.file.path.now it c.reorder_or_report.result
          (course removed (g.P.Folder.steps c.reorder_or_report.new.folder))) (sym c.in-Ok.is) c.reorder_or_report.ensures.ordered;
    }

pub returns-in-Err-clause-ordered : goal.returns-in-Err-clause-ordered
returns-in-Err-clause-ordered g c = λ image reads fails scratch_copies.
    let removed = g.P.Folder.steps c.remove_scratch.new.folder in
    record {
      admitted = c.admit_scratch-admitted.result.0;
      between = removed;
      is = c.admit_scratch-admitted.ensures.admitted image reads fails;
      removed = c.remove_scratch.ensures c.args.file.path.now scratch_copies;
      ordered = subst (λ it. IsOrderedIf c.args.file.path.now it (Err c.in-Err.failure)
          (course removed removed)) (sym c.in-Err.is) (refl, refl);
    }
