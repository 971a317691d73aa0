use Rattle.std.proofs.Common.{◌≡◌, ap, rules, string_bytes, subst}
use Rattle.sqlite_wal.specs.Files.{image_at}
use Rattle.desk_wire.specs.Streams.{course}
use Rattle.desk_cli.specs.Lines.{file_of}
use Rattle.host_files.specs.Naming.{Follows}
use Rattle.host_files.specs.Paths.{steps_of}
use Rattle.desk_host.specs.FoundLogs.{AreScratchPaths, make_steps, scratch_of}
use Rattle.desk_admin.specs.ScratchCopies.{IsTestReported}
use Rattle.desk_admin.proofs.ScratchLemmas.{copied_from}
use Rattle.desk_admin.proofs.scratch_copies.copy_by_scratch.Goals as goal

pub returns : goal.returns
returns g c =
    let source = string_bytes c.in-File.path in
    let to = string_bytes c.args.words.now.to in
    let path_is : c.deref.result.now ≡ source = search rules in
    let to_is : c.deref-2.result.now ≡ to = search rules in
    let reported_is : c.deref-4.result.now ≡ source = search rules in
    let made = c.make_scratch.new in
    let copied = c.copy_file-copied in
    let errors = g.E.Write.contents in
    let output = g.W.Write.contents in
    let mended = c.is_mended.result in
    let steps = steps_of g.P.Folder c.args.folder.now made.folder in
    record {
      source = source;
      from = g.P.Folder.steps made.folder;
      until = g.P.Folder.steps copied.new.folder;
      reported = errors copied.new.writers.errors;
      file = ap file_of c.in-File.is;
      made = subst (λ s. Follows steps (make_steps source (scratch_of to) s)) c.is_mended.ensures
          (subst (λ t. Follows steps (make_steps source (scratch_of t) mended)) to_is
          (subst (λ p. Follows steps (make_steps p (scratch_of c.deref-2.result.now) mended)) path_is
          c.in-Ok.ensures.made.1));
      copies = copied_from (image_at g.F.Start) (image_at g.N.Start) c.args.words.now.database
          (steps_of g.P.Folder made.folder copied.new.folder) copied.result.0
          (errors c.args.writers.now.errors) (errors made.errors) (errors copied.new.writers.errors)
          (output c.args.writers.now.output) (output copied.new.writers.output) copied.result.1
          c.in-Ok.ensures.quiet copied.ensures.copied;
      named = copied.ensures.named;
      own = copied.ensures.own;
      removed = c.remove_scratch.ensures to (subst (λ t. AreScratchPaths t c.in-Ok.scratch) to_is c.in-Ok.ensures.made.0);
      noted = subst (λ p. IsTestReported p c.args.way copied.result.0.status
          (course (errors copied.new.writers.errors) (errors c.report_tested.new.errors))) reported_is
          c.report_tested.ensures;
    }
