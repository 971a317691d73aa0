use Rattle.std.proofs.Common.{refl, subst, sym}
use Rattle.sqlite_wal.specs.Format.{be32}
use Rattle.sqlite_wal.specs.PageSize.{Names, size_in_file}
use Rattle.sqlite_wal.specs.Reads.{AreClean}
use Rattle.sqlite_wal.specs.Recovery.{IsIgnored}
use Rattle.sqlite_wal.specs.declared.error.Error.TheVariants.{Corrupt, Io, OutOfMemory}
use Rattle.db_file.specs.Orders.{IsUnread, NamesSize, faults_of, image_of, leaves}
use Rattle.db_file.proofs.CommitLemmas.{none_named, over_read, size_named, unread}
use Rattle.db_file.proofs.committing.open_pager.Goals as goal

pub returns-in-Ok-clause-fresh : goal.returns-in-Ok-clause-fresh
returns-in-Ok-clause-fresh g c =
    let old = c.args.files in
    let read = c.probe_page_size.new.files in
    let was = image_of g.D.Disk old in
    let clean = AreClean g.D.Disk read.log read.db in
    let by_log = subst (λ f. clean → ¬ IsIgnored was.log → Names f (be32 was.log 8)) c.in-Ok-Some.field-0-is
    c.in-Ok-Some.ensures.by_log in
    let by_file = subst (λ f. clean → IsIgnored was.log → Names f (size_in_file was.db)) c.in-Ok-Some.field-0-is
    c.in-Ok-Some.ensures.by_file in
    over_read old read c.probe_page_size.ensures.log c.probe_page_size.ensures.db c.in-Ok.pager
    c.in-Ok.ensures.files c.in-Ok-Some.ensures.faults
    (λ is. subst (NamesSize was) (sym c.in-Ok.ensures.size)
    (size_named was c.in-Ok-Some.size clean by_log by_file is))

pub returns-in-Err-new-clause-left : goal.returns-in-Err-new-clause-left
returns-in-Err-new-clause-left g c =
    let old = c.args.files in
    subst (IsUnread g.D.Disk (image_of g.D.Disk old) (leaves g.D.Disk old) (faults_of g.D.Disk old) OutOfMemory)
    (sym c.in-Err-new.ensures.back)
    (unread old c.probe_page_size.new.files c.probe_page_size.ensures.log c.probe_page_size.ensures.db OutOfMemory
    (λ is. tt))

pub returns-in-Ok-None-clause-left : goal.returns-in-Ok-None-clause-left
returns-in-Ok-None-clause-left g c =
    let old = c.args.files in
    let read = c.probe_page_size.new.files in
    let was = image_of g.D.Disk old in
    let clean = AreClean g.D.Disk read.log read.db in
    let by_log = subst (λ f. clean → ¬ IsIgnored was.log → Names f (be32 was.log 8)) c.in-Ok-None.field-0-is
    c.in-Ok-None.ensures.by_log in
    let by_file = subst (λ f. clean → IsIgnored was.log → Names f (size_in_file was.db)) c.in-Ok-None.field-0-is
    c.in-Ok-None.ensures.by_file in
    unread old read c.probe_page_size.ensures.log c.probe_page_size.ensures.db Corrupt
    (λ is. (refl, none_named was clean by_log by_file is))

pub returns-in-Err-clause-left : goal.returns-in-Err-clause-left
returns-in-Err-clause-left g c =
    unread c.args.files c.probe_page_size.new.files c.probe_page_size.ensures.log c.probe_page_size.ensures.db
    (Io c.in-Err.error) (λ is. c.in-Err.ensures.faults.0)
