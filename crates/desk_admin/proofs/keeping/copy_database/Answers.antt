use Rattle.std.proofs.Common.{◌≡◌, inl, inr, rules, string_bytes, subst}
use Rattle.sqlite_wal.specs.Files.{image_at}
use Rattle.desk_admin.proofs.KeepLemmas.{copy_fails, made_on, named_if}
use Rattle.host_files.proofs.lemmas.Reporting.{reports_both}
use Rattle.host_files.proofs.lemmas.Naming.{found_own, not_free_failed, not_free_names, not_free_others}
use Rattle.host_files.specs.Paths.{steps_of}
use Rattle.host_files.specs.Naming.{AreNames, Follows, free_steps}
use Rattle.desk_admin.specs.FilesReported.{FailsUntried}
use Rattle.desk_admin.proofs.keeping.copy_database.Goals as goal

pub returns-in-Err-clause-fault : goal.returns-in-Err-clause-fault
returns-in-Err-clause-fault g c =
    let to = string_bytes c.args.words.now.to in
    let are : AreNames to c.in_ok-names.names = search rules in
    let refused = c.in-Err.ensures.refused to are in
    inr
    (inr
    (inl (
      not_free_failed refused.1,
      subst (λ f. FailsUntried f c.untried-in-Err.result) refused.0 c.untried-in-Err.ensures,
    )))

pub returns-in-Err-clause-named : goal.returns-in-Err-clause-named
returns-in-Err-clause-named g c =
    let to = string_bytes c.args.words.now.to in
    let are : AreNames to c.in_ok-names.names = search rules in
    inl (not_free_names (c.in-Err.ensures.refused to are).1)

pub returns-in-Err-clause-own : goal.returns-in-Err-clause-own
returns-in-Err-clause-own g c =
    let to = string_bytes c.args.words.now.to in
    let are : AreNames to c.in_ok-names.names = search rules in
    not_free_others (c.in-Err.ensures.refused to are).1

pub returns-clause-made : goal.returns-clause-made
returns-clause-made g c =
    made_on _ c.copy_and_close-copied.result c.publish_or_discard.result c.copy_and_close-copied.ensures.made
    c.publish_or_discard.ensures.made

pub returns-clause-fault : goal.returns-clause-fault
returns-clause-fault g c =
    let to = string_bytes c.args.words.now.to in
    let are : AreNames to c.in_ok-names.names = search rules in
    let free : Follows (steps_of g.P.Folder c.args.folder.now c.make_room_or_report.new.folder) (free_steps to) =
    search rules in
    copy_fails _ _ _ to free (image_at g.F.Start) (image_at g.N.Start)
    c.args.words.now.database c.copy_and_close-copied.result c.publish_or_discard.result
    c.copy_and_close-copied.ensures.fault c.publish_or_discard.ensures.fault

pub returns-clause-reported : goal.returns-clause-reported
returns-clause-reported g c = reports_both c.make_room_or_report.ensures.reported c.publish_or_discard.ensures.reported

pub returns-clause-named : goal.returns-clause-named
returns-clause-named g c =
    let to = string_bytes c.args.words.now.to in
    let are : AreNames to c.in_ok-names.names = search rules in
    let free : Follows (steps_of g.P.Folder c.args.folder.now c.make_room_or_report.new.folder) (free_steps to) =
    search rules in
    named_if _ _ _ to free c.publish_or_discard.result (c.publish_or_discard.ensures.named to are)

pub returns-clause-own : goal.returns-clause-own
returns-clause-own g c =
    let to = string_bytes c.args.words.now.to in
    let are : AreNames to c.in_ok-names.names = search rules in
    let free : Follows (steps_of g.P.Folder c.args.folder.now c.make_room_or_report.new.folder) (free_steps to) =
    search rules in
    found_own _ _ _ to free (c.publish_or_discard.ensures.own to are)
