use Rattle.std.proofs.Common.{◌≡◌, ◌∙◌, rules, string_bytes}
use Rattle.desk_host.proofs.ScratchLemmas.{both_removed}
use Rattle.desk_host.specs.FoundLogs.{scratch_of}
use Rattle.desk_host.proofs.scratch.remove_scratch.Goals as goal

pub returns : goal.returns
returns g c path are =
    let file : c.deref.result.now ≡ string_bytes c.args.scratch.now.path = search rules in
    let log : c.deref-2.result.now ≡ string_bytes c.args.scratch.now.log = search rules in
    both_removed (scratch_of path) _ _ _ c.remove.result c.remove-2.result _ _ (file ∙ are.path_is)
    (log ∙ are.log_is) c.remove.ensures c.remove-2.ensures
