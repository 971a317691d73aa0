use Rattle.std.proofs.Common.{◌∙◌, ◌<◌, ◌≤◌, Ok, refl, rules}
use Rattle.db_file.specs.declared.judging.WalState.TheVariants.{Damaged, Sound}
use Rattle.db_file.specs.declared.judging.WalError.{WalError}
use Rattle.db_file.proofs.JudgeLemmas.{all_taken, reported_at}
use Rattle.db_file.proofs.judging.check_frames.Goals as goal

pub returns-in_default-clause-value : goal.returns-in_default-clause-value
returns-in_default-clause-value g c page bytes len same is_head size before =
    all_taken page bytes _ same is_head size (rw c.in_default.is at
    (c.in_ok-stop.ensures.value page bytes len same before))

pub returns-then-commits-lt2-clause-value : goal.returns-then-commits-lt2-clause-value
returns-then-commits-lt2-clause-value g c page bytes len same is_head size before =
    let stops = rw c.in-Some.is at (c.in_ok-stop.ensures.value page bytes len same before) in
    let lost = c.in_ok-commits.ensures.value page c.in-Some.stop bytes (c.find_stop.auto.frame ∙ len) same
    stops.next in
    let few : c.in_ok-commits.commits < 2 = search rules in
    reported_at page bytes _ same is_head size {E = WalError} c.in-Some.stop _ _ (Ok Sound) stops (c.in_ok-commits.commits, lost, few)

pub returns-clause-value : goal.returns-clause-value
returns-clause-value g c page bytes len same is_head size before =
    let stops = rw c.in-Some.is at (c.in_ok-stop.ensures.value page bytes len same before) in
    let lost = c.in_ok-commits.ensures.value page c.in-Some.stop bytes (c.find_stop.auto.frame ∙ len) same
    stops.next in
    let several : 2 ≤ c.in_ok-commits.commits = search rules in
    reported_at page bytes _ same is_head size {E = WalError} c.in-Some.stop _ _ (Ok (Damaged c.in-Some.stop c.in_ok-commits.commits))
    stops (refl, lost, several)
