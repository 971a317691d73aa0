use Rattle.std.proofs.Common.{IsSome, Some, ap, arith, length, refl, subst}
use Rattle.live_index.specs.Live.{length_or_none}
use Rattle.live_index.proofs.PlaceLemmas.{grown}
use Rattle.live_index.proofs.places.push.Goals as goal

pub returns-in_err-push-clause-kept : goal.returns-in_err-push-clause-kept
returns-in_err-push-clause-kept c =
    let some = subst IsSome c.in-Some.ensures.value refl in
    let was = ap length_or_none c.in-Some.ensures.value in
    let same = ap length c.in_err-push.ensures.items in
    grown c.args.key.now c.args.plans.now.entries _ (Some c.push.new.self)
    ((c.get_mut.follows.holds _).3 some).0 (omega (arith, was, same))

pub returns-in_ok-push-clause-kept : goal.returns-in_ok-push-clause-kept
returns-in_ok-push-clause-kept c =
    let some = subst IsSome c.in-Some.ensures.value refl in
    let was = ap length_or_none c.in-Some.ensures.value in
    let more = c.in_ok-push.ensures.len in
    grown c.args.key.now c.args.plans.now.entries _ (Some c.push.new.self)
    ((c.get_mut.follows.holds _).3 some).0 (omega (arith, was, more))
