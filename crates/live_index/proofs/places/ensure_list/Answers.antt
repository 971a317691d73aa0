use Rattle.std.proofs.Common.{Some, arith, ap}
use Rattle.live_index.specs.Live.{length_or_none, list_of}
use Rattle.live_index.proofs.PlaceLemmas.{absent, grown}
use Rattle.live_index.proofs.places.ensure_list.Goals as goal

pub returns-clause-kept : goal.returns-clause-kept
returns-clause-kept c =
    let old = c.args.plans.now.entries in
    let none = ap length_or_none (absent (list_of c.args.key.now old) c.if-contains_key.ensures) in
    grown c.args.key.now old c.insert.new.self.entries (Some c.new.result) c.in_ok-insert.ensures.updates.0
    (omega (arith, none))
