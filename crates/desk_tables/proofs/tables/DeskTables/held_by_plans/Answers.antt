use Rattle.std.proofs.Common.{◌≡◌, take, subst, arith}
use Rattle.std.proofs.lemmas.List.{take_all}
use Rattle.desk_tables.proofs.KeyLemmas.{IsReadingPlans, plans_begin, plans_level, plans_on}
use Rattle.desk_tables.proofs.tables.DeskTables.held_by_plans.Goals as goal

pub loop-key-init : goal.loop-key-init
loop-key-init g c =
    plans_begin g.S.Store c.args.least c.args.extent.now c.args.self.now c.new-helds.result.items
    c.allocator.ensures c.new-helds.ensures.items

pub loop-key-preserved : goal.loop-key-preserved
loop-key-preserved g c =
    let read = c.in_ok-more.ensures.read in
    plans_on g.S.Store c.args.least c.args.extent.now c.args.self.now c.loop-key.self
    c.held_by_plan.new.self c.args.keys.now c.loop-key.key-index c.key-item.result
    c.loop-key.helds.items c.in_ok-more.more.items _ c.loop-key.invariant read.same read.reads
    c.loop-key-test.true c.key-item.is c.held_by_plan.ensures.id c.in_ok-more.ensures.open read.value
    c.in_ok-append.ensures.items

pub returns : goal.returns
returns g c =
    let it = c.loop-key.invariant in
    let all : take c.loop-key.key-index c.args.keys.now ≡ c.args.keys.now =
    take_all c.loop-key.key-index c.args.keys.now (omega (arith, c.loop-key-test.false)) in
    record {
      value = plans_level g.S.Store c.args.least c.args.extent.now c.args.self.now c.loop-key.self
          c.args.keys.now c.loop-key.helds.items c.allocator.ensures
          (subst (λ keys. IsReadingPlans g.S.Store c.args.least c.args.extent.now c.args.self.now
          c.loop-key.self keys c.loop-key.helds.items) all it);
      cause = tt;
      same = it.asking.same;
      reads = it.asking.reads;
    }
