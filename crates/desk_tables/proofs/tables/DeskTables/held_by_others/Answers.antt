use Rattle.desk_tables.proofs.OtherLemmas.{others_held}
use Rattle.desk_tables.proofs.tables.DeskTables.held_by_others.Goals as goal

pub returns : goal.returns
returns g c =
    let read = c.held_in_regions.ensures in
    record {
      value = λ clean.
          others_held (λ v. v.items) c.args.self.now.world c.args.operator.now c.args.extents.now
          c.in_ok-regions.regions.items c.deref-2.result.now c.deref-2.ensures.value
          (c.in_ok-regions.ensures c.args.self.now.world c.requires.live) c.held_in_regions.result
          (read.value clean);
      cause = read.cause;
      same = read.same;
      reads = read.reads;
    }
