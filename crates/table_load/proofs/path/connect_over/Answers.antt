use Rattle.table_load.proofs.path.connect_over.Goals as goal

pub returns-in-Ok-clause-found : goal.returns-in-Ok-clause-found
returns-in-Ok-clause-found g c = record {
  first = λ clean. let found = c.in-Ok.ensures.found clean in
      (c.in-Ok.ensures.opened clean, record { holds = found.holds; reads = found.reads });
  guarded = c.in-Ok.ensures.guarded;
  summed = c.in-Ok.ensures.sums;
}
