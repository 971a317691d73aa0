use Rattle.uss_desk.proofs.RunLemmas.{ok_then, some_then, stays_guarded}
use Rattle.uss_desk.proofs.running.run_line.Goals as goal

pub returns-clause-run : goal.returns-clause-run
returns-clause-run g c = record {
  done = ok_then c.args.opened c.run_opened.ensures.opened (λ desk some.
      some_then c.run_opened.result.1 some
      (λ left out. (out.done, out.remembered.doubt, out.remembered.shield)));
  kept = ok_then c.args.opened c.run_opened.ensures.opened (λ desk some.
      some_then c.run_opened.result.1 some (λ left out. out.kept));
  undone = c.run_opened.ensures.unopened;
}

pub returns-clause-guarded : goal.returns-clause-guarded
returns-clause-guarded g c past is tested =
    stays_guarded past is c.args.opened c.run_opened.result.1 tested
    (ok_then c.args.opened c.run_opened.ensures.opened (λ desk some.
    some_then c.run_opened.result.1 some (λ left out. out.remembered.shield)))
