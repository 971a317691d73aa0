use Rattle.uss_desk.proofs.RunLemmas.{ok_then, some_then, stays_guarded}
use Rattle.uss_desk.proofs.playing.play_line.Goals as goal

pub returns-clause-run : goal.returns-clause-run
returns-clause-run g c = record {
  done = ok_then c.args.opened c.play_opened.ensures.opened (λ desk some.
      some_then c.play_opened.result.1 some
      (λ left out. (out.played, out.remembered.doubt, out.remembered.shield)));
  kept = ok_then c.args.opened c.play_opened.ensures.opened (λ desk some.
      some_then c.play_opened.result.1 some (λ left out. out.kept));
  undone = c.play_opened.ensures.unopened;
}

pub returns-clause-guarded : goal.returns-clause-guarded
returns-clause-guarded g c past is tested =
    stays_guarded past is c.args.opened c.play_opened.result.1 tested
    (ok_then c.args.opened c.play_opened.ensures.opened (λ desk some.
    some_then c.play_opened.result.1 some (λ left out. out.remembered.shield)))
