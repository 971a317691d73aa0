use Rattle.uss_desk.proofs.RunLemmas.{ok_then, some_then, stays_guarded}
use Rattle.uss_desk.proofs.replaying.replay_line.Goals as goal

pub returns-clause-guarded : goal.returns-clause-guarded
returns-clause-guarded g c past is tested =
    stays_guarded past is c.args.opened c.replay_opened.result.1 tested
    (ok_then c.args.opened c.replay_opened.ensures.opened (λ desk some.
    some_then c.replay_opened.result.1 some (λ left out. out.2)))
