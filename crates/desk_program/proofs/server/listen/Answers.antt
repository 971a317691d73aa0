use Rattle.std.proofs.Common.{◌∙◌, subst}
use Rattle.desk_cli.specs.Exits.{IsAnnounced}
use Rattle.desk_program.proofs.BegunLemmas.{announced_by}
use Rattle.desk_program.proofs.server.listen.Goals as goal

pub returns-clause-printed : goal.returns-clause-printed
returns-clause-printed g c =
    let out = g.W.Write.contents c.args.output.now in
    let now = g.W.Write.contents c.write_text.new.output in
    subst (λ line. IsAnnounced c.write_text.result line out now)
    (c.deref.ensures ∙ c.in_ok-text.ensures)
    (announced_by c.write_text.result c.deref.result.now out now c.write_text.ensures.ok
    c.write_text.ensures.err)
