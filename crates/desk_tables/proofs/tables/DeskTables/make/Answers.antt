use Rattle.std.proofs.Common.{sym, subst}
use Rattle.desk_tables.specs.Store.{IsNext}
use Rattle.row_codec.specs.SpanBounds.{BringsKnown}
use Rattle.row_codec.proofs.lemmas.Result.{weaker}
use Rattle.desk_tables.proofs.tables.DeskTables.make.Goals as goal

pub enrol-requires : goal.enrol-requires
enrol-requires g c =
    subst (IsNext g.S.Store c.args.self.now c.state_after-next.result.world) c.in-Enrol.is
    (record { world = c.state_after-next.ensures; fits = c.requires })

pub put-requires : goal.put-requires
put-requires g c =
    subst (IsNext g.S.Store c.args.self.now c.state_after-next.result.world) c.in-Put.is
    (record { world = c.state_after-next.ensures; fits = c.requires })

pub close-requires : goal.close-requires
close-requires g c =
    subst (IsNext g.S.Store c.args.self.now c.state_after-next.result.world) c.in-Close.is
    (record { world = c.state_after-next.ensures; fits = c.requires })

pub clear-requires : goal.clear-requires
clear-requires g c =
    subst (IsNext g.S.Store c.args.self.now c.state_after-next.result.world) c.in-Clear.is
    (record { world = c.state_after-next.ensures; fits = c.requires })

pub returns-in-Put-clause-known : goal.returns-in-Put-clause-known
unfolding BringsKnown
returns-in-Put-clause-known g c =
    weaker c.put.result (λ after known. (
      known.0,
      subst (BringsKnown after) (sym c.in-Put.is) known.1,
    )) c.put.ensures.known

pub returns-in_ok-enrol-in-Enrol-clause-known : goal.returns-in_ok-enrol-in-Enrol-clause-known
unfolding BringsKnown
returns-in_ok-enrol-in-Enrol-clause-known g c =
    (λ span was. was, subst (BringsKnown c.args.span_bounds.now) (sym c.in-Enrol.is) tt)

pub returns-in_ok-close-in-Close-clause-known : goal.returns-in_ok-close-in-Close-clause-known
unfolding BringsKnown
returns-in_ok-close-in-Close-clause-known g c =
    (λ span was. was, subst (BringsKnown c.args.span_bounds.now) (sym c.in-Close.is) tt)

pub returns-in_ok-clear-in-Clear-clause-known : goal.returns-in_ok-clear-in-Clear-clause-known
unfolding BringsKnown
returns-in_ok-clear-in-Clear-clause-known g c =
    (λ span was. was, subst (BringsKnown c.args.span_bounds.now) (sym c.in-Clear.is) tt)
