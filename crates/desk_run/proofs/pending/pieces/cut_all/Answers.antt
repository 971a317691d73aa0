use Rattle.std.proofs.Common.{◌+◌, ◌∙◌, ap, refl, arith, get_or}
use Rattle.std.proofs.lemmas.Grind.{drop_more_same}
use Rattle.std.proofs.lemmas.List.{drop-set-lt}
use Rattle.desk_run.proofs.PieceLemmas.{cut_more, cut_none}
use Rattle.desk_run.proofs.pending.pieces.cut_all.Goals as goal

pub loop-held-init : goal.loop-held-init
loop-held-init c = record { cut = cut_none c.args.piece.now; rest = refl }

pub loop-held-preserved : goal.loop-held-preserved
loop-held-preserved c =
    let old = c.args.helds.now in
    let now = c.loop-held.helds in
    let i = c.loop-held.held-index in
    let held = get_or now i c.held-item.result in
    let so_far = c.loop-held.invariant in
    record {
      cut = λ x.
          cut_more c.args.piece.now old now i held c.cut.result x (omega arith) c.loop-held.auto.helds
          (ap (get_or now i) c.held-item.is) so_far.rest c.cut.ensures (so_far.cut x);
      rest = drop-set-lt (i + 1) now i _ (omega arith) ∙ drop_more_same now old i so_far.rest;
    }
