use Rattle.std.proofs.Common.{ℕ, ◌≡◌, ◌+◌, List, arith, subst, sym}
use Rattle.s2_cellid.specs.Cell.{last_leaf}
use Rattle.s2_cover.specs.Covers.{IsLaid}
use Rattle.s2_cover.proofs.Laid.{IsCutAt, largest_at, next_cut, laid_more}
use Rattle.s2_cover.proofs.covers.push_cells.Goals as goal

pub loop-position-preserved : goal.loop-position-preserved
loop-position-preserved g c =
    let cell = c.largest_from-cell.result in
    let position = c.loop-position.position in
    let here = c.largest_from-cell.ensures in
    let invariant = c.loop-position.invariant in
    let span = c.args.span.now in
    let largest =
    largest_at g.set span position cell c.requires.0 invariant.cut invariant.from here in
    let more =
    laid_more g.set c.loop-position.cells.items position cell invariant.laid largest here.is.begins in
    let ends : last_leaf cell ≡ c.last-position.result = sym c.last-position.ensures.value in
    record {
      laid =
          let P : List ℕ → ℕ → Type 0 = λ ids last. IsLaid g.set ids (last + 1) in
          subst (λ last. P c.push.new.self.items last) ends
          (subst (λ ids. P ids (last_leaf cell)) (sym c.in_ok-push.ensures.items) more);
      cut = subst (λ last. IsCutAt span (last + 1)) ends (next_cut span position cell invariant.cut here);
      from = omega (arith, c.last-position.ensures, here.is, invariant.from);
      upto = omega (arith, ends, here.is);
    }
