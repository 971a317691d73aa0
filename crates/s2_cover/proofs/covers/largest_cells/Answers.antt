use Rattle.std.proofs.Common.{◌<◌, length, arith, subst, sym, add-one, ◌≡◌}
use Rattle.s2_cover.specs.Covers.{IsLaid}
use Rattle.s2_cover.proofs.Laid.{canonical_when_laid, leaves_when_laid}
use Rattle.s2_cover.proofs.Runs.{run_at, laid_before, all_below, end_of}
use Rattle.s2_cover.proofs.covers.largest_cells.Goals as goal

pub push_cells-requires : goal.push_cells-requires
push_cells-requires g c =
    let spans = c.args.spans.now in
    let i = c.loop-span.span-index in (
      run_at g.set spans i c.requires.1 c.loop-span-test.true,
      laid_before g.set spans c.loop-span.cells.items i c.requires.1 c.loop-span-test.true
          c.loop-span.invariant,
    )

pub loop-span-preserved : goal.loop-span-preserved
loop-span-preserved g c =
    subst (λ j. IsLaid g.set c.push_cells.new.cells.items (end_of c.args.spans.now j))
    (sym (add-one c.loop-span.span-index)) c.in_ok-push_cells.ensures

pub returns-clause-canonical : goal.returns-clause-canonical
returns-clause-canonical g c =
    let spans = c.args.spans.now in
    let i = c.loop-span.span-index in
    let all : length spans ≡ i = omega (arith, c.loop-span.auto, c.loop-span-test) in
    canonical_when_laid g.set c.loop-span.cells.items (end_of spans i) c.loop-span.invariant
    (λ p has. subst (λ n. p < end_of spans n) all (all_below g.set spans p c.requires.1 has))

pub returns-clause-leaves : goal.returns-clause-leaves
returns-clause-leaves g c =
    let spans = c.args.spans.now in
    let i = c.loop-span.span-index in
    let all : length spans ≡ i = omega (arith, c.loop-span.auto, c.loop-span-test) in
    leaves_when_laid g.set c.loop-span.cells.items (end_of spans i) c.loop-span.invariant
    (λ p has. subst (λ n. p < end_of spans n) all (all_below g.set spans p c.requires.1 has))
