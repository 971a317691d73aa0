use Rattle.std.proofs.Common.{◌∷◌, [], ◌++◌, ◌∙◌, ap, sym, subst, take}
use Rattle.std.specs.Int.{w64, to_be_bytes}
use Rattle.std.proofs.lemmas.List.{take_more, flat_map_more}
use Rattle.std.proofs.lemmas.List.Elements.{All-more}
use Rattle.s2_cellid.specs.Cell.{IsCellId}
use Rattle.volume4d.proofs.IdBytes.{bytes_of}
use Rattle.volume4d.proofs.footprint.cell_bytes.Goals as goal

pub loop-cell-preserved : goal.loop-cell-preserved
loop-cell-preserved c =
    let cells = c.args.cells.now in
    let n = c.loop-cell.cell-index in
    let cell = c.cell-item.result in
    let below = c.loop-cell-test.true in
    let more = take_more cells n cell below ∙ ap (λ id. take n cells ++ id ∷ []) (sym c.cell-item.is) in
    record {
      written =
          c.in_ok-extend_from_slice.ensures.items ∙ (λ k. c.loop-cell.invariant.written k
          ++ c.id_bytes.ensures.value k)
          ∙ flat_map_more (λ id. to_be_bytes w64 id) (1 ∷ []) (take n cells) cell
          ∙ ap (λ ids. 1 ∷ bytes_of ids) (sym more);
      valid = All-more IsCellId cells n cell below c.loop-cell.invariant.valid
          (subst IsCellId c.cell-item.is c.id_bytes.ensures.valid);
    }
