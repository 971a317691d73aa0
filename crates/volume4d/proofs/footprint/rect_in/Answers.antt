use Rattle.std.proofs.Common.{◌∙◌, ap, get_or}
use Rattle.std.specs.Result.{result_ok}
use Rattle.s2_cover.specs.Covers.{RectParts}
use Rattle.volume4d.proofs.RectReadings.{read_rect}
use Rattle.volume4d.proofs.footprint.rect_in.Goals as goal

pub returns : goal.returns
returns c =
    let bytes = c.args.bytes.now in
    let parts : RectParts = record {
      face = get_or bytes 0 0;
      i_min = c.number_at-i_min.result;
      i_max = c.number_at-i_max.result;
      j_min = c.number_at-j_min.result;
      j_max = c.number_at-j_max.result;
      level = get_or bytes 17 0;
    } in
    read_rect bytes parts c.ok.result (λ k. (c.type_inv.bytes k).fits) c.requires
    (λ k. record {
      face = get_or bytes 0 0;
      i_min = c.number_at-i_min.ensures k;
      i_max = c.number_at-i_max.ensures k;
      j_min = c.number_at-j_min.ensures k;
      j_max = c.number_at-j_max.ensures k;
      level = get_or bytes 17 0;
    }) (c.ok.ensures.value ∙ ap result_ok c.try_new.ensures)
