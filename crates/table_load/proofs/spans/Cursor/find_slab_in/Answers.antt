use Rattle.std.proofs.Common.{◌≡◌, ◌∙◌, ◌<◌, [], ap, arith, drop, length}
use Rattle.std.proofs.lemmas.List.{drop_all}
use Rattle.row_codec.proofs.lemmas.Exact.{cut_in}
use Rattle.table_load.proofs.SpanCheckLemmas.{shows}
use Rattle.table_load.proofs.spans.Cursor.find_slab_in.Goals as goal

pub loop-self-preserved : goal.loop-self-preserved
loop-self-preserved c = (
  c.loop-self.invariant.0,
  λ later rows.
      let p = c.args.plan.now in
      let at = c.loop-self.self-inside in
      let v = c.in-Some.volume.now in
      let volumes_are = c.volumes.ensures.value ∙ ap (λ p. p.row.area) c.plan.view_is in
      let within : at.place < length c.volumes.result.now = omega (arith, c.in-Some.ensures.lookup) in
      let spent : drop at.next at.slabs.items ≡ [] =
      drop_all at.next at.slabs.items (omega (arith, c.loop-self-test.true)) in
      shows c.one_list_of_ranges.ensures p later (drop at.next at.slabs.items)
      c.in_ok-self-inside.field-0.items at.shown at.place v spent c.in_ok-self-inside.ensures.ranges
      (cut_in c.volumes.result.now p.row.area at.place v volumes_are within c.in-Some.ensures.lookup.1)
      _ rows (c.loop-self.invariant.1 later rows),
)
