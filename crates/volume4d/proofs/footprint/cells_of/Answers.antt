use Rattle.std.proofs.Common.{◌≡◌, ◌%◌, ◌/◌, length, arith, IsTrue}
use Rattle.volume4d.specs.VolumeLimits.{within_cells}
use Rattle.volume4d.proofs.Readings.{counted, valid_id, one_more, all_read}
use Rattle.volume4d.proofs.footprint.cells_of.Goals as goal
use Rattle.volume4d.proofs.footprint.cells_of.Goals.{then-not-is_empty-via-then-not-is_empty, then-not-is_empty-via-else-not-is_empty+then-not-is_allowed_count}

pub returns-then-not-is_empty : goal.returns-then-not-is_empty
returns-then-not-is_empty c = λ shape a.
    let count = counted c.args.bytes.now shape a in
    elim c.then-not-is_empty.branch [
      | then-not-is_empty-via-then-not-is_empty w ↦
          let rest : length c.as_chunks.result.1.now ≡ length c.args.bytes.now % 8 =
          c.as_chunks.ensures.back_len in
          grind (arith, w.if-not-is_empty.ensures, count.0)
      | then-not-is_empty-via-else-not-is_empty+then-not-is_allowed_count w ↦
          let many : length c.as_chunks.result.0.now ≡ length c.args.bytes.now / 8 =
          c.as_chunks.ensures.front_len in
          grind (arith, w.is_allowed_count.ensures, w.if-not-is_allowed_count.true, count.1)
    ]

pub returns-in_default : goal.returns-in_default
returns-in_default c = λ shape a.
    c.in_default.ensures
    (valid_id c.args.bytes.now shape c.as_chunks.result.0.now c.loop-id.id-index a
    c.as_chunks.ensures.front
    c.loop-id-test.true)

pub loop-id-preserved : goal.loop-id-preserved
loop-id-preserved c =
    one_more c.as_chunks.result.0.now c.loop-id.id-index c.in-Some.cell c.loop-id.cells.items
    c.push.new.self.items c.loop-id-test.true
    c.loop-id.invariant.0 c.loop-id.invariant.1 c.in_ok-push.ensures.items c.in-Some.ensures

pub returns : goal.returns
returns c =
    let rest : length c.as_chunks.result.1.now ≡ length c.args.bytes.now % 8 =
    c.as_chunks.ensures.back_len in
    let even : length c.args.bytes.now % 8 ≡ 0 = grind (arith, c.if-not-is_empty.ensures) in
    let many : length c.as_chunks.result.0.now ≡ length c.args.bytes.now / 8 =
    c.as_chunks.ensures.front_len in
    let few : IsTrue (within_cells (length c.args.bytes.now / 8)) =
    grind (arith, c.is_allowed_count.ensures, c.if-not-is_allowed_count.false) in
    all_read c.args.bytes.now c.as_chunks.result.0.now c.loop-id.id-index c.loop-id.cells.items
    (λ k. (c.type_inv.bytes k).fits) even few
    c.as_chunks.ensures.front c.loop-id-test.false c.loop-id.invariant.0 c.loop-id.invariant.1
