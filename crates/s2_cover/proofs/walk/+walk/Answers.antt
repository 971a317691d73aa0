use Rattle.std.proofs.Common.{◌≡◌, ◌+◌, ◌-◌, ◌*◌, ◌^◌, ◌<◌, length, ℕ, List, refl, sym, ◌∙◌, ap, subst, arith}
use Rattle.s2_hilbert.specs.Curve.{first_position, last_position, leaf_count}
use Rattle.s2_cellid.specs.Cell.{square_id}
use Rattle.s2_cover.specs.Covers.{IsLaid, wide_set, HasWalked, HasStopped, comparisons_for}
use Rattle.s2_cover.proofs.SquareCells.{square_block}
use Rattle.s2_cover.proofs.Walks.{IsWalking, block_largest, child_opened, walked_outside, walked_inside, stopped_full, walking_begins, walking_goes_on, child_most, walking_ends, child_block, child_upto, stopped_later, if_err}
use Rattle.s2_cover.proofs.walk.+walk.Goals as goal

pub returns-in_err-push_cell-in-Inside-clause-err : goal.returns-in_err-push_cell-in-Inside-clause-err
returns-in_err-push_cell-in-Inside-clause-err t c =
    let set = wide_set c.args.wide.now in
    let square = c.args.square.now in
    let block = square_block square c.requires.square in
    let largest =
    block_largest set (square_id square) square.level (first_position square) block c.requires.opened
    c.in-Inside.ensures.is_overlap.is_overlap in
    let fault = c.in_err-push_cell-in-Inside.field-0.0 in
    let stopped =
    stopped_full set c.args.limit (first_position square) (square_id square) c.compare.new.looked _
    c.args.cells.now.items
    fault c.requires.laid largest block.begins (omega
    (arith, c.requires.counted, c.compare.ensures.counted))
    (omega (arith, c.compare.ensures.counted)) c.in_err-push_cell-in-Inside.ensures.full in
    if_err c.from_residual.result fault _ c.from_residual.ensures.1 stopped

pub loop-k-init : goal.loop-k-init
loop-k-init t c =
    let square = c.args.square.now in
    let cells = c.args.cells.now.items in
    let levels = c.args.wide.now.level - square.level - 1 in
    let most = 60 - 2 * (square.level + 1) in
    subst (IsWalking (wide_set c.args.wide.now) levels c.args.limit most (first_position square)
    (leaf_count (square.level + 1)) 0 cells cells c.args.looked.now) (sym c.compare.ensures.counted)
    (walking_begins (wide_set c.args.wide.now) levels c.args.limit most (first_position square)
    (leaf_count (square.level + 1)) c.args.looked.now cells c.requires.laid c.requires.few
    c.requires.counted)

pub walk-requires : goal.walk-requires
walk-requires t c =
    let set = wide_set c.args.wide.now in
    let square = c.args.square.now in
    let child = c.child.result in
    let reported = c.child.ensures in
    let walking = c.loop-k.invariant in
    let above = c.in-Across.ensures.is_overlap.above refl in
    let levels : c.args.wide.now.level - child.level ≡ c.args.wide.now.level - square.level - 1 =
    omega (arith, reported.level) in
    let first : first_position child ≡ first_position square + c.loop-k.k * leaf_count
    (square.level + 1) =
    reported.first ∙ ap (λ l. first_position square + c.loop-k.k * leaf_count l) reported.level in
    let inner : square.level < 30 = omega (arith, above, c.requires.wide.level) in
    let most =
    child_most set (c.args.wide.now.level - square.level - 1) (c.args.wide.now.level - square.level)
    c.args.limit
    (60 - 2 * (square.level + 1)) (first_position square) (leaf_count (square.level + 1)) c.loop-k.k
    c.args.cells.now.items c.loop-k.cells.items
    c.args.looked.now c.loop-k.looked walking (omega (arith, above)) c.loop-k-test.true in
    let room : c.loop-k.looked + comparisons_for (c.args.wide.now.level - child.level)
    (c.args.limit + 1 - length c.loop-k.cells.items) < 2 ^ 64 =
    subst (λ n. c.loop-k.looked + comparisons_for n (c.args.limit + 1 - length c.loop-k.cells.items) < 2 ^ 64)
    (sym levels)
    (omega (arith, most, c.requires.room)) in (
      omega (arith, c.decreases, reported.level, above),
      (
        c.requires.wide,
        (
          reported.square,
          (
            reported.face ∙ c.requires.face,
            (
              omega (arith, reported.level, above),
              (
                subst (IsLaid set c.loop-k.cells.items) (sym first) walking.laid,
                (
                  walking.few,
                  (
                    child_opened set (square_id child) (square_id square) square.level
                        (first_position square)
                        c.loop-k.k
                        (square_block square c.requires.square) c.loop-k-test.true inner
                        (child_block child square c.loop-k.k reported.square reported.level reported.first)
                        c.in-Across.ensures.is_overlap.is_overlap.1,
                    (walking.counted, room),
                  ),
                ),
              ),
            ),
          ),
        ),
      ),
    )

pub returns-in_err-walk-in-Across-clause-err : goal.returns-in_err-walk-in-Across-clause-err
returns-in_err-walk-in-Across-clause-err t c =
    let set = wide_set c.args.wide.now in
    let square = c.args.square.now in
    let child = c.child.result in
    let above = c.in-Across.ensures.is_overlap.above refl in
    let levels : c.args.wide.now.level - child.level ≡ c.args.wide.now.level - square.level - 1 =
    omega (arith, c.child.ensures.level) in
    let most =
    child_most set (c.args.wide.now.level - square.level - 1) (c.args.wide.now.level - square.level)
    c.args.limit
    (60 - 2 * (square.level + 1)) (first_position square) (leaf_count (square.level + 1)) c.loop-k.k
    c.args.cells.now.items c.loop-k.cells.items
    c.args.looked.now c.loop-k.looked c.loop-k.invariant (omega (arith, above)) c.loop-k-test.true in
    let fault = c.in_err-walk-in-Across.field-0.0 in
    let stopped = c.in_err-walk-in-Across.ensures.err in
    let left = c.args.limit + 1 - length c.loop-k.cells.items in
    let more =
    stopped_later set c.args.limit (c.loop-k.looked + comparisons_for
    (c.args.wide.now.level - square.level - 1)
    left) _ fault
    (subst (λ n. HasStopped set c.args.limit (c.loop-k.looked + comparisons_for n left) fault) levels stopped)
    most
    in
    if_err c.from_residual-in_err-walk-in-Across.result fault _
    c.from_residual-in_err-walk-in-Across.ensures.1 more

pub loop-k-preserved : goal.loop-k-preserved
loop-k-preserved t c =
    let set = wide_set c.args.wide.now in
    let square = c.args.square.now in
    let child = c.child.result in
    let reported = c.child.ensures in
    let levels : c.args.wide.now.level - child.level ≡ c.args.wide.now.level - square.level - 1 =
    omega (arith, reported.level) in
    let first : first_position child ≡ first_position square + c.loop-k.k * leaf_count
    (square.level + 1) =
    reported.first ∙ ap (λ l. first_position square + c.loop-k.k * leaf_count l) reported.level in
    let P : ℕ → ℕ → Type 0 = λ n from. HasWalked set n c.args.limit from (last_position child + 1)
    c.loop-k.cells.items c.walk.new.cells.items c.loop-k.looked c.walk.new.looked in
    walking_goes_on set (c.args.wide.now.level - square.level - 1) c.args.limit square.level
    (first_position square)
    c.loop-k.k (last_position child + 1) (square_id child) c.args.cells.now.items c.loop-k.cells.items
    c.walk.new.cells.items c.args.looked.now c.loop-k.looked c.walk.new.looked
    (child_block child square c.loop-k.k reported.square reported.level reported.first) c.loop-k.invariant
    (subst (P (c.args.wide.now.level - square.level - 1)) first
    (subst (λ n. P n (first_position child)) levels c.in_ok-walk-in-Across.ensures.ok))
    (child_upto child square c.loop-k.k reported.level reported.first)

pub returns-in-Outside-clause-ok : goal.returns-in-Outside-clause-ok
returns-in-Outside-clause-ok t c =
    let set = wide_set c.args.wide.now in
    let square = c.args.square.now in
    let levels = c.args.wide.now.level - square.level in
    let cells = c.args.cells.now.items in
    subst (HasWalked set levels c.args.limit (first_position square) (last_position square + 1) cells
    cells
    c.args.looked.now)
    (sym c.compare.ensures.counted)
    (walked_outside set levels c.args.limit (first_position square) (last_position square)
    c.args.looked.now
    cells
    c.requires.laid (omega arith) c.in-Outside.ensures.is_overlap.is_overlap c.requires.few c.requires.counted)

pub returns-in_ok-push_cell-in-Inside-clause-ok : goal.returns-in_ok-push_cell-in-Inside-clause-ok
returns-in_ok-push_cell-in-Inside-clause-ok t c =
    let set = wide_set c.args.wide.now in
    let square = c.args.square.now in
    let levels = c.args.wide.now.level - square.level in
    let cells = c.args.cells.now.items in
    let block = square_block square c.requires.square in
    let largest =
    block_largest set (square_id square) square.level (first_position square) block c.requires.opened
    c.in-Inside.ensures.is_overlap.is_overlap in
    let reported = c.in_ok-push_cell-in-Inside.ensures in
    let P : List ℕ → ℕ → Type 0 = λ after new.
    HasWalked set levels c.args.limit (first_position square) (last_position square + 1) cells after
    c.args.looked.now new in
    subst (λ new. P c.push_cell.new.cells.items new) (sym c.compare.ensures.counted)
    (subst (λ after. P after (c.args.looked.now + 1)) (sym reported.pushed)
    (walked_inside set levels c.args.limit square.level (first_position square) (square_id square)
    c.args.looked.now
    cells c.requires.laid block largest c.in-Inside.ensures.is_overlap.is_overlap reported.room c.requires.counted))

pub returns-after-loop-k-clause-ok : goal.returns-after-loop-k-clause-ok
returns-after-loop-k-clause-ok t c =
    let square = c.args.square.now in
    let above = c.in-Across.ensures.is_overlap.above refl in
    walking_ends (wide_set c.args.wide.now) (c.args.wide.now.level - square.level - 1)
    (c.args.wide.now.level - square.level) square.level c.args.limit (first_position square) c.loop-k.k
    (square_id square) c.args.cells.now.items c.loop-k.cells.items c.args.looked.now c.loop-k.looked
    (square_block square c.requires.square) c.loop-k.invariant
    (omega (arith, c.loop-k.auto, c.loop-k-test.false)) (omega (arith, above, c.requires.wide.level))
    (omega (arith, above)) c.requires.laid c.in-Across.ensures.is_overlap.is_overlap.0
    c.in-Across.ensures.is_overlap.is_overlap.1
