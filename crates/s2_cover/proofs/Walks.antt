-- The walk down the squares: what is laid, and how many comparisons it takes.
use Rattle.std.proofs.Common.{◌≡◌, ℕ, ◌+◌, ◌-◌, ◌*◌, ◌<◌, ◌≤◌, Bool, true, false, List, [], ◌∷◌, ◌++◌, length, refl, sym, ◌∙◌, ap, subst, arith, inr}
use Rattle.std.specs.Prelude.{IsTrue, Contains, Result, Ok, Err, IfErr}
use Rattle.std.proofs.lemmas.List.{length-append, append-nil, append_assoc}
use Rattle.std.proofs.lemmas.List.Folds.{Any-from_list_any}
use Rattle.std.specs.Result.{IsErrAnd}
use Rattle.s2_hilbert.specs.Grid.{GridSquare, IsSquare}
use Rattle.s2_hilbert.specs.Curve.{first_position, last_position, leaf_count}
use Rattle.s2_cellid.specs.Cell.{square_id, first_leaf, last_leaf, cell_has}
use Rattle.s2_cover.specs.Covers.{IsLargest, IsCanonical, IsLaid, AllIn, SomeIn, IsOpened, comparisons_for, HasMoreCells, IsCrossed, AreCrossedIn, HasWalked, HasStopped, IsFull}
use Rattle.s2_cover.specs.declared.walk.CoverFault.{CoverFault}
use Rattle.s2_cover.specs.declared.walk.CoverFault.TheVariants.{TooManyCells, OutOfMemory}
use Rattle.s2_cover.proofs.Laid.{laid_upto, laid_more, position_in, has_position}
use Rattle.s2_cover.proofs.SquareCells.{IsBlock, square_block, parent_block, some_leaves, four_children}
use Rattle.s2_cover.proofs.Pigeons.{no_longer}
use Rattle.s2_cover.proofs.Crossings.{crossed_none, crossed_nowhere, crossings_append, crossings_whole}

-- a cell whose leaves all belong to the set is a largest one, if its parent has another leaf
pub block_largest : (set : ℕ → Bool) (id level first : ℕ) → IsBlock id level first → IsOpened set id
    → AllIn first (first + (leaf_count level - 1)) set true → IsLargest set id
block_largest set id level first block opened all = record {
  valid = block.valid;
  inside = λ p has.
      let range = position_in id p block.valid has in
      all p (omega (arith, range, block.begins)) (omega (arith, range, block.ends, some_leaves level));
  outside = opened;
}

-- a quarter of a cell with a leaf outside the set
pub child_opened : (set : ℕ → Bool) (id parent level first k : ℕ) → IsBlock parent level first → k < 4
    → level < 30
    → IsBlock id (level + 1) (first + k * leaf_count (level + 1))
    → SomeIn first (first + (leaf_count level - 1)) set false → IsOpened set id
child_opened set id parent level first k whole below inner quarter outside =
    let up = parent_block id parent level first k whole below inner quarter in
    let q = outside.number in
    let has : IsTrue (cell_has parent q) =
    has_position parent q whole.valid (omega (arith, whole.begins, outside.low))
    (omega (arith, whole.ends, outside.high, some_leaves level)) in
    inr (q, (subst (λ id. IsTrue (cell_has id q)) (sym up) has, outside.is))

pub walked_outside : (set : ℕ → Bool) (levels limit first last old : ℕ) (before : List ℕ)
    → IsLaid set before first
    → first ≤ last + 1 → AllIn first last set false → length before ≤ limit → length before ≤ old
    → HasWalked set levels limit first (last + 1) before before old (old + 1)
walked_outside set levels limit first last old before laid order none few counted = record {
  marked = [];
  crossed = crossed_none set false 60 first last (last + 1) none refl;
  exact = omega arith;
  more = [];
  grown = sym (append-nil before);
  laid = laid_upto set before first (last + 1) laid order
      (λ p low high. none p low (omega (arith, high)));
  few = few;
  comparisons = omega arith;
  counted = omega (arith, counted);
}

pub walked_inside : (set : ℕ → Bool) (levels limit level first id old : ℕ) (before : List ℕ)
    → IsLaid set before first
    → IsBlock id level first → IsLargest set id → AllIn first (first + (leaf_count level - 1)) set true
    → length before < limit → length before ≤ old
    → HasWalked set levels limit first (first + (leaf_count level - 1) + 1) before (before ++ id ∷ [])
    old
    (old + 1)
walked_inside set levels limit level first id old before laid block largest all room counted =
    let long : length (before ++ id ∷ []) ≡ length before + 1 = length-append before (id ∷ []) in
    let upto : last_leaf id + 1 ≡ first + (leaf_count level - 1) + 1 =
    omega (arith, block.ends, some_leaves level) in
    record {
      marked = [];
      crossed = crossed_none set true 60 first (first + (leaf_count level - 1)) _ all refl;
      exact = omega arith;
      more = id ∷ [];
      grown = refl;
      laid = subst (IsLaid set (before ++ id ∷ [])) upto
          (laid_more set before first id laid largest block.begins);
      few = omega (arith, long, room);
      comparisons = omega arith;
      counted = omega (arith, long, counted);
    }

-- cells that are laid are cells of each canonical list
laid_within : (set : ℕ → Bool) (laid ids : List ℕ) (upto : ℕ) → IsLaid set laid upto
    → IsCanonical set ids
    → length laid ≤ length ids
laid_within set laid ids upto is canonical =
    no_longer ◌≡◌ laid ids is.ascending
    (λ x there. (x, ((canonical.members x).1 (is.largest x there), refl)))
    (λ a b y there_a there_b one other. one ∙ sym other)

pub stopped_inside : (set : ℕ → Bool) (limit first id : ℕ) (before : List ℕ) → IsLaid set before first
    → IsLargest set id → first_leaf id ≡ first → limit ≤ length before → HasMoreCells set limit
stopped_inside set limit first id before laid largest begins full ids canonical =
    let long : length (before ++ id ∷ []) ≡ length before + 1 = length-append before (id ∷ []) in
    let most =
    laid_within set (before ++ id ∷ []) ids (last_leaf id + 1)
    (laid_more set before first id laid largest begins)
    canonical in
    omega (arith, long, most, full)

-- after some of the four children of a square, whose own children are `levels` above the leaves
pub record IsWalking (set : ℕ → Bool) (levels limit most first count k : ℕ) (before cells : List ℕ)
    (old looked : ℕ) : Type 0 where
  pub marked : List ℕ
  pub crossed : AreCrossedIn set most first (first + k * count) marked
  pub exact : looked ≡ old + 1 + k + 4 * length marked
  pub more : List ℕ
  pub grown : cells ≡ before ++ more
  pub laid : IsLaid set cells (first + k * count)
  pub few : length cells ≤ limit
  pub comparisons : looked ≤ old + 1 + k + 4 * (levels * length more)
  pub counted : length cells ≤ looked

pub walking_begins : (set : ℕ → Bool) (levels limit most first count old : ℕ) (before : List ℕ)
    → IsLaid set before first
    → length before ≤ limit → length before ≤ old
    → IsWalking set levels limit most first count 0 before before old (old + 1)
walking_begins set levels limit most first count old before laid few counted = record {
  marked = [];
  crossed = crossed_nowhere set most first (first + 0 * count) (omega arith);
  exact = omega arith;
  more = [];
  grown = sym (append-nil before);
  laid = subst (IsLaid set before) (omega arith) laid;
  few = few;
  comparisons = omega arith;
  counted = omega (arith, counted);
}

step_looks : (levels one two all : ℕ) → all ≡ one + two → levels * all ≡ levels * one + levels * two
step_looks levels one two all is = ap (λ n. levels * n) is ∙ omega arith

pub walking_goes_on : (set : ℕ → Bool) (levels limit level first k upto child : ℕ)
    (before cells after : List ℕ) (old looked new : ℕ)
    → IsBlock child (level + 1) (first + k * leaf_count (level + 1))
    → IsWalking set levels limit (60 - 2 * (level + 1)) first (leaf_count (level + 1)) k before cells
    old
    looked
    → HasWalked set levels limit (first + k * leaf_count (level + 1)) upto cells after looked new
    → upto ≡ first + (k + 1) * leaf_count (level + 1)
    → IsWalking set levels limit (60 - 2 * (level + 1)) first (leaf_count (level + 1))
    (k + 1) before after old new
walking_goes_on set levels limit level first k upto child before cells after old looked new block
    walking
    walked is =
    let long = length-append walking.more walked.more in
    let products = step_looks levels (length walking.more) (length walked.more)
    (length (walking.more ++ walked.more)) long in
    let count = leaf_count (level + 1) in
    let most = 60 - 2 * (level + 1) in
    let next : upto ≡ first + k * count + count = is ∙ next_place first k count in
    record {
      marked = walking.marked ++ walked.marked;
      crossed = subst (λ n. AreCrossedIn set most first n (walking.marked ++ walked.marked)) is
          (crossings_append set most first (first + k * count) upto child (level + 1) walking.marked
          walked.marked block
          block.place next (omega arith) walking.crossed walked.crossed);
      exact = omega (arith, walking.exact, walked.exact, length-append walking.marked walked.marked);
      more = walking.more ++ walked.more;
      grown = walked.grown ∙ ap (λ ids. ids ++ walked.more) walking.grown
          ∙ append_assoc before walking.more walked.more;
      laid = subst (IsLaid set after) is walked.laid;
      few = walked.few;
      comparisons = omega (arith, walking.comparisons, walked.comparisons, products);
      counted = walked.counted;
    } where
      next_place : (first k count : ℕ) → first + (k + 1) * count ≡ first + k * count + count
      next_place first k count = omega arith

-- the comparisons that the children may still take are among those of their parent
child_sum : (levels above taken left all : ℕ) → above ≡ levels + 1 → all ≡ taken + left → 0 < left
    → 4 + 4 * (levels * taken) + 4 * (levels * left) ≤ 4 * (above * all)
child_sum levels above taken left all up parts some =
    let sum : levels * all ≡ levels * taken + levels * left = ap (λ n. levels * n) parts
    ∙ omega arith in
    let more : above * all ≡ levels * all + all = ap (λ n. n * all) up ∙ omega arith in
    omega (arith, sum, more, parts, some)

pub child_most : (set : ℕ → Bool) (levels above limit most first count k : ℕ) (before cells : List ℕ)
    (old looked : ℕ)
    → IsWalking set levels limit most first count k before cells old looked → above ≡ levels + 1 → k < 4
    → looked + comparisons_for levels (limit + 1 - length cells) ≤ old + comparisons_for above
    (limit + 1 - length before)
child_most set levels above limit most first count k before cells old looked walking up below =
    let long : length cells ≡ length before + length walking.more =
    ap length walking.grown ∙ length-append before walking.more in
    let sum =
    child_sum levels above (length walking.more) (limit + 1 - length cells) (limit + 1 - length before)
    up
    (omega (arith, long, walking.few)) (omega (arith, walking.few)) in
    omega (arith, sum, walking.comparisons, below)

-- a square with a leaf of the set holds a cell
more_than_none : (set : ℕ → Bool) (first upto p : ℕ) (before cells more : List ℕ)
    → IsLaid set before first
    → IsLaid set cells upto → cells ≡ before ++ more → first ≤ p → p < upto → IsTrue (set p)
    → 0 < length more
more_than_none set first upto p before cells [] laid all grown low high has =
    let same : cells ≡ before = grown ∙ append-nil before in
    let any = Any-from_list_any (λ id. cell_has id p) cells (all.covered p high has) in
    let there : Contains before any.1 = subst (λ ids. Contains ids any.1) same (any.0, any.2, any.3) in
    let range = position_in any.1 p (laid.largest any.1 there).valid any.4 in
    absurd (omega (arith, range, laid.ended any.1 there, low))
more_than_none set first upto p before cells (id ∷ more) laid all grown low high has = omega arith

last_sum : (levels above cells : ℕ) → above ≡ levels + 1 → 0 < cells
    → 4 + 4 * (levels * cells) ≤ 4 * (above * cells)
last_sum levels above cells up some =
    let more : above * cells ≡ levels * cells + cells = ap (λ n. n * cells) up ∙ omega arith in
    omega (arith, more, some)

pub walking_ends : (set : ℕ → Bool) (levels above level limit first k id : ℕ) (before cells : List ℕ)
    (old looked : ℕ)
    → IsBlock id level first
    → IsWalking set levels limit (60 - 2 * (level + 1)) first (leaf_count (level + 1)) k before cells
    old
    looked → k ≡ 4
    → level < 30 → above ≡ levels + 1 → IsLaid set before first
    → SomeIn first (first + (leaf_count level - 1)) set true
    → SomeIn first (first + (leaf_count level - 1)) set false
    → HasWalked set above limit first (first + (leaf_count level - 1) + 1) before cells old looked
walking_ends set levels above level limit first k id before cells old looked block walking all inner up
    laid
    inside outside =
    let four = four_children level inner in
    let product : k * leaf_count (level + 1) ≡ 4 * leaf_count (level + 1) =
    ap (λ n. n * leaf_count (level + 1)) all in
    let last = first + (leaf_count level - 1) + 1 in
    let upto : first + k * leaf_count (level + 1) ≡ last =
    omega (arith, four, product, some_leaves level) in
    let laid_all = subst (IsLaid set cells) upto walking.laid in
    let some =
    more_than_none set first last inside.number before cells walking.more laid laid_all
    walking.grown inside.low (omega (arith, inside.high)) inside.is in
    let has : (p : ℕ) → first ≤ p → p ≤ first + (leaf_count level - 1) → IsTrue (cell_has id p) =
    λ p low high.
    has_position id p block.valid (omega (arith, block.begins, low))
    (omega (arith, block.ends, high, some_leaves level)) in
    let most = 60 - 2 * (level + 1) in
    let crossed : IsCrossed set id = record {
      valid = block.valid;
      inside = (inside.number, (has inside.number inside.low inside.high, inside.is));
      outside = (outside.number, (has outside.number outside.low outside.high, outside.is));
    } in
    record {
      marked = walking.marked ++ id ∷ [];
      crossed = crossings_whole set most first last id level walking.marked block inner refl
          (omega (arith, some_leaves level)) crossed
          (subst (λ n. AreCrossedIn set most first n walking.marked) upto walking.crossed);
      exact = omega (arith, walking.exact, all, length-append walking.marked (id ∷ []));
      more = walking.more;
      grown = walking.grown;
      laid = laid_all;
      few = walking.few;
      comparisons = omega (arith, walking.comparisons, last_sum levels above (length walking.more) up some, all);
      counted = walking.counted;
    }

-- the cell of a child
pub child_block : (child square : GridSquare) (k : ℕ) → IsSquare child → child.level ≡ square.level + 1
    → first_position child ≡ first_position square + k * leaf_count child.level
    → IsBlock (square_id child) (square.level + 1)
    (first_position square + k * leaf_count (square.level + 1))
child_block child square k is level first =
    subst (λ l. IsBlock (square_id child) l (first_position square + k * leaf_count l)) level
    (subst (IsBlock (square_id child) child.level) first (square_block child is))

-- where a child ends, the next begins
pub child_upto : (child square : GridSquare) (k : ℕ) → child.level ≡ square.level + 1
    → first_position child ≡ first_position square + k * leaf_count child.level
    → last_position child + 1 ≡ first_position square + (k + 1) * leaf_count (square.level + 1)
child_upto child square k level first =
    let counts : leaf_count child.level ≡ leaf_count (square.level + 1) = ap leaf_count level in
    let place : k * leaf_count child.level ≡ k * leaf_count (square.level + 1) =
    ap (λ n. k * n) counts in
    let next : (k + 1) * leaf_count (square.level + 1)
    ≡ k * leaf_count (square.level + 1) + leaf_count (square.level + 1) =
    omega arith in
    omega (arith, first, place, next, counts, some_leaves child.level)

-- a fault is the same within more comparisons
pub stopped_later : (set : ℕ → Bool) (limit most more : ℕ) (fault : CoverFault)
    → HasStopped set limit most fault
    → most ≤ more → HasStopped set limit more fault
stopped_later set limit most more (TooManyCells looked) stopped order =
    ((stopped.0.0, omega (arith, stopped.0.1, order)), stopped.1)
stopped_later set limit most more OutOfMemory stopped order = tt

-- a fault at a cell that is to be appended
pub stopped_full : (set : ℕ → Bool) (limit first id comparisons most : ℕ) (before : List ℕ)
    (fault : CoverFault)
    → IsLaid set before first → IsLargest set id → first_leaf id ≡ first → length before < comparisons
    → comparisons ≤ most
    → IsFull limit (length before) comparisons fault → HasStopped set limit most fault
stopped_full set limit first id comparisons most before (TooManyCells looked) laid largest begins counted
    within full = (
      (omega (arith, full, counted), omega (arith, full.0, within)),
      stopped_inside set limit first id before laid largest begins full.1,
    )
stopped_full set limit first id comparisons most before OutOfMemory laid largest begins counted within full =
    tt

pub if_err : {T : Type 0} (r : Result T CoverFault) (fault : CoverFault) (P : CoverFault → Type 0)
    → IsErrAnd r (λ e. e ≡ fault) → P fault → IfErr r P
if_err (Err e) fault P is holds = subst P (sym is) holds
if_err (Ok v) fault P is holds = tt
