use Rattle.std.proofs.Common.{◌≡◌, ℕ, ◌-◌, ◌+◌, [], length, sym, ◌∙◌, ap, subst, arith}
use Rattle.s2_hilbert.specs.Curve.{first_position}
use Rattle.s2_cellid.specs.Cell.{square_id}
use Rattle.s2_cover.specs.Covers.{RectParts, WideParts, widened, leaves_of, IsCanonical, IsLonger, IsLaid, rect_leaves, wide_set, IsOpened, IsRefused, HasCompared}
use Rattle.s2_cover.proofs.Listing.{same_list, longer}
use Rattle.s2_cover.proofs.Faces.{whole, laid_before, whole_opened, IsCovered, covered, refused, covers_footprint, some_cells}
use Rattle.s2_cover.proofs.Walks.{if_err}
use Rattle.s2_cover.proofs.walk.cover.Goals as goal

-- the face of a rectangle is that of the widened one
face_is : (rect : RectParts) (wide : WideParts) (face : ℕ) → face ≡ rect.face → wide ≡ widened rect
    → face ≡ wide.face
face_is rect wide face is same = is ∙ sym (ap (λ (w : WideParts). w.face) same)

pub walk-requires-clause-laid : goal.walk-requires-clause-laid
walk-requires-clause-laid c =
    let wide = c.of_rect-wide.result in
    let square = c.of_face-face.ensures ∙ ap whole
    (face_is c.args.rect.now wide c.face.result c.face.ensures c.of_rect-wide.ensures.value) in
    subst (λ ids. IsLaid (wide_set wide) ids (first_position c.of_face-face.result))
    (sym c.new-cells.ensures.items)
    (subst (λ s. IsLaid (wide_set wide) [] (first_position s)) (sym square) (laid_before wide))

pub walk-requires-clause-opened : goal.walk-requires-clause-opened
walk-requires-clause-opened c =
    let wide = c.of_rect-wide.result in
    let square = c.of_face-face.ensures ∙ ap whole
    (face_is c.args.rect.now wide c.face.result c.face.ensures c.of_rect-wide.ensures.value) in
    subst (λ s. IsOpened (wide_set wide) (square_id s)) (sym square)
    (whole_opened (wide_set wide) wide.face c.of_rect-wide.ensures.valid.face)

pub returns-in_err-walk-clause-refused : goal.returns-in_err-walk-clause-refused
returns-in_err-walk-clause-refused c =
    let wide = c.of_rect-wide.result in
    let fault = c.in_err-walk.field-0.0 in
    let reported =
    refused wide c.args.limit (wide.level - c.of_face-face.result.level)
    (c.args.limit + 1 - length c.new-cells.result.items) fault c.of_rect-wide.ensures.valid.face
    (omega (arith, c.of_rect-wide.ensures.valid.level)) (omega arith) c.in_err-walk.ensures.err in
    if_err c.from_residual.result fault (IsRefused (rect_leaves c.args.rect.now) c.args.limit)
    c.from_residual.ensures.1
    (subst (λ w. IsRefused (wide_set w) c.args.limit fault) c.of_rect-wide.ensures.value reported)

-- what the walk over the face has found, of the rectangle itself
found : (c : goal.In_ok-walk)
    → IsCovered (rect_leaves c.args.rect.now) c.args.limit c.walk.new.cells.items c.walk.new.looked
found c =
    let wide = c.of_rect-wide.result in
    let square = c.of_face-face.ensures ∙ ap whole
    (face_is c.args.rect.now wide c.face.result c.face.ensures c.of_rect-wide.ensures.value) in
    subst (λ w. IsCovered (wide_set w) c.args.limit c.walk.new.cells.items c.walk.new.looked)
    c.of_rect-wide.ensures.value
    (covered wide c.of_face-face.result c.args.limit c.walk.new.looked c.new-cells.result.items
    c.walk.new.cells.items square c.new-cells.ensures.items c.of_rect-wide.ensures.valid.face
    c.of_rect-wide.ensures.valid.level c.in_ok-walk.ensures.ok)

pub returns-in_err-walk-clause-longer : goal.returns-in_err-walk-clause-longer
returns-in_err-walk-clause-longer c =
    let wide = c.of_rect-wide.result in
    let fault = c.in_err-walk.field-0.0 in
    let set = rect_leaves c.args.rect.now in
    let reported =
    refused wide c.args.limit (wide.level - c.of_face-face.result.level)
    (c.args.limit + 1 - length c.new-cells.result.items) fault c.of_rect-wide.ensures.valid.face
    (omega (arith, c.of_rect-wide.ensures.valid.level)) (omega arith) c.in_err-walk.ensures.err in
    if_err c.from_residual.result fault (IsLonger set c.args.limit) c.from_residual.ensures.1
    (longer set c.args.limit fault
    (subst (λ w. IsRefused (wide_set w) c.args.limit fault) c.of_rect-wide.ensures.value reported))

pub of_canonical-requires : goal.of_canonical-requires
of_canonical-requires c = (found c).own

pub returns-clause-canonical : goal.returns-clause-canonical
returns-clause-canonical c =
    subst (IsCanonical (rect_leaves c.args.rect.now)) (sym c.of_canonical.ensures.ids)
    (found c.before).canonical

pub returns-clause-leaves : goal.returns-clause-leaves
returns-clause-leaves c p =
    ap (λ ids. leaves_of ids p) c.of_canonical.ensures.ids ∙ (found c.before).leaves p

pub returns-clause-footprint : goal.returns-clause-footprint
returns-clause-footprint c =
    covers_footprint c.args.rect.now c.of_canonical.result.ids c.of_rect-wide.ensures.rect (λ p.
    ap (λ ids. leaves_of ids p) c.of_canonical.ensures.ids ∙ (found c.before).leaves p)

pub returns-clause-some : goal.returns-clause-some
returns-clause-some c =
    some_cells c.args.rect.now c.of_canonical.result.ids c.of_rect-wide.ensures.rect
    (covers_footprint c.args.rect.now c.of_canonical.result.ids c.of_rect-wide.ensures.rect (λ p.
    ap (λ ids. leaves_of ids p) c.of_canonical.ensures.ids ∙ (found c.before).leaves p))

pub returns-clause-few : goal.returns-clause-few
returns-clause-few c = omega (arith, ap length c.of_canonical.ensures.ids, (found c.before).few)

pub returns-clause-looked : goal.returns-clause-looked
returns-clause-looked c =
    let reported = (found c.before).comparisons in
    let long = ap length c.of_canonical.ensures.ids in
    let comparisons = c.of_canonical.ensures.looked
    in (omega (arith, reported, long, comparisons), omega (arith, reported, comparisons))

pub returns-clause-exact : goal.returns-clause-exact
returns-clause-exact c =
    subst (HasCompared (rect_leaves c.args.rect.now)) (sym c.of_canonical.ensures.looked)
    (found c.before).exact

pub returns-clause-list : goal.returns-clause-list
returns-clause-list c =
    c.of_canonical.ensures.ids ∙ same_list (rect_leaves c.args.rect.now) c.walk.new.cells.items
    (found c.before).canonical
