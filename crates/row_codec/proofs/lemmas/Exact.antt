-- Rows are a plan's if and only if each is the row that stands at its place.
use Rattle.std.proofs.Common.{◌≡◌, ◌↔◌, ℕ, pos, zero, suc, ◌+◌, ◌<◌, Bool, List, [], ◌∷◌, length, drop, get_or, map, refl, sym, ap, subst, ◌∙◌, arith, IsTrue}
use Rattle.std.specs.List.{AllZip, AllByRecursion}
use Rattle.sqlite_value.specs.declared.value.Value.{Value}
use Rattle.sqlite_value.specs.declared.value.Value.TheVariants.{Int, Text}
use Rattle.sqlite_value.specs.Order.{Row, column}
use Rattle.volume4d.specs.declared.slab.Slab.{Slab}
use Rattle.volume4d.specs.Slab.{span_of, slab_window}
use Rattle.desk_rules.specs.declared.words.Usage.TheVariants as usage
use Rattle.volume4d.specs.Volume.{Block, is_area}
use Rattle.desk_store.specs.World.{Filed, IsId, IsValidVolume}
use Rattle.row_codec.specs.Tables.{id_text, row_of_plan, row_of_volume, volume_rows_from, area_rows, row_of_span, IsFiled, AreRowsOf, AreNumbersOf, IsKeyed, IsWindowAt, slab_row, row_fault_of}
use Rattle.row_codec.specs.RowsRead.{IsVolumeAt, IsHead}
use Rattle.row_codec.specs.declared.exact.RowFault.TheVariants.{InvalidRows}
use Rattle.desk_store.specs.declared.fault.StoreFault.{StoreFault}
use Rattle.desk_store.specs.declared.fault.StoreFault.TheVariants.{OutOfMemory, Store}
use Rattle.desk_rules.specs.declared.plan.PlanRow.{PlanRow}

with8 : (P : Row → Type 0) → ((x0 x1 x2 x3 x4 x5 x6 x7 : Value)
    → P (x0 ∷ x1 ∷ x2 ∷ x3 ∷ x4 ∷ x5 ∷ x6 ∷ x7 ∷ [])) → (r : Row) → length r ≡ 8 → P r
with8 P f (x0 ∷ x1 ∷ x2 ∷ x3 ∷ x4 ∷ x5 ∷ x6 ∷ x7 ∷ []) h = f x0 x1 x2 x3 x4 x5 x6 x7
with8 P f r h = absurd (omega (arith, h))

with10 : (P : Row → Type 0) → ((x0 x1 x2 x3 x4 x5 x6 x7 x8 x9 : Value)
    → P (x0 ∷ x1 ∷ x2 ∷ x3 ∷ x4 ∷ x5 ∷ x6 ∷ x7 ∷ x8 ∷ x9 ∷ [])) → (r : Row) → length r ≡ 10 → P r
with10 P f (x0 ∷ x1 ∷ x2 ∷ x3 ∷ x4 ∷ x5 ∷ x6 ∷ x7 ∷ x8 ∷ x9 ∷ []) h = f x0 x1 x2 x3 x4 x5 x6 x7 x8 x9
with10 P f r h = absurd (omega (arith, h))

with5 : (P : Row → Type 0) → ((x0 x1 x2 x3 x4 : Value) → P (x0 ∷ x1 ∷ x2 ∷ x3 ∷ x4 ∷ [])) → (r : Row)
    → length r ≡ 5 → P r
with5 P f (x0 ∷ x1 ∷ x2 ∷ x3 ∷ x4 ∷ []) h = f x0 x1 x2 x3 x4
with5 P f r h = absurd (omega (arith, h))

module _ (p : Filed) (operator id : List ℕ) (by : operator ≡ p.operator) (of : id ≡ id_text p.row.id)
  where
    pub plan_row_is : (r : Row) → IsKeyed operator id 5 r → AreNumbersOf r p.row → r ≡ row_of_plan p
    plan_row_is r key n =
        with5 (λ r. IsKeyed operator id 5 r → AreNumbersOf r p.row → r ≡ row_of_plan p)
        (λ x0 x1 x2 x3 x4 key n i. (key.name ∙ ap Text by) i ∷ (key.text ∙ ap Text of) i ∷ n.priority i
        ∷ n.usage i ∷ n.aircraft i ∷ [])
        r key.wide key n

    pub rows_are : (head : Row) (volumes : List Row) (t : Bool) → IsKeyed operator id 5 head
        → AreNumbersOf head p.row → IsTrue t ↔ (volumes ≡ area_rows p) → IsTrue t
        ↔ AreRowsOf p head volumes
    rows_are head volumes t key n h =
        ((λ y. record { plan = plan_row_is head key n; area = h.0 y }), λ r. h.1 r.area)

    pub volume_row_is : (place : ℕ) (v : Block) (r : Row) (t : Bool) → IsKeyed operator id 8 r
        → IsTrue t
        ↔ (column r 2 ≡ Int (pos place)) → IsVolumeAt r 3 v → IsTrue t ↔ (r ≡ row_of_volume p place v)
    volume_row_is place v r t key at h =
        ((λ y. made r key (at.0 y) h), λ e. at.1 (ap (λ r. column r 2) e))
      where
        made : (r : Row) → IsKeyed operator id 8 r → column r 2 ≡ Int (pos place) → IsVolumeAt r 3 v → r
            ≡ row_of_volume p place v
        made r key at h =
            with8 (λ r. IsKeyed operator id 8 r → column r 2 ≡ Int (pos place) → IsVolumeAt r 3 v → r
            ≡ row_of_volume p place v)
            (λ x0 x1 x2 x3 x4 x5 x6 x7 key at h i. (key.name ∙ ap Text by) i ∷ (key.text ∙ ap Text of) i
            ∷ at i
            ∷ h.lower i ∷ h.upper i ∷ h.start i ∷ h.end i ∷ h.asked i ∷ [])
            r key.wide key at h

    pub slab_row_is : (place : ℕ) (s : Slab) (r : Row) → IsKeyed operator id 10 r → column r 2
        ≡ Int (pos place)
        → column r 3 ≡ Int (pos s.first) → column r 4 ≡ Int (pos s.last)
        → IsWindowAt r 5 (slab_window s) → column r 9 ≡ Int (pos p.row.priority) → r
        ≡ slab_row p place s
    slab_row_is place s r key at first last window priority =
        with10 (λ r. IsKeyed operator id 10 r → column r 2 ≡ Int (pos place) → column r 3
        ≡ Int (pos s.first)
        → column r 4 ≡ Int (pos s.last) → IsWindowAt r 5 (slab_window s) → column r 9
        ≡ Int (pos p.row.priority) → r ≡ slab_row p place s)
        (λ x0 x1 x2 x3 x4 x5 x6 x7 x8 x9 key at first last w priority i.
        (key.name ∙ ap Text by) i ∷ (key.text ∙ ap Text of) i ∷ at i ∷ first i ∷ last i ∷ w.lower i
        ∷ w.upper i
        ∷ w.start i ∷ w.end i ∷ priority i ∷ [])
        r key.wide key at first last window priority

-- lists cut at an index
pub cut_at : {A : Type 0} (xs : List A) (i : ℕ) (x d : A) → i < length xs → x ≡ get_or xs i d
    → drop i xs ≡ x
    ∷ drop (i + 1) xs
cut_at [] i x d w e = absurd (omega (arith, w))
cut_at (y ∷ ys) zero x d w e = ap (λ z. z ∷ ys) (sym e)
cut_at (y ∷ ys) (suc i) x d w e = rw Rattle.std.proofs.Common.add-one
    (rw Rattle.std.proofs.Common.add-one at (cut_at ys i x d (omega (arith, w)) e))

pub cut_in : {A : Type 0} (xs ys : List A) (i : ℕ) (x : A) → xs ≡ ys → i < length xs → x ≡ get_or xs i x
    → drop i ys ≡ x ∷ drop (i + 1) ys
cut_in xs ys i x same w e = subst (λ zs. drop i zs ≡ x ∷ drop (i + 1) zs) same (cut_at xs i x x w e)

-- volumes from a place on
pub record Placing (p : Filed) (rows : List Row) (area : List Block) (i : ℕ) : Type 0 where
  pub same : (rows ≡ volume_rows_from p 0 area) ↔ (drop i rows ≡ volume_rows_from p i (drop i area))
  pub stand : AllZip (λ r v. IsVolumeAt r 3 v) (drop i rows) (drop i area)

one_placed : (p : Filed) (i : ℕ) (row : Row) (more rs : List Row) (vs : List Block) → rs ≡ row ∷ more
    → AllZip (λ r v. IsVolumeAt r 3 v) rs vs
    → (v : Block) × (us : List Block) × (vs ≡ v ∷ us) × IsVolumeAt row 3 v
    × AllZip (λ r v. IsVolumeAt r 3 v) more us
one_placed p i row more [] vs e h = cc
one_placed p i row more (r ∷ rs) [] e h = absurd h
one_placed p i row more (r ∷ rs) (v ∷ us) e h =
    let first : r ≡ row = cc in
    let rest : rs ≡ more = cc in (
      v,
      us,
      refl,
      subst (λ r. IsVolumeAt r 3 v) first h.0,
      subst
          (λ rs. AllZip (λ r v. IsVolumeAt r 3 v) rs us) rest h.1,
    )

drop_tail : (vs : List Block) (i : ℕ) (v : Block) (us : List Block) → drop i vs ≡ v ∷ us
    → drop (i + 1) vs
    ≡ us
drop_tail [] zero v us e = cc
drop_tail [] (suc i) v us e = cc
drop_tail (w ∷ ws) zero v us e = cc
drop_tail (w ∷ ws) (suc i) v us e = rw Rattle.std.proofs.Common.add-one
    (rw Rattle.std.proofs.Common.add-one at (drop_tail ws i v us e))

pub placing_on : (p : Filed) (rows : List Row) (area : List Block) (i : ℕ) (row : Row) → i < length rows
    → row
    ≡ get_or rows i row
    → ((v : Block) → IsVolumeAt row 3 v → row ≡ row_of_volume p i v) → Placing p rows area i
    → Placing p rows area (i + 1)
placing_on p rows area i row w e is before =
    let rs = cut_at rows i row row w e in
    let found = one_placed p i row (drop (i + 1) rows) (drop i rows) (drop i area) rs before.stand in
    let tail = drop_tail area i found.0 found.1 found.2 in
    let row_is = is found.0 found.3 in
    record {
      same = (
        (λ h. next (sym rs ∙ before.same.0 h ∙ ap (volume_rows_from p i) found.2)
            ∙ ap (volume_rows_from p (i + 1)) (sym tail)),
        λ h. before.same.1 (rs ∙ (λ k. row_is k ∷ (h ∙ ap (volume_rows_from p (i + 1)) tail) k)
            ∙ ap (volume_rows_from p i) (sym found.2)),
      );
      stand = subst (AllZip (λ r v. IsVolumeAt r 3 v) (drop (i + 1) rows)) (sym tail) found.4;
    } where
      next : {r s : Row} {xs ys : List Row} → r ∷ xs ≡ s ∷ ys → xs ≡ ys
      next h = cc

pub placing_stops : (p : Filed) (rows : List Row) (area : List Block) (i : ℕ) (row : Row)
    → i < length rows
    → row ≡ get_or rows i row
    → ((v : Block) → IsVolumeAt row 3 v → row ≡ row_of_volume p i v → ⊥) → Placing p rows area i → rows
    ≡ volume_rows_from p 0 area → ⊥
placing_stops p rows area i row w e is before h =
    let rs = cut_at rows i row row w e in
    let found = one_placed p i row (drop (i + 1) rows) (drop i rows) (drop i area) rs before.stand in
    is found.0 found.3 (first (sym rs ∙ before.same.0 h ∙ ap (volume_rows_from p i) found.2)) where
      first : {r s : Row} {xs ys : List Row} → r ∷ xs ≡ s ∷ ys → r ≡ s
      first h = cc

pub slabs_as_spans : (p : Filed) (place : ℕ) (v : Block) (slabs : List Slab)
    → AllByRecursion (λ s. slab_window s ≡ v.window) slabs
    → map (row_of_span p place v) (map span_of slabs) ≡ map (slab_row p place) slabs
slabs_as_spans p place v [] h = refl
slabs_as_spans p place v (s ∷ slabs) h =
    λ i. ap (λ w. row_of_span p place (record { footprint = v.footprint; window = w }) (span_of s))
    (sym h.0) i
    ∷ slabs_as_spans p place v slabs h.1 i

-- rows of a plan, and what is read from them
pub store_of : (fault : StoreFault) → row_fault_of fault ≡ InvalidRows → fault ≡ Store
store_of OutOfMemory h = cc
store_of Store h = refl

rows_stand : (p : Filed) (n : ℕ) (vs : List Block)
    → AllZip (λ r v. IsVolumeAt r 3 v) (volume_rows_from p n vs) vs
rows_stand p n [] = tt
rows_stand p n (v ∷ vs) = (
  record { lower = refl; upper = refl; start = refl; end = refl; asked = refl },
  rows_stand p (n + 1)
      vs,
)

area_stands : (p : Filed) (volumes : List Row) → volumes ≡ area_rows p
    → AllZip (λ r v. IsVolumeAt r 3 v) volumes p.row.area
area_stands p volumes e = subst (λ rs. AllZip (λ r v. IsVolumeAt r 3 v) rs p.row.area) (sym e)
    (rows_stand p 0 p.row.area)

pub no_area : (head : Row) (volumes : List Row) → ((vs : List Block) → IsTrue (is_area vs)
    → AllByRecursion IsValidVolume vs → AllZip (λ r v. IsVolumeAt r 3 v) volumes vs → ⊥)
    → (p : Filed) → IsFiled p → AreRowsOf p head volumes → ⊥
no_area head volumes none p is rows = none p.row.area is.row.volumes is.row.each
    (area_stands p volumes rows.area)

head_stands : (p : Filed) (head : Row) → head ≡ row_of_plan p → IsHead head p.row
head_stands p head e = subst (λ r. IsHead r p.row) (sym e)
    (record { id = refl; priority = refl; usage = refl; aircraft = refl })

one_text : (a b : List ℕ) (v : Value) → v ≡ Text a → v ≡ Text b → a ≡ b
one_text a b v h k = cc

pub no_other : (head : Row) (volumes : List Row) (operator : List ℕ) (row : PlanRow) (area : List Block)
    → column head 0 ≡ Text operator
    → ((vs : List Block) → AllByRecursion IsValidVolume vs → AllZip (λ r v. IsVolumeAt r 3 v) volumes vs
    → area
    ≡ vs)
    → ((q : PlanRow) → IsId q.id → IsHead head q → area ≡ q.area → row ≡ q)
    → (AreRowsOf (record { operator = operator; row = row }) head volumes → ⊥) → (p : Filed) → IsFiled p
    → AreRowsOf p head volumes → ⊥
no_other head volumes operator row area by areas plans off p is rows =
    let operator_is = one_text operator p.operator (column head 0) by (ap (λ r. column r 0) rows.plan)
    in
    let area_is = areas p.row.area is.row.each (area_stands p volumes rows.area) in
    let row_is = plans p.row is.row.id (head_stands p head rows.plan) area_is in
    let same : p ≡ record { operator = operator; row = row } =
    λ i. record { operator = sym operator_is i; row = sym row_is i } in
    off (subst (λ q. AreRowsOf q head volumes) same rows)
