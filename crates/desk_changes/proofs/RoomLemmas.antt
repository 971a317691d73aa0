-- Which rowids are left after a row is added, and after rows are taken out.
use Rattle.std.proofs.Common.{◌≡◌, ◌≤◌, ◌^◌, ◌⊎◌, inl, inr, ℕ, suc, ℤ, pos, negsuc, ◌+ℤ◌, ◌<ℤ◌, Bool, true, List, [], ◌∷◌, ◌++◌, fold, filter, refl, sym, ap, subst, ◌∙◌, arith, Less}
use Rattle.std.specs.Ordering.{match_ordering}
use Rattle.std.specs.List.{AllByRecursion}
use Rattle.std.proofs.lemmas.Int.{ints}
use Rattle.std.proofs.lemmas.Bool.{cases_Bool}
use Rattle.std.proofs.lemmas.Bool.Decides.{nat_tests}
use Rattle.sqlite.specs.Order.{Row, value_cmp}
use Rattle.sqlite.specs.Ops.{fits_i64}
use Rattle.sqlite.specs.declared.types.Value.TheVariants.{Int}
use Rattle.sqlite.specs.Tree.{rowid, put_row, IsTable}
use Rattle.sqlite.specs.View.{is_int}
use Rattle.sqlite.specs.Edit.{id_in, next_rowid}
use Rattle.sqlite_value.proofs.OrderLemmas.{value_cmp-Int}
use Rattle.sqlite_trees.proofs.ListLemmas.{all-filter, ascending-filter}
use Rattle.sqlite_trees.proofs.TreeLemmas.{IsTable-put_row}
use Rattle.sqlite_rules.proofs.ListLemmas.{all_has, all_from}
use Rattle.sqlite_rules.proofs.TableLemmas.{int_is, put_has, next_after}
use Rattle.desk_sql.specs.Changing.{AreLow}
use Rattle.desk_changes.specs.RowChanges.{HasRoomFor}

abbrev pub AreWhole : List Row → Type 0
AreWhole rows = AllByRecursion (λ r. is_int (rowid r) ≡ true) rows

-- ---- numbers of 64 bits

high : (z : ℤ) → fits_i64 z ≡ true → z <ℤ pos (2 ^ 63)
high (pos n) h = grind (arith, ints, nat_tests)
high (negsuc n) h = grind (arith, ints, nat_tests)

low : (z : ℤ) → fits_i64 z ≡ true → negsuc (2 ^ 63) <ℤ z
low (pos n) h = grind (arith, ints, nat_tests)
low (negsuc n) h = grind (arith, ints, nat_tests)

fits : (z : ℤ) → negsuc (2 ^ 63) <ℤ z → z <ℤ pos (2 ^ 63) → fits_i64 z ≡ true
fits (pos n) h k = grind (arith, ints, nat_tests)
fits (negsuc n) h k = grind (arith, ints, nat_tests)

-- ---- the next rowid

abbrev above : ℤ → Row → ℤ
above n r = id_in (rowid r) +ℤ pos 1

-- the rowid after these rows, which is n if there are none
abbrev next_from : ℤ → List Row → ℤ
next_from n rows = fold above n rows

less_is : (a b : Row) → is_int (rowid a) ≡ true → is_int (rowid b) ≡ true
    → value_cmp (rowid a) (rowid b) ≡ Less → id_in (rowid a) <ℤ id_in (rowid b)
less_is a b p q less =
    let lower = rw (int_is (rowid a) p, int_is (rowid b) q, value_cmp-Int (id_in (rowid a)) (id_in (rowid b)))
    at less in
    grind (arith, ints, nat_tests)

below_is : (a : Row) (n : ℤ) → is_int (rowid a) ≡ true → id_in (rowid a) <ℤ n
    → value_cmp (rowid a) (Int n) ≡ Less
below_is a n p h = rw (int_is (rowid a) p)
    (value_cmp-Int (id_in (rowid a)) n ∙ grind (arith, ints, nat_tests))

-- each row is below the next
below_next : (n : ℤ) (x : Row) (rows : List Row) → IsTable (x ∷ rows) → AreWhole (x ∷ rows)
    → AllByRecursion (λ r. id_in (rowid r) <ℤ next_from (above n x) rows) (x ∷ rows)
below_next n x [] up whole = (omega (arith, ints), tt)
below_next n x (y ∷ rows) up whole =
    let later = below_next (above n x) y rows up.1 whole.1 in
    let first = later.0 in
    let lower = less_is x y whole.0 whole.1.0 up.0.0 in
    (grind (arith, ints), later)

-- rows that are taken out leave it as it is or lower
lower_next : (n m : ℤ) (q : Row → Bool) (x : Row) (rows : List Row) → IsTable (x ∷ rows) → AreWhole (x ∷ rows)
    → n <ℤ (id_in (rowid x) +ℤ pos 2) → next_from n (filter q rows) <ℤ (next_from (above m x) rows +ℤ pos 1)
lower_next n m q x [] up whole h = grind (arith, ints)
lower_next n m q x (y ∷ rows) up whole h =
    let less = less_is x y whole.0 whole.1.0 up.0.0 in
    elim (cases_Bool (q y)) [
      | inl e ↦ rw e (lower_next (above n y) (above m x) q y rows up.1 whole.1 (grind (arith, ints)))
      | inr e ↦ rw e (lower_next n (above m x) q y rows up.1 whole.1 (grind (arith, ints)))
    ]

next_kept : (n m : ℤ) (q : Row → Bool) (rows : List Row) → IsTable rows → AreWhole rows
    → (next_from n (filter q rows) ≡ n) ⊎ (next_from n (filter q rows) <ℤ (next_from m rows +ℤ pos 1))
next_kept n m q [] up whole = inl refl
next_kept n m q (y ∷ rows) up whole = elim (cases_Bool (q y)) [
  | inl e ↦ inr (rw e (lower_next (above n y) m q y rows up whole (grind (arith, ints))))
  | inr e ↦ rw e (next_kept n (above m y) q rows up.1 whole.1)
]

next_low : (n : ℤ) (rows : List Row) → negsuc (2 ^ 63) <ℤ n → AreLow rows
    → negsuc (2 ^ 63) <ℤ next_from n rows
next_low n [] h lows = h
next_low n (r ∷ rows) h lows =
    let first = low (id_in (rowid r)) lows.0 in
    next_low (above n r) rows (grind (arith, ints)) lows.1

-- ---- room

pub fewer : (less more : ℕ) (rows : List Row) → less ≤ more → HasRoomFor more rows → HasRoomFor less rows
fewer less more rows h room = (
  omega (arith, h, room.0),
  record {
    rising = room.1.rising;
    low = room.1.low;
    next = λ k some. room.1.next k
        (omega (arith, h, some));
  },
)

pub room_kept : (count : ℕ) (q : Row → Bool) (rows : List Row) → AreWhole rows → HasRoomFor count rows
    → HasRoomFor count (filter q rows)
room_kept count q rows whole (few, room) = (
  few,
  record {
    rising = ascending-filter _ q rows room.rising;
    low = all-filter _ q rows room.low;
    next = λ k some.
        let left = next_from (pos 1) (filter q rows) in
        let up = next_low (pos 1) (filter q rows) (grind (arith, ints)) (all-filter _ q rows room.low) in
        let top = high (next_rowid rows +ℤ pos k) (room.next k some) in
        elim (next_kept (pos 1) (pos 1) q rows room.rising whole) [
          | inl first ↦ subst (λ z. fits_i64 (z +ℤ pos k) ≡ true) (sym first)
              (fits (pos 1 +ℤ pos k) (grind (arith, ints)) (grind (arith, ints, some, few)))
          | inr lower ↦ fits (left +ℤ pos k) (grind (arith, ints)) (grind (arith, ints))
        ];
  },
)

-- a row under the next rowid comes last
put_last : (new : Row) (rows : List Row)
    → AllByRecursion (λ r. value_cmp (rowid r) (rowid new) ≡ Less) rows → put_row new rows ≡ rows ++ new ∷ []
put_last new [] below = refl
put_last new (r ∷ rows) below =
    ap (λ o. match_ordering o (r ∷ put_row new rows) (new ∷ rows) (new ∷ r ∷ rows)) below.0
    ∙ ap (λ xs. r ∷ xs) (put_last new rows below.1)

all_below : (rows : List Row) → IsTable rows → AreWhole rows
    → AllByRecursion (λ r. value_cmp (rowid r) (Int (next_rowid rows)) ≡ Less) rows
all_below [] up whole = tt
all_below (x ∷ rows) up whole = all_from _ (x ∷ rows) (λ r there.
    below_is r (next_rowid (x ∷ rows)) (all_has _ (x ∷ rows) r whole there)
    (all_has _ (x ∷ rows) r (below_next (pos 1) x rows up whole) there))

next_put : (new : Row) (rows : List Row) → rowid new ≡ Int (next_rowid rows) → IsTable rows → AreWhole rows
    → next_rowid (put_row new rows) ≡ next_rowid rows +ℤ pos 1
next_put new rows is up whole =
    ap next_rowid (put_last new rows
    (subst (λ v. AllByRecursion (λ r. value_cmp (rowid r) v ≡ Less) rows) (sym is) (all_below rows up whole)))
    ∙ next_after rows new ∙ ap (λ v. id_in v +ℤ pos 1) is

pub room_put : (count : ℕ) (new : Row) (rows : List Row) → rowid new ≡ Int (next_rowid rows) → AreWhole rows
    → HasRoomFor (suc count) rows → HasRoomFor count (put_row new rows)
room_put count new rows is whole (few, room) = (
  omega (arith, few),
  record {
    rising = IsTable-put_row new rows room.rising;
    low = all_from _ (put_row new rows) (λ r there. elim (put_has new rows r there) [
      | inl same ↦ subst (λ x. fits_i64 (id_in (rowid x)) ≡ true) (sym same)
          (subst (λ v. fits_i64 (id_in v) ≡ true) (sym is)
          (let none : next_rowid rows +ℤ pos 0 ≡ next_rowid rows = omega (arith, ints) in
          subst (λ z. fits_i64 z ≡ true) none (room.next 0 (omega arith))))
      | inr was ↦ all_has _ rows r room.low was
    ]);
    next = λ k some.
        let on : next_rowid rows +ℤ pos (suc k) ≡ (next_rowid rows +ℤ pos 1) +ℤ pos k = omega (arith, ints) in
        subst (λ z. fits_i64 (z +ℤ pos k) ≡ true) (sym (next_put new rows is room.rising whole))
        (subst (λ z. fits_i64 z ≡ true) on (room.next (suc k) (omega (arith, some))));
  },
)
