-- The greatest priority that the rows of `span` hold at a point.
use Rattle.std.proofs.Common.{◌≡◌, ℕ, ℤ, pos, ◌+◌, max, Bool, true, false, leb, MatchBool, ◌&&◌, ◌||◌, not, cond, List, [], ◌∷◌, ◌++◌, map, Option, Some, None, refl, sym, ap, subst, ◌∙◌, arith, Less, Equal, Greater, IsPermutation}
use Rattle.std.specs.Prelude.{IfSome, int_le, int_lt, nat_le, unsigned_abs}
use Rattle.std.specs.List.{AllByRecursion, filter, flat_map, list_any}
use Rattle.std.specs.Ordering.{is_eq, is_lt, is_le, is_gt, is_ge}
use Rattle.std.proofs.Math.Bool.{and_assoc, and-or_distrib_left, and-or_distrib_right, and-false}
use Rattle.std.proofs.lemmas.Int.{ints}
use Rattle.std.proofs.lemmas.List.{append-nil}
use Rattle.std.proofs.lemmas.List.Concat.{flat_map-append, flat_map-cons}
use Rattle.std.proofs.lemmas.List.Sorted.{IsPermutation-append}
use Rattle.std.proofs.lemmas.Bool.{and_parts}
use Rattle.std.proofs.lemmas.Bool.Decides.{nat_tests}
use Rattle.sqlite_value.specs.declared.value.Value.{Value}
use Rattle.sqlite_value.specs.declared.value.Value.TheVariants.{Null, Int, Real, Text, Blob}
use Rattle.sqlite_value.specs.Order.{Row, column}
use Rattle.sqlite_value.proofs.OrderLemmas.{value_cmp-Int, value_cmp-Text}
use Rattle.sqlite_keyed.proofs.ListLemmas.{along_permutation}
use Rattle.s2_hilbert.specs.Curve.{position_of}
use Rattle.s2_hilbert.proofs.lemmas.Curve.{leaf_undone}
use Rattle.s2_cover.specs.declared.spans.Span.{Span}
use Rattle.s2_cover.specs.Covers.{IsRanges, span_has, spans_have}
use Rattle.volume4d.specs.declared.slab.Slab.{Slab}
use Rattle.volume4d.specs.declared.slab.Held.{Held}
use Rattle.volume4d.specs.Slab.{greater, level_where, top_by, slab_has, slab_has_leaf, top_held}
use Rattle.volume4d.proofs.lemmas.Level.{greater_none, greater_assoc, greater_comm, top_by-cons, top_by-append}
use Rattle.volume4d.specs.Volume.{Point, is_leaf, shape_has, shape_positions, Block, window_has, block_has, area_has}
use Rattle.volume4d.proofs.lemmas.Point.{leaf_test}
use Rattle.desk_rules.specs.Conflict.{at_least}
use Rattle.desk_rules.specs.Outcome.{is_live, row_holds}
use Rattle.desk_sql.specs.Rows as sql
use Rattle.desk_sql.specs.Rows.{Tables, is_at_most, is_at_least, is_below, is_above, differs, columns_from_first}
use Rattle.desk_store.specs.World.{Filed, World, held, is_by, is_own, other_level, others_top, rival_level, rivals_top, AreRivals, HaveLevel, IsId, IsPlan, IsContent}
use Rattle.desk_store.proofs.lemmas.Rival.{others_top-cons, others_top-nil, held_by_others, rivals_top-cons, rivals_top-nil, held_by_rivals}
use Rattle.row_codec.specs.Tables.{id_text, row_of_span, AreSpanRowsFrom, ArePlanSpanRows, AreSpanRows, AreTables}
use Rattle.row_codec.specs.declared.span_bounds.SpanBounds.{SpanBounds}
use Rattle.row_codec.specs.SpanBounds.{FindAll, Bounds, IsKnown, IsWithinExtent}
use Rattle.row_codec.specs.RowsRead.{HaveTaken, HaveTakenAll, IsHeldIn, HasTakenHelds, is_asked, span_filter_of, AreWanted}
use Rattle.row_codec.proofs.lemmas.SpanBound.{asked_rival, tables_known}
use Rattle.row_codec.proofs.lemmas.Order.{after_key}
use Rattle.row_codec.proofs.lemmas.Order.{ArePlans, turned}
use Rattle.desk_tables.proofs.FilterLemmas.{own_row}
use Rattle.row_codec.proofs.lemmas.SpanBound.{is_asked_if}
use Rattle.row_codec.proofs.lemmas.SpanBound.{HasKnownSpan}

-- ---- the greatest of some elements

swap_greater : (a b c : Option ℕ) → greater a (greater b c) ≡ greater b (greater a c)
swap_greater a b c = sym (greater_assoc a b c) ∙ ap (λ q. greater q c) (greater_comm a b)
    ∙ greater_assoc b a c

-- it is the same in any order
pub top_permuted : {A : Type 0} (p : A → Bool) (f : A → ℕ) (xs ys : List A) → IsPermutation xs ys
    → top_by p f xs ≡ top_by p f ys
top_permuted {A} p f = along_permutation (λ xs ys. top_by p f xs ≡ top_by p f ys) (λ xs. refl) under
    turned
    (λ xs ys zs h k. h ∙ k) where
      under : (x : A) (xs ys : List A) → top_by p f xs ≡ top_by p f ys → top_by p f (x ∷ xs)
          ≡ top_by p f (x ∷ ys)
      under x xs ys h = top_by-cons p f x xs ∙ ap (greater (level_where (p x) (f x))) h
          ∙ sym (top_by-cons p f x ys)

      turned : (x y : A) (xs : List A) → top_by p f (x ∷ y ∷ xs) ≡ top_by p f (y ∷ x ∷ xs)
      turned x y xs =
          top_by-cons p f x (y ∷ xs) ∙ ap (greater (level_where (p x) (f x))) (top_by-cons p f y xs)
          ∙ swap_greater (level_where (p x) (f x)) (level_where (p y) (f y)) (top_by p f xs)
          ∙ sym (top_by-cons p f y (x ∷ xs) ∙ ap (greater (level_where (p y) (f y)))
          (top_by-cons p f x xs))

-- of those that are wanted, cut
top_wanted : {A B : Type 0} (want : A → Bool) (cut : A → B) (p : B → Bool) (f : B → ℕ) (xs : List A)
    → top_by p f (map cut (filter want xs)) ≡ top_by (λ a. want a && p (cut a)) (λ a. f (cut a)) xs
top_wanted want cut p f [] = refl
top_wanted {A} {B} want cut p f (x ∷ xs) = by_test (want x) (top_wanted want cut p f xs)
    ∙ sym (top_by-cons (λ a. want a && p (cut a)) (λ a. f (cut a)) x xs) where
      others : Option ℕ
      others = top_by (λ a. want a && p (cut a)) (λ a. f (cut a)) xs

      by_test : (b : Bool) → top_by p f (map cut (filter want xs)) ≡ others
          → top_by p f (map cut (cond b (x ∷ filter want xs) (filter want xs)))
          ≡ greater (level_where (b && p (cut x)) (f (cut x))) others
      by_test true ih = top_by-cons p f (cut x) (map cut (filter want xs))
          ∙ ap (greater (level_where (p (cut x)) (f (cut x)))) ih
      by_test false ih = ih

-- of none
top_none : {A : Type 0} (p : A → Bool) (f : A → ℕ) (xs : List A)
    → None ≡ top_by (λ a. false && p a) f xs
top_none p f [] = refl
top_none p f (x ∷ xs) = top_none p f xs ∙ sym (top_by-cons (λ a. false && p a) f x xs)

max_itself : (n : ℕ) → max n n ≡ n
max_itself n = omega arith

-- two of one number
either_level : (a b : Bool) (n : ℕ) → greater (level_where a n) (level_where b n)
    ≡ level_where (a || b) n
either_level true true n = ap Some (max_itself n)
either_level true false n = refl
either_level false b n = refl

exchanged : (a b c d : Option ℕ) → greater (greater a b) (greater c d) ≡ greater (greater a c) (greater b d)
exchanged a b c d = greater_assoc a b (greater c d) ∙ ap (greater a) (swap_greater b c d)
    ∙ sym (greater_assoc a c (greater b d))

-- of those that pass one test, and those that pass another
top_either : {A : Type 0} (s t p : A → Bool) (f : A → ℕ) (xs : List A)
    → greater (top_by (λ a. s a && p a) f xs) (top_by (λ a. t a && p a) f xs)
    ≡ top_by (λ a. (s a || t a) && p a) f xs
top_either s t p f [] = refl
top_either s t p f (x ∷ xs) =
    (λ i. greater (top_by-cons (λ a. s a && p a) f x xs i) (top_by-cons (λ a. t a && p a) f x xs i))
    ∙ exchanged (level_where (s x && p x) (f x)) (top_by (λ a. s a && p a) f xs)
    (level_where (t x && p x) (f x)) (top_by (λ a. t a && p a) f xs)
    ∙ (λ i. greater (either_level (s x && p x) (t x && p x) (f x) i) (top_either s t p f xs i))
    ∙ (λ i. greater (level_where (sym (and-or_distrib_right (s x) (t x) (p x)) i) (f x))
    (top_by (λ a. (s a || t a) && p a) f xs))
    ∙ sym (top_by-cons (λ a. (s a || t a) && p a) f x xs)

-- of what queries find, each its own
pub top_asked : {Q A B : Type 0} (want : Q → A → Bool) (cut : A → B) (p : B → Bool) (f : B → ℕ) (xs : List A)
    (queries : List Q) → top_by p f (flat_map (λ q. map cut (filter (want q) xs)) queries)
    ≡ top_by (λ a. list_any (λ q. want q a) queries && p (cut a)) (λ a. f (cut a)) xs
top_asked want cut p f xs [] = top_none (λ a. p (cut a)) (λ a. f (cut a)) xs
top_asked want cut p f xs (q ∷ queries) =
    ap (top_by p f) (flat_map-cons (λ q. map cut (filter (want q) xs)) q queries)
    ∙ top_by-append p f (map cut (filter (want q) xs))
    (flat_map (λ q. map cut (filter (want q) xs)) queries)
    ∙ (λ i. greater (top_wanted (want q) cut p f xs i) (top_asked want cut p f xs queries i))
    ∙ top_either (want q) (λ a. list_any (λ q. want q a) queries) (λ a. p (cut a)) (λ a. f (cut a)) xs

-- of elements that pass a test alike
top_same : {A : Type 0} (P : A → Type 0) (s t p : A → Bool) (f : A → ℕ) → ((a : A) → P a → s a ≡ t a)
    → (xs : List A) → AllByRecursion P xs → top_by (λ a. s a && p a) f xs ≡ top_by (λ a. t a && p a) f xs
top_same P s t p f same [] h = refl
top_same P s t p f same (x ∷ xs) h =
    top_by-cons (λ a. s a && p a) f x xs
    ∙ (λ i. greater (level_where (same x h.0 i && p x) (f x)) (top_same P s t p f same xs h.1 i))
    ∙ sym (top_by-cons (λ a. t a && p a) f x xs)

max_reaches : (n a b : ℕ) → (nat_le n a || nat_le n b) ≡ nat_le n (max a b)
max_reaches n a b = grind (arith, nat_tests)

max_left : (n a b : ℕ) → nat_le n a ≡ true → nat_le n b ≡ false → max a b ≡ a
max_left n a b p q = grind (arith, nat_tests)

max_right : (n a b : ℕ) → nat_le n a ≡ false → nat_le n b ≡ true → max a b ≡ b
max_right n a b p q = grind (arith, nat_tests)

at_least_greater : (n : ℕ) (a b : Option ℕ) → at_least n (greater a b)
    ≡ greater (at_least n a) (at_least n b)
at_least_greater n None b = refl
at_least_greater n (Some a) None = sym (greater_none (at_least n (Some a)))
at_least_greater n (Some a) (Some b) = ap (λ c. cond c (Some (max a b)) None) (sym (max_reaches n a b))
    ∙ by_tests (nat_le n a) (nat_le n b) refl refl where
      by_tests : (s t : Bool) → nat_le n a ≡ s → nat_le n b ≡ t → cond (s || t) (Some (max a b)) None
          ≡ greater (cond s (Some a) None) (cond t (Some b) None)
      by_tests true true p q = refl
      by_tests true false p q = ap Some (max_left n a b p q)
      by_tests false true p q = ap Some (max_right n a b p q)
      by_tests false false p q = refl

at_least_where : (n q : ℕ) (b : Bool) → level_where (nat_le n q && b) q ≡ at_least n (level_where b q)
at_least_where n q true = by_test (nat_le n q) where
  by_test : (t : Bool) → level_where (t && true) q ≡ cond t (Some q) None
  by_test true = refl
  by_test false = refl
at_least_where n q false = ap (λ b. level_where b q) (and-false (nat_le n q))

-- ---- what a row holds

-- the number in a column, as it is and without a sign
abbrev int_of : Value → ℤ
int_of (Int n) = n
int_of Null = pos 0
int_of (Real x) = pos 0
int_of (Text t) = pos 0
int_of (Blob b) = pos 0

abbrev nat_of : Value → ℕ
nat_of v = unsigned_abs (int_of v)

abbrev pub row_has : Row → Point → Bool
row_has r x =
    (is_leaf x.leaf && (nat_le (nat_of (column r 0)) (position_of x.leaf)
    && nat_le (position_of x.leaf) (nat_of (column r 1))))
    && (int_le (int_of (column r 2)) x.altitude && int_lt x.altitude (int_of (column r 3)))
    && (int_le (int_of (column r 4)) x.second && int_lt x.second (int_of (column r 5)))

abbrev pub row_priority : Row → ℕ
row_priority r = nat_of (column r 6)

row_holds_slab : (r : Row) (h : Held) (x : Point) → IsHeldIn r h → row_has r x ≡ slab_has h.slab x
row_holds_slab r h x is = λ i.
    (is_leaf x.leaf && (nat_le (nat_of (is.slab.first i)) (position_of x.leaf)
    && nat_le (position_of x.leaf) (nat_of (is.slab.last i))))
    && (int_le (int_of (is.slab.lower i)) x.altitude && int_lt x.altitude (int_of (is.slab.upper i)))
    && (int_le (int_of (is.slab.start i)) x.second && int_lt x.second (int_of (is.slab.end i)))

-- the slabs that were taken hold what the rows hold
pub taken_top : (rows : List Row) (helds : List Held) (x : Point) → HasTakenHelds helds rows
    → top_held helds x
    ≡ top_by (λ r. row_has r x) row_priority rows
unfolding top_held
taken_top [] [] x h = refl
taken_top [] (g ∷ helds) x h = absurd h
taken_top (r ∷ rows) [] x h = absurd h
taken_top (r ∷ rows) (g ∷ helds) x h =
    top_by-cons (λ k. slab_has k.slab x) (λ k. k.priority) g helds
    ∙ (λ i. greater (level_where (sym (row_holds_slab r g x h.0) i) (sym (ap nat_of h.0.priority) i))
    (taken_top rows helds x h.1 i))
    ∙ sym (top_by-cons (λ k. row_has k x) row_priority r rows)

-- ---- SQL's tests of numbers

less_if : (a b : Bool) → a ≡ true → is_lt (cond a Less (cond b Greater Equal)) ≡ true
less_if a b h = ap (λ t. is_lt (cond t Less (cond b Greater Equal))) h

at_most_if : (a b : Bool) → b ≡ false → is_le (cond a Less (cond b Greater Equal)) ≡ true
at_most_if true b h = refl
at_most_if false b h = ap (λ t. is_le (cond t Greater Equal)) h

greater_if : (a b : Bool) → a ≡ false → b ≡ true → is_gt (cond a Less (cond b Greater Equal)) ≡ true
greater_if a b h k = λ i. is_gt (cond (h i) Less (cond (k i) Greater Equal))

at_least_is : (a b : Bool) → is_ge (cond a Less (cond b Greater Equal)) ≡ not a
at_least_is true b = refl
at_least_is false true = refl
at_least_is false false = refl

not_below : (a b p : ℕ) → leb a p ≡ true → leb p b ≡ true → int_lt (pos b) (pos a) ≡ false
not_below a b p h k = grind (arith, nat_tests, ints)

first_reached : (a b p : ℕ) → leb a p ≡ true → leb p b ≡ true → is_at_most (Int (pos a)) (pos b) ≡ true
first_reached a b p h k = ap is_le (value_cmp-Int (pos a) (pos b))
    ∙ at_most_if _ _ (not_below a b p h k)

last_reached : (a b p : ℕ) → leb a p ≡ true → leb p b ≡ true → is_at_least (Int (pos b)) (pos a) ≡ true
last_reached a b p h k = ap is_ge (value_cmp-Int (pos b) (pos a)) ∙ at_least_is _ _
    ∙ ap not (not_below a b p h k)

between : (a b z : ℤ) → int_le a z ≡ true → int_lt z b ≡ true → int_lt a b ≡ true
between a b z h k = grind (arith, ints)

not_between : (a b z : ℤ) → int_le a z ≡ true → int_lt z b ≡ true → int_lt b a ≡ false
not_between a b z h k = grind (arith, ints)

lower_reached : (a b z : ℤ) → int_le a z ≡ true → int_lt z b ≡ true → is_below (Int a) b ≡ true
lower_reached a b z h k = ap is_lt (value_cmp-Int a b) ∙ less_if _ _ (between a b z h k)

upper_reached : (a b z : ℤ) → int_le a z ≡ true → int_lt z b ≡ true → is_above (Int b) a ≡ true
upper_reached a b z h k = ap is_gt (value_cmp-Int b a)
    ∙ greater_if _ _ (not_between a b z h k) (between a b z h k)

as_nat : (n q : ℕ) → not (int_lt (pos q) (pos n)) ≡ nat_le n q
as_nat n q = grind (arith, nat_tests, ints)

priority_reached : (n q : ℕ) → is_at_least (Int (pos q)) (pos n) ≡ nat_le n q
priority_reached n q = ap is_ge (value_cmp-Int (pos q) (pos n)) ∙ at_least_is _ _ ∙ as_nat n q

-- ---- points of an extent

-- the tests that a slab makes of a point
pub record IsIn (s : Slab) (x : Point) : Type 0 where
  pub is : is_leaf x.leaf ≡ true
  pub first : leb s.first (position_of x.leaf) ≡ true
  pub last : leb (position_of x.leaf) s.last ≡ true
  pub lower : int_le s.lower x.altitude ≡ true
  pub upper : int_lt x.altitude s.upper ≡ true
  pub start : int_le s.start x.second ≡ true
  pub end : int_lt x.second s.end ≡ true

pub is_in : (s : Slab) (x : Point) → slab_has s x ≡ true → IsIn s x
is_in s x h =
    let parts = and_parts _ (int_le s.start x.second && int_lt x.second s.end) h in
    let ground = and_parts (slab_has_leaf s x.leaf) _ parts.0 in
    let leaf = and_parts (is_leaf x.leaf) _ ground.0 in
    let leaves = and_parts (leb s.first (position_of x.leaf)) _ leaf.1 in
    let altitudes = and_parts (int_le s.lower x.altitude) _ ground.1 in
    let seconds = and_parts (int_le s.start x.second) _ parts.1 in
    record {
      is = leaf.0;
      first = leaves.0;
      last = leaves.1;
      lower = altitudes.0;
      upper = altitudes.1;
      start = seconds.0;
      end = seconds.1;
    }

-- the same of a span with a window
record Touches (s : Span) (v : Block) (e : Slab) : Type 0 where
  first : is_at_most (Int (pos s.first)) (pos e.last) ≡ true
  last : is_at_least (Int (pos s.last)) (pos e.first) ≡ true
  lower : is_below (Int v.window.lower) e.upper ≡ true
  upper : is_above (Int v.window.upper) e.lower ≡ true
  start : is_below (Int v.window.start) e.end ≡ true
  end : is_above (Int v.window.end) e.start ≡ true

touches : (s : Span) (v : Block) (e : Slab) (x : Point) → IsIn e x
    → (span_has s (position_of x.leaf) && window_has v.window x) ≡ true → Touches s v e
touches s v e x here h =
    let parts = and_parts (span_has s (position_of x.leaf)) _ h in
    let leaves = and_parts (leb s.first (position_of x.leaf)) _ parts.0 in
    let times = and_parts (int_le v.window.lower x.altitude && int_lt x.altitude v.window.upper) _
    parts.1 in
    let altitudes = and_parts (int_le v.window.lower x.altitude) _ times.0 in
    let seconds = and_parts (int_le v.window.start x.second) _ times.1 in
    record {
      first = first_reached s.first e.last (position_of x.leaf) leaves.0 here.last;
      last = last_reached e.first s.last (position_of x.leaf) here.first leaves.1;
      lower = lower_reached v.window.lower e.upper x.altitude altitudes.0 here.upper;
      upper = upper_reached e.lower v.window.upper x.altitude here.lower altitudes.1;
      start = lower_reached v.window.start e.end x.second seconds.0 here.end;
      end = upper_reached e.start v.window.end x.second here.start seconds.1;
    }

either_differs : (a b : Bool) → (not a || not b) ≡ not (a && b)
either_differs true b = refl
either_differs false b = refl

both_or : (l a b e : Bool) → ((l && (a && e)) || (l && (b && e))) ≡ (l && ((a || b) && e))
both_or l a b e =
    sym (and-or_distrib_left l (a && e) (b && e)) ∙ ap (λ t. l && t) (sym (and-or_distrib_right a b e))

-- ---- spans of plans

-- of plans that pass a test, as their rows do; what they hold at a point is the greatest of each
module _ (another : Row → Bool) (stays : Filed → Bool)
    (same : (p : Filed) (r : Row) → IsPlan p.row
    → another (Text p.operator ∷ Text (id_text p.row.id) ∷ r) ≡ stays p)
    (least : ℕ) (e : Slab) (x : Point) (here : IsIn e x) where
  abbrev want : Row → Bool
  want r = sql.passes_filter (span_filter_of e least) r && another r

  abbrev position : ℕ
  position = position_of x.leaf

  -- whether a plan's priority counts, and the plan is another
  abbrev counted : Filed → Bool
  counted p = nat_le least p.row.priority && stays p

  abbrev passes : Row → Bool
  passes r = want r && row_has (columns_from_first r) x

  -- the greatest priority of the rows that are wanted and hold the point
  abbrev top : List Row → Option ℕ
  top rows = top_by passes (λ r. row_priority (columns_from_first r)) rows

  regrouped : (l g a t : Bool) → l ≡ true → (((l && g) && a) && t) ≡ (g && (a && t))
  regrouped l g a t h = ap (λ u. ((u && g) && a) && t) h ∙ and_assoc g a t

  span_passes : (p : Filed) (n : ℕ) (v : Block) (s : Span) → IsPlan p.row → passes (row_of_span p n v s)
      ≡ (counted p && (span_has s position && window_has v.window x))
  span_passes p n v s hp =
      ap (λ b. want (row_of_span p n v s) && b)
      (regrouped (is_leaf x.leaf) (span_has s position)
      (int_le v.window.lower x.altitude && int_lt x.altitude v.window.upper)
      (int_le v.window.start x.second && int_lt x.second v.window.end) here.is)
      ∙ by_point (span_has s position && window_has v.window x) refl where
        by_point : (t : Bool) → (span_has s position && window_has v.window x) ≡ t
            → (want (row_of_span p n v s) && (span_has s position && window_has v.window x))
            ≡ (counted p && (span_has s position && window_has v.window x))
        by_point true h =
            let k = touches s v e x here h in
            λ i. ((k.first i && (k.last i && (k.lower i
            && (k.upper i && (k.start i && (k.end i && priority_reached least p.row.priority i))))))
            && same p (after_key (row_of_span p n v s)) hp i)
            && (span_has s position && window_has v.window x)
        by_point false h =
            ap (λ t. want (row_of_span p n v s) && t) h ∙ and-false (want (row_of_span p n v s))
            ∙ sym (ap (λ t. counted p && t) h ∙ and-false (counted p))

  no_level : (b : Bool) (n : ℕ) → None ≡ level_where (b && false) n
  no_level b n = sym (ap (λ t. level_where t n) (and-false b))

  on_spans : (p : Filed) (n : ℕ) (v : Block) (spans : List Span) → IsPlan p.row
      → top (map (row_of_span p n v) spans) ≡ level_where
      (counted p && (spans_have spans position && window_has v.window x)) p.row.priority
  on_spans p n v [] hp = no_level (counted p) p.row.priority
  on_spans p n v (s ∷ spans) hp =
      top_by-cons passes (λ r. row_priority (columns_from_first r)) (row_of_span p n v s)
      (map (row_of_span p n v) spans)
      ∙ (λ i. greater (level_where (span_passes p n v s hp i) p.row.priority)
      (on_spans p n v spans hp i))
      ∙ either_level _ _ p.row.priority
      ∙ ap (λ b. level_where b p.row.priority) (both_or (counted p) (span_has s position)
      (spans_have spans position) (window_has v.window x))

  -- one span of a volume has the point just where the volume has it
  on_block : (p : Filed) (n : ℕ) (v : Block) (spans : List Span) → IsPlan p.row
      → IsRanges (shape_positions v.footprint) spans → top (map (row_of_span p n v) spans)
      ≡ level_where (counted p && block_has v x) p.row.priority
  on_block p n v spans hp ranges =
      on_spans p n v spans hp
      ∙ ap (λ b. level_where (counted p && (b && window_has v.window x)) p.row.priority)
      (ranges.positions position ∙ ap (shape_has v.footprint)
      (leaf_undone x.leaf ((leaf_test x.leaf).0 here.is)))

  on_area : (p : Filed) (n : ℕ) (vs : List Block) (rows : List Row) → IsPlan p.row
      → AreSpanRowsFrom p n vs rows → top rows ≡ level_where (counted p && area_has vs x) p.row.priority
  on_area p n [] rows hp are = ap top are ∙ no_level (counted p) p.row.priority
  on_area p n (v ∷ vs) rows hp (spans, rest, ranges, are, more) =
      ap top are ∙ top_by-append passes (λ r. row_priority (columns_from_first r))
      (map (row_of_span p n v) spans) rest
      ∙ (λ i. greater (on_block p n v spans hp ranges i) (on_area p (n + 1) vs rest hp more i))
      ∙ either_level _ _ p.row.priority
      ∙ ap (λ b. level_where b p.row.priority) (sym
      (and-or_distrib_left (counted p) (block_has v x) (area_has vs x)))

  on_plan : (p : Filed) (rows : List Row) → IsPlan p.row → ArePlanSpanRows p rows → top rows
      ≡ at_least least (level_where (stays p && row_holds p.row x) p.row.priority)
  unfolding row_holds
  on_plan p rows hp are = by_live (is_live p.row.usage) are where
    by_live : (l : Bool) → MatchBool l (AreSpanRowsFrom p 0 p.row.area rows) (rows ≡ []) → top rows
        ≡ at_least least (level_where (stays p && (l && area_has p.row.area x)) p.row.priority)
    by_live true k =
        on_area p 0 p.row.area rows hp k
        ∙ ap (λ b. level_where b p.row.priority) (and_assoc (nat_le least p.row.priority)
        (stays p) (area_has p.row.area x))
        ∙ at_least_where least p.row.priority (stays p && area_has p.row.area x)
    by_live false k = ap top k
        ∙ sym (ap (λ b. at_least least (level_where b p.row.priority)) (and-false (stays p)))

  module _ (level : Filed → Option ℕ) (tops : List Filed → Option ℕ)
      (level_is : (p : Filed) → level p ≡ level_where (stays p && row_holds p.row x) p.row.priority)
      (of_none : tops [] ≡ None) (of_more : (p : Filed) (ps : List Filed) → tops (p ∷ ps)
      ≡ greater (level p) (tops ps)) where
    pub on_plans : (ps : List Filed) (rows : List Row) → ArePlans ps → AreSpanRows ps rows → top rows
        ≡ at_least least (tops ps)
    on_plans [] rows h are = ap top are ∙ sym (ap (at_least least) of_none)
    on_plans (p ∷ ps) rows h (front, rest, are, mine, more) =
        ap top are ∙ top_by-append passes (λ r. row_priority (columns_from_first r)) front rest
        ∙ (λ i. greater ((on_plan p front h.0 mine ∙ ap (at_least least) (sym (level_is p))) i)
        (on_plans ps rest h.1 more i))
        ∙ sym (ap (at_least least) (of_more p ps) ∙ at_least_greater least (level p) (tops ps))

    -- the slabs of the rows that are asked for hold at the point what the plans hold there
    at_point : (tables : Tables) (w : World) (span_bounds : SpanBounds) (queries : List Span)
        (helds : List Held)
        → IsContent w → AreTables tables w → Bounds span_bounds w → FindAll e (IsKnown span_bounds) queries
        → AllByRecursion (IsWithinExtent e) queries
        → HaveTakenAll (is_asked_if another least e) queries tables.spans helds
        → top_held helds x ≡ at_least least (tops w.plans)
    at_point tables w span_bounds queries helds h t bounds whole within (rows, alike, taken) =
        let (all, are, moved) = t.spans in
        taken_top rows helds x taken
        ∙ sym (top_permuted (λ r. row_has r x) row_priority (flat_map (λ query.
        map columns_from_first (filter (is_asked_if another least e query) tables.spans)) queries) rows alike)
        ∙ top_asked (is_asked_if another least e) columns_from_first (λ r. row_has r x) row_priority tables.spans
        queries
        ∙ top_same (HasKnownSpan span_bounds)
        (λ r. list_any (λ query. is_asked_if another least e query r) queries)
        want (λ r. row_has (columns_from_first r) x) (λ r. row_priority (columns_from_first r))
        (asked_rival another least e span_bounds queries whole within) tables.spans
        (tables_known span_bounds tables w t bounds.known)
        ∙ sym (top_permuted passes (λ r. row_priority (columns_from_first r)) all tables.spans moved)
        ∙ on_plans w.plans all h.rows are

-- the slabs of the rows that are asked for are those of the plan's rivals
abbrev not_of_plan : List ℕ → List ℕ → Row → Bool
not_of_plan o id r = differs (column r 0) (Text o) || differs (column r 1) (Text (id_text id))

another_plan : (o id : List ℕ) → IsId id → (p : Filed) (r : Row) → IsPlan p.row
    → not_of_plan o id (Text p.operator ∷ Text (id_text p.row.id) ∷ r) ≡ not (is_own o id p)
another_plan o id hi p r hp = either_differs (sql.is_text (Text p.operator) o)
    (sql.is_text (Text (id_text p.row.id)) (id_text id)) ∙ ap not (own_row o id p r hi hp.id)

level_of_rival : (o id : List ℕ) (x : Point) (p : Filed)
    → rival_level o id p x ≡ level_where (not (is_own o id p) && row_holds p.row x) p.row.priority
unfolding rival_level
level_of_rival o id x p = refl

are_rivals : (tables : Tables) (w : World) (o id : List ℕ) (least : ℕ) (extent : Slab)
    (span_bounds : SpanBounds)
    (queries : List Span) (helds : List Held) → IsId id → IsContent w → AreTables tables w
    → Bounds span_bounds w → FindAll extent (IsKnown span_bounds) queries
    → AllByRecursion (IsWithinExtent extent) queries
    → HaveTakenAll (is_asked (record { operator = o; id = Some id; least = least }) extent) queries
    tables.spans helds
    → AreRivals w o id least extent helds
are_rivals tables w o id least extent span_bounds queries helds hi h t bounds whole within taken =
    λ x inside. at_point (not_of_plan o id) (λ p. not (is_own o id p)) (another_plan o id hi) least extent x
    (is_in extent x inside) (λ p. rival_level o id p x) (λ ps. rivals_top o id ps x)
    (level_of_rival o id x) (rivals_top-nil o id x) (λ p ps. rivals_top-cons o id p ps x) tables w span_bounds
    queries helds h t bounds whole within taken
    ∙ ap (at_least least) (held_by_rivals o id w x)

-- and where the operator's own are left out, those that others hold
abbrev not_by : List ℕ → Row → Bool
not_by o r = differs (column r 0) (Text o)

by_another : (o : List ℕ) (p : Filed) (r : Row) → IsPlan p.row
    → not_by o (Text p.operator ∷ Text (id_text p.row.id) ∷ r) ≡ not (is_by o p)
by_another o p r hp = ap not (ap is_eq (value_cmp-Text p.operator o) ∙ turned p.operator o)

level_of_other : (o : List ℕ) (x : Point) (p : Filed)
    → other_level o p x ≡ level_where (not (is_by o p) && row_holds p.row x) p.row.priority
unfolding other_level
level_of_other o x p = refl

none_below : (n : ℕ) → nat_le 0 n ≡ true
none_below n = grind (arith, nat_tests)

pub any_level : (l : Option ℕ) → at_least 0 l ≡ l
any_level None = refl
any_level (Some n) = ap (λ b. cond b (Some n) None) (none_below n)

are_others : (tables : Tables) (w : World) (o : List ℕ) (least : ℕ) (extent : Slab)
    (span_bounds : SpanBounds) (queries : List Span) (helds : List Held) → IsContent w → AreTables tables w
    → Bounds span_bounds w → FindAll extent (IsKnown span_bounds) queries
    → AllByRecursion (IsWithinExtent extent) queries
    → HaveTakenAll (is_asked (record { operator = o; id = None; least = least }) extent) queries
    tables.spans helds
    → HaveLevel extent helds (λ x. at_least least (held w o x))
are_others tables w o least extent span_bounds queries helds h t bounds whole within taken = λ x inside.
    at_point (not_by o) (λ p. not (is_by o p)) (by_another o) least extent x
    (is_in extent x inside) (λ p. other_level o p x) (λ ps. others_top o ps x)
    (level_of_other o x) (others_top-nil o x) (λ p ps. others_top-cons o p ps x) tables w span_bounds
    queries helds h t bounds whole within taken
    ∙ ap (at_least least) (held_by_others o w x)

-- the slabs of the rows that are asked for are those that are wanted
pub are_wanted : (tables : Tables) (w : World) (o : List ℕ) (id : Option (List ℕ)) (least : ℕ)
    (extent : Slab) (span_bounds : SpanBounds) (queries : List Span) (helds : List Held) → IfSome id IsId
    → IsContent w → AreTables tables w → Bounds span_bounds w
    → FindAll extent (IsKnown span_bounds) queries → AllByRecursion (IsWithinExtent extent) queries
    → HaveTakenAll (is_asked (record { operator = o; id = id; least = least }) extent) queries tables.spans
    helds → AreWanted w (record { operator = o; id = id; least = least }) extent helds
are_wanted tables w o (Some id) least extent span_bounds queries helds hi h t bounds whole within taken =
    are_rivals tables w o id least extent span_bounds queries helds hi h t bounds whole within taken
are_wanted tables w o None least extent span_bounds queries helds hi h t bounds whole within taken =
    are_others tables w o least extent span_bounds queries helds h t bounds whole within taken

-- ---- one query after the other

taken_both : (helds more : List Held) (rows others : List Row) → HasTakenHelds helds rows
    → HasTakenHelds more others → HasTakenHelds (helds ++ more) (rows ++ others)
taken_both [] more [] others h k = k
taken_both [] more (r ∷ rows) others h k = absurd h
taken_both (g ∷ helds) more [] others h k = absurd h
taken_both (g ∷ helds) more (r ∷ rows) others h k = (h.0, taken_both helds more rows others h.1 k)

module _ {Q : Type 0} (asked : Q → Row → Bool) (spans : List Row) where
  abbrev found : Q → List Row
  found query = map columns_from_first (filter (asked query) spans)

  pub all_taken : (queries : List Q) (query : Q) (helds more : List Held)
      → HaveTakenAll asked queries spans helds → HaveTaken (asked query) spans more
      → HaveTakenAll asked (queries ++ query ∷ []) spans (helds ++ more)
  all_taken queries query helds more (rows, same, taken) (others, also, last) = (
    rows ++ others,
    subst (λ xs. IsPermutation xs (rows ++ others))
        (sym (flat_map-append found queries (query ∷ [])
        ∙ ap (λ xs. flat_map found queries ++ xs) (flat_map-cons found query []
        ∙ append-nil (found query))))
        (IsPermutation-append (flat_map found queries) rows (found query) others same also),
    taken_both helds more rows others taken last,
  )
