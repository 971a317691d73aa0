-- The rows of a plan's volumes and spans, one volume after the other.
use Rattle.std.proofs.Common.{◌≡◌, ℕ, pos, zero, suc, ◌+◌, ◌<◌, List, [], ◌∷◌, ◌++◌, map, length, take, get_or, refl, sym, ap, subst, ◌∙◌, arith, append_assoc}
use Rattle.std.specs.List.{AllByRecursion}
use Rattle.std.proofs.lemmas.List.{append-nil, take_more}
use Rattle.std.proofs.lemmas.List.Elements.{recursion_from_All}
use Rattle.sqlite_value.specs.Order.{Row}
use Rattle.s2_cover.specs.declared.spans.Span.{Span}
use Rattle.s2_cover.specs.Covers.{IsRanges}
use Rattle.volume4d.specs.declared.slab.Slab.{Slab}
use Rattle.volume4d.specs.Footprint.{footprint_bytes}
use Rattle.volume4d.specs.Volume.{shape_positions, Block}
use Rattle.volume4d.specs.Slab.{span_of, slab_window, AreVolumeSlabs}
use Rattle.desk_sql.specs.Rows as sql
use Rattle.desk_store.specs.World.{Filed}
use Rattle.row_codec.specs.Tables.{id_text, rows_from, row_of_volume, volume_rows_from, canon_bytes, row_of_cover, row_of_span, AreSpanRowsFrom, volume_record, slab_record}

-- two lists that are shown alike are alike at each place
pub at_both : {A B C : Type 0} (f : A → C) (g : B → C) (xs : List A) (ys : List B) (i : ℕ) (a : A)
    (b : B)
    → map f xs ≡ map g ys → i < length ys → f (get_or xs i a) ≡ g (get_or ys i b)
at_both f g [] [] i a b e h = absurd (omega (arith, h))
at_both f g [] (y ∷ ys) i a b e h = cc
at_both f g (x ∷ xs) [] i a b e h = absurd (omega (arith, h))
at_both f g (x ∷ xs) (y ∷ ys) zero a b e h = cc
at_both f g (x ∷ xs) (y ∷ ys) (suc i) a b e h = let more : map f xs ≡ map g ys = cc
    in at_both f g xs ys i a b more (omega (arith, h))

pub map_append : {A B : Type 0} (f : A → B) (xs ys : List A) → map f (xs ++ ys) ≡ map f xs ++ map f ys
map_append f [] ys = refl
map_append f (x ∷ xs) ys = ap (λ zs. f x ∷ zs) (map_append f xs ys)

taken : (vs : List Block) (i : ℕ) (v d : Block) → i < length vs → v ≡ get_or vs i d → take (i + 1) vs
    ≡ take i vs ++ v ∷ []
taken vs i v d h is = take_more vs i d h ∙ ap (λ u. take i vs ++ u ∷ []) (sym is)

length_taken : (vs : List Block) (i : ℕ) → i < length vs → length (take i vs) ≡ i
length_taken [] i h = absurd (omega (arith, h))
length_taken (v ∷ vs) zero h = refl
length_taken (v ∷ vs) (suc i) h = let more : length (take i vs) ≡ i =
    length_taken vs i (omega (arith, h))
    in omega (arith, more)

-- ---- volumes

rows_more : (row : Filed → ℕ → Block → Row) (p : Filed) (n : ℕ) (us : List Block) (v : Block)
    → rows_from row p n (us ++ v ∷ []) ≡ rows_from row p n us ++ row p (n + length us) v ∷ []
rows_more row p n [] v = let none : n ≡ n + length {A = Block} [] = omega arith
    in ap (λ m. row p m v ∷ []) none
rows_more row p n (u ∷ us) v =
    let next : (n + 1) + length us ≡ n + length (u ∷ us) = omega arith in
    ap (λ rows. row p n u ∷ rows) (rows_more row p (n + 1) us v
    ∙ ap (λ m. rows_from row p (n + 1) us ++ row p m v ∷ []) next)

-- the row of the next volume is put after those so far
row_put : (row : Filed → ℕ → Block → Row) (p : Filed) (vs : List Block) (i place : ℕ) (v d : Block)
    (rows : List Row) (next : Row) → i < length vs → v ≡ get_or vs i d → place ≡ i
    → rows ≡ rows_from row p 0 (take i vs) → ((n : ℕ) → place ≡ n → next ≡ row p n v)
    → rows ++ next ∷ [] ≡ rows_from row p 0 (take (i + 1) vs)
row_put row p vs i place v d rows next h is at before put =
    let there : place ≡ 0 + length (take i vs) = at ∙ sym (length_taken vs i h)
    ∙ zeros (length (take i vs)) in
    (λ j. before j ++ put (0 + length (take i vs)) there j ∷ [])
    ∙ sym (rows_more row p 0 (take i vs) v) ∙ ap (rows_from row p 0) (sym (taken vs i v d h is)) where
      zeros : (n : ℕ) → n ≡ 0 + n
      zeros n = omega arith

pub volume_put : (p : Filed) (vs : List Block) (i place : ℕ) (v d : Block) (rows : List Row) (row : Row)
    (text : List ℕ) (asked : List ℕ) → i < length vs → v ≡ get_or vs i d → place ≡ i → text
    ≡ id_text p.row.id
    → asked ≡ footprint_bytes v.footprint → rows ≡ volume_rows_from p 0 (take i vs) → row
    ≡ volume_record p.operator text place v.window asked → rows ++ row ∷ []
    ≡ volume_rows_from p 0 (take (i + 1) vs)
volume_put p vs i place v d rows row text asked h is at named bytes before put =
    row_put row_of_volume p vs i place v d rows row h is at before
    (λ n there. put ∙ (λ k. volume_record p.operator (named k) (there k) v.window (bytes k)))

pub cover_put : (p : Filed) (vs : List Block) (i place : ℕ) (v d : Block) (rows : List Row) (row : Row)
    (text : List ℕ) (canon : List ℕ) → i < length vs → v ≡ get_or vs i d → place ≡ i → text
    ≡ id_text p.row.id
    → canon ≡ canon_bytes v.footprint → rows ≡ rows_from row_of_cover p 0 (take i vs) → row
    ≡ sql.cover_row p.operator text place canon → rows ++ row ∷ []
    ≡ rows_from row_of_cover p 0 (take (i + 1) vs)
cover_put p vs i place v d rows row text canon h is at named bytes before put =
    row_put row_of_cover p vs i place v d rows row h is at before
    (λ n there. put ∙ (λ k. sql.cover_row p.operator (named k) (there k) (bytes k)))

-- ---- spans

spans_more : (p : Filed) (n : ℕ) (us : List Block) (v : Block) (rows : List Row) (spans : List Span)
    → AreSpanRowsFrom p n us rows → IsRanges (shape_positions v.footprint) spans
    → AreSpanRowsFrom p n (us ++ v ∷ []) (rows ++ map (row_of_span p (n + length us) v) spans)
spans_more p n [] v rows spans e ranges =
    let none : n + length {A = Block} [] ≡ n = omega arith in (
      spans,
      [],
      ranges,
      (λ j. e j ++ map (row_of_span p (none j) v) spans)
          ∙ sym (append-nil (map (row_of_span p n v) spans)),
      refl,
    )
spans_more p n (u ∷ us) v rows spans (first, rest, mine, are, more) ranges =
    let next : (n + 1) + length us ≡ n + length (u ∷ us) = omega arith in
    let added = map (row_of_span p (n + length (u ∷ us)) v) spans in (
      first,
      rest ++ added,
      mine,
      ap (λ xs. xs ++ added) are ∙ append_assoc (map (row_of_span p n u) first) rest added,
      subst (λ m. AreSpanRowsFrom p (n + 1) (us ++ v ∷ []) (rest ++ map (row_of_span p m v) spans)) next
          (spans_more p (n + 1) us v rest spans more ranges),
    )

slabs_are : (p : Filed) (place : ℕ) (v : Block) (slabs : List Slab)
    → AllByRecursion (λ s. slab_window s ≡ v.window) slabs
    → map (slab_record p.operator (id_text p.row.id) place p.row.priority) slabs
    ≡ map (row_of_span p place v) (map span_of slabs)
slabs_are p place v [] h = refl
slabs_are p place v (s ∷ slabs) h = λ j. one s h.0 j ∷ slabs_are p place v slabs h.1 j where
  one : (s : Slab) → slab_window s ≡ v.window → slab_record p.operator (id_text p.row.id) place
      p.row.priority
      s ≡ row_of_span p place v (span_of s)
  one s e = ap (λ w. sql.span_row (record {
    operator = p.operator;
    id = id_text p.row.id;
    place = place;
    first = pos s.first;
    last = pos s.last;
    lower = w.lower;
    upper = w.upper;
    start = w.start;
    stop = w.end;
    priority = p.row.priority;
  })) e

pub spans_put : (p : Filed) (vs : List Block) (i place : ℕ) (v d : Block) (rows more all : List Row)
    (text : List ℕ) (slabs : List Slab) → i < length vs → v ≡ get_or vs i d → place ≡ i → text
    ≡ id_text p.row.id
    → AreVolumeSlabs v slabs → AreSpanRowsFrom p 0 (take i vs) rows → more
    ≡ map (slab_record p.operator text place p.row.priority) slabs → all ≡ rows ++ more
    → AreSpanRowsFrom p 0 (take (i + 1) vs) all
spans_put p vs i place v d rows more all text slabs h is at named are before put whole =
    let there : place ≡ 0 + length (take i vs) = at ∙ sym (length_taken vs i h)
    ∙ zeros (length (take i vs)) in
    let spans_is : more ≡ map (row_of_span p (0 + length (take i vs)) v) (map span_of slabs) = put
    ∙ (λ k. map (slab_record p.operator (named k) (there k) p.row.priority) slabs)
    ∙ slabs_are p (0 + length (take i vs)) v slabs
    (recursion_from_All (λ s. slab_window s ≡ v.window) slabs are.windows) in
    subst (λ us. AreSpanRowsFrom p 0 us all) (sym (taken vs i v d h is))
    (subst (AreSpanRowsFrom p 0 (take i vs ++ v ∷ [])) (sym (whole ∙ ap (λ xs. rows ++ xs) spans_is))
    (spans_more p 0 (take i vs) v rows (map span_of slabs) before are.ranges)) where
      zeros : (n : ℕ) → n ≡ 0 + n
      zeros n = omega arith
