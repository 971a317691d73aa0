-- The rows that are still to come of plans, as a cursor goes on.
use Rattle.std.proofs.Common.{◌≡◌, ℕ, ◌+◌, Bool, true, false, not, MatchBool, List, [], ◌∷◌, ◌++◌, map, drop, refl, sym, ap, subst, ◌∙◌, append_assoc, append-nil, zero, suc, ◌<◌, ◌^◌, length, length-append, arith, get_or, IsTrue, true≢false}
use Rattle.std.specs.Prelude.{◌↔◌}
use Rattle.std.specs.List.{AllByRecursion}
use Rattle.std.proofs.lemmas.List.Elements.{recursion_from_All}
use Rattle.sqlite_value.specs.Order.{Row}
use Rattle.s2_cover.specs.declared.spans.Span.{Span}
use Rattle.s2_cover.specs.Covers.{IsRanges}
use Rattle.volume4d.specs.declared.slab.Slab.{Slab}
use Rattle.volume4d.specs.Slab.{span_of, slab_window, AreVolumeSlabs}
use Rattle.volume4d.specs.Volume.{Block}
use Rattle.desk_rules.specs.Outcome.{is_live}
use Rattle.desk_store.specs.World.{Filed}
use Rattle.row_codec.specs.SpanBounds.{IsKnownRow, Keeps}
use Rattle.row_codec.specs.declared.span_bounds.SpanBounds.{SpanBounds}
use Rattle.row_codec.specs.Tables.{slab_row, row_of_span, AreSpanRowsFrom, AreSpanRows}
use Rattle.table_load.specs.SpanChecks.{AreRestOf, AreAwaited, Awaits, AwaitsAlike, HasChecked, HasSlab, IsEntered, IsFound, IsNextRow, Place, after_plan}
use Rattle.row_codec.proofs.lemmas.Exact.{slabs_as_spans, cut_at}

-- ---- one plan

-- the rest of a plan's rows, by whether it is live
abbrev RestIf : Bool → Filed → List Slab → ℕ → ℕ → List Row → Type 0
RestIf live p slabs shown place rows = MatchBool live
    ((more : List Row) × (rows ≡ map (slab_row p shown) slabs ++ more)
    × AreSpanRowsFrom p place (drop place p.row.area) more)
    (rows ≡ [])

abbrev RowsIf : Bool → Filed → List Row → Type 0
RowsIf live p rows = MatchBool live (AreSpanRowsFrom p 0 p.row.area rows) (rows ≡ [])

-- of a plan that was not begun all rows are to come
rest_begins : (live : Bool) (p : Filed) (shown : ℕ) (rows : List Row)
    → RestIf live p [] shown 0 rows ↔ RowsIf live p rows
rest_begins true p shown rows = (
  λ h. subst (AreSpanRowsFrom p 0 p.row.area) (sym h.1) h.2,
  λ are. (rows, refl, are),
)
rest_begins false p shown rows = ((λ e. e), λ e. e)

-- of one whose volumes are done none are
rest_ends : (live : Bool) (p : Filed) (shown place : ℕ) → drop place p.row.area ≡ [] → (rows : List Row)
    → RestIf live p [] shown place rows ↔ (rows ≡ [])
rest_ends true p shown place done rows = (
  λ h. h.1 ∙ subst (λ vs. AreSpanRowsFrom p place vs h.0) done h.2,
  λ e. ([], e, subst (λ vs. AreSpanRowsFrom p place vs []) (sym done) refl),
)
rest_ends false p shown place done rows = ((λ e. e), λ e. e)

module _ (one_list : (set : ℕ → Bool) (one other : List Span) → IsRanges set one → IsRanges set other
    → one ≡ other) (p : Filed) (place : ℕ) (v : Block) (vs : List Block) (slabs : List Slab)
    (are : AreVolumeSlabs v slabs) where
  same_rows : map (row_of_span p place v) (map span_of slabs) ≡ map (slab_row p place) slabs
  same_rows = slabs_as_spans p place v slabs (recursion_from_All (λ s. slab_window s ≡ v.window) slabs
      are.windows)

  -- the rows of a volume are those of its slabs
  shown_first : (rows : List Row) → AreSpanRowsFrom p place (v ∷ vs) rows
      ↔ ((more : List Row) × (rows ≡ map (slab_row p place) slabs ++ more)
      × AreSpanRowsFrom p (place + 1) vs more)
  shown_first rows = (
    λ t.
        let spans = one_list _ t.0 (map span_of slabs) t.2 are.ranges in
        (t.1, t.3 ∙ ap (λ s. map (row_of_span p place v) s ++ t.1) spans ∙ ap (λ r. r ++ t.1) same_rows, t.4),
    λ t. (map span_of slabs, t.0, are.ranges, t.1 ∙ ap (λ r. r ++ t.0) (sym same_rows), t.2),
  )

  rest_shown : (live : Bool) (shown : ℕ) → drop place p.row.area ≡ v ∷ vs → drop (place + 1) p.row.area ≡ vs
      → (rows : List Row)
      → RestIf live p [] shown place rows ↔ RestIf live p slabs place (place + 1) rows
  rest_shown true shown here later rows = (
    λ h.
        let t = (shown_first h.0).0 (subst (λ ws. AreSpanRowsFrom p place ws h.0) here h.2) in
        (t.0, h.1 ∙ t.1, subst (λ ws. AreSpanRowsFrom p (place + 1) ws t.0) (sym later) t.2),
    λ h. (
      rows,
      refl,
      subst (λ ws. AreSpanRowsFrom p place ws rows) (sym here) ((shown_first rows).1
          (h.0, h.1, subst (λ ws. AreSpanRowsFrom p (place + 1) ws h.0) later h.2)),
    ),
  )
  rest_shown false shown here later rows = ((λ e. e), λ e. e)

-- ---- that plan, and others

module _ (p : Filed) (ps : List Filed) where
  -- what is alike of one plan's rows is alike of all
  on_rest : (one other : List Slab) (shown then place next : ℕ)
      → ((mine : List Row) → AreRestOf p one shown place mine ↔ AreRestOf p other then next mine)
      → (rows : List Row)
      → AreAwaited (p ∷ ps) one shown place rows ↔ AreAwaited (p ∷ ps) other then next rows
  on_rest one other shown then place next same rows = (
    λ h. (h.0, h.1, h.2, (same h.0).0 h.3, h.4),
    λ h. (h.0, h.1, h.2, (same h.0).1 h.3, h.4),
  )

  pub volume_shown : ((set : ℕ → Bool) (one other : List Span) → IsRanges set one → IsRanges set other
      → one ≡ other) → (place shown : ℕ) (v : Block) (slabs : List Slab) → AreVolumeSlabs v slabs
      → drop place p.row.area ≡ v ∷ drop (place + 1) p.row.area → (rows : List Row)
      → AreAwaited (p ∷ ps) [] shown place rows ↔ AreAwaited (p ∷ ps) slabs place (place + 1) rows
  volume_shown one_list place shown v slabs are here =
      on_rest [] slabs shown place place (place + 1)
      (rest_shown one_list p place v (drop (place + 1) p.row.area) slabs are (is_live p.row.usage) shown here
      refl)

-- before the next plan the rows of all that are left are to come
pub begins : (ps : List Filed) (shown : ℕ) (rows : List Row)
    → AreAwaited ps [] shown 0 rows ↔ AreSpanRows ps rows
begins [] shown rows = ((λ e. e), λ e. e)
begins (p ∷ ps) shown rows = (
  λ h. (h.0, h.1, h.2, (rest_begins (is_live p.row.usage) p shown h.0).0 h.3, h.4),
  λ h. (h.0, h.1, h.2, (rest_begins (is_live p.row.usage) p shown h.0).1 h.3, h.4),
)

-- a plan of which nothing is to come is passed
passed_if : (p : Filed) (ps : List Filed) (slabs : List Slab) (shown place : ℕ)
    → ((mine : List Row) → AreRestOf p slabs shown place mine ↔ (mine ≡ [])) → (rows : List Row)
    → AreAwaited (p ∷ ps) slabs shown place rows ↔ AreAwaited ps [] shown 0 rows
passed_if p ps slabs shown place none rows = (
  λ h. (begins ps shown rows).1
      (subst (AreSpanRows ps) (sym (h.2 ∙ ap (λ xs. xs ++ h.1) ((none h.0).0 h.3))) h.4),
  λ h. ([], rows, refl, (none []).1 refl, (begins ps shown rows).0 h),
)

pub passed : (p : Filed) (ps : List Filed) (shown place : ℕ) → drop place p.row.area ≡ [] → (rows : List Row)
    → AreAwaited (p ∷ ps) [] shown place rows ↔ AreAwaited ps [] shown 0 rows
passed p ps shown place done =
    passed_if p ps [] shown place (rest_ends (is_live p.row.usage) p shown place done)

pub passed_closed : (p : Filed) (ps : List Filed) (slabs : List Slab) (shown place : ℕ)
    → is_live p.row.usage ≡ false → (rows : List Row)
    → AreAwaited (p ∷ ps) slabs shown place rows ↔ AreAwaited ps [] shown 0 rows
passed_closed p ps slabs shown place closed =
    passed_if p ps slabs shown place (λ mine. by_live (is_live p.row.usage) closed mine) where
      by_live : (live : Bool) → live ≡ false → (mine : List Row) → RestIf live p slabs shown place mine
          ↔ (mine ≡ [])
      by_live true is mine = cc
      by_live false is mine = ((λ e. e), λ e. e)

-- ---- the next row

first_of : {x y : Row} {xs ys : List Row} → x ∷ xs ≡ y ∷ ys → x ≡ y
first_of h = cc

later_of : {x y : Row} {xs ys : List Row} → x ∷ xs ≡ y ∷ ys → xs ≡ ys
later_of h = cc

module _ (p : Filed) (ps : List Filed) (s : Slab) (slabs : List Slab) (shown place : ℕ)
    (lives : is_live p.row.usage ≡ true) where
  live_rest : (rows : List Row) (ss : List Slab) → AreRestOf p ss shown place rows
      → (more : List Row) × (rows ≡ map (slab_row p shown) ss ++ more)
      × AreSpanRowsFrom p place (drop place p.row.area) more
  live_rest rows ss h = subst (λ b. RestIf b p ss shown place rows) lives h

  rest_live : (rows : List Row) (ss : List Slab) → (more : List Row)
      → rows ≡ map (slab_row p shown) ss ++ more → AreSpanRowsFrom p place (drop place p.row.area) more
      → AreRestOf p ss shown place rows
  rest_live rows ss more e are = subst (λ b. RestIf b p ss shown place rows) (sym lives) (more, e, are)

  -- the rows that are to come begin with the next slab's
  begin_so : (rows : List Row) → AreAwaited (p ∷ ps) (s ∷ slabs) shown place rows
      → (later : List Row) × (rows ≡ slab_row p shown s ∷ later) × AreAwaited (p ∷ ps) slabs shown place later
  begin_so rows h =
      let (more, e, are) = live_rest h.0 (s ∷ slabs) h.3 in
      let mine = map (slab_row p shown) slabs ++ more in (
        mine ++ h.1,
        h.2 ∙ ap (λ xs. xs ++ h.1) e,
        (mine, h.1, refl, rest_live mine slabs more refl are, h.4),
      )

  pub goes_on : (row : Row) (rest : List Row) → row ≡ slab_row p shown s
      → AreAwaited (p ∷ ps) (s ∷ slabs) shown place (row ∷ rest) ↔ AreAwaited (p ∷ ps) slabs shown place rest
  goes_on row rest is = (
    λ h.
        let (later, e, awaited) = begin_so (row ∷ rest) h in
        subst (AreAwaited (p ∷ ps) slabs shown place) (sym (later_of e)) awaited,
    λ h.
        let (more, e, are) = live_rest h.0 slabs h.3 in
        let mine = slab_row p shown s ∷ h.0 in (
          mine,
          h.1,
          (λ i. is i ∷ h.2 i),
          rest_live mine (s ∷ slabs) more (ap (λ xs. slab_row p shown s ∷ xs) e) are,
          h.4,
        ),
  )

  pub is_other : (row : Row) (rest : List Row) → (row ≡ slab_row p shown s → ⊥)
      → AreAwaited (p ∷ ps) (s ∷ slabs) shown place (row ∷ rest) → ⊥
  is_other row rest off h = let (later, e, awaited) = begin_so (row ∷ rest) h in off (first_of e)

  pub some_left : AreAwaited (p ∷ ps) (s ∷ slabs) shown place [] → ⊥
  some_left h = let (later, e, awaited) = begin_so [] h in cc

-- ---- as the cursor's calls report it

-- what is alike twice is alike
pub alike : {A B C : Type 0} → A ↔ B → B ↔ C → A ↔ C
alike one two = ((λ a. two.0 (one.0 a)), λ c. one.1 (two.1 c))

-- the next volume of a plan is shown, where no slab of that before is left
pub shows : ((set : ℕ → Bool) (one other : List Span) → IsRanges set one → IsRanges set other → one ≡ other)
    → (p : Filed) (ps : List Filed) (left slabs : List Slab) (shown place : ℕ) (v : Block) → left ≡ []
    → AreVolumeSlabs v slabs → drop place p.row.area ≡ v ∷ drop (place + 1) p.row.area
    → (Old : Type 0) (rows : List Row) → Old ↔ AreAwaited (p ∷ ps) left shown place rows
    → Old ↔ AreAwaited (p ∷ ps) slabs place (place + 1) rows
shows one_list p ps left slabs shown place v spent are here Old rows before =
    alike (subst (λ ss. Old ↔ AreAwaited (p ∷ ps) ss shown place rows) spent before)
    (volume_shown p ps one_list place shown v slabs are here rows)

-- the plan under way stays so
pub stays : (ps : List Filed) (old new : Place) (p : Filed) (qs : List Filed) → drop old.plan ps ≡ p ∷ qs
    → new.plan ≡ old.plan → (rows : List Row)
    → AreAwaited (p ∷ qs) (drop old.next old.slabs) old.shown old.place rows
    ↔ AreAwaited (p ∷ qs) (drop new.next new.slabs) new.shown new.place rows
    → Awaits ps old rows ↔ Awaits ps new rows
stays ps old new p qs is same rows one =
    let there : drop new.plan ps ≡ p ∷ qs = ap (λ n. drop n ps) same ∙ is in
    alike (on_plans old (drop old.plan ps) (p ∷ qs) is)
    (alike one (on_plans new (p ∷ qs) (drop new.plan ps) (sym there))) where
      on_plans : (at : Place) (some others : List Filed) → some ≡ others
          → AreAwaited some (drop at.next at.slabs) at.shown at.place rows
          ↔ AreAwaited others (drop at.next at.slabs) at.shown at.place rows
      on_plans at some others e = (
        subst (λ xs. AreAwaited xs (drop at.next at.slabs) at.shown at.place rows) e,
        subst (λ xs. AreAwaited xs (drop at.next at.slabs) at.shown at.place rows) (sym e),
      )

-- the plan under way is passed
pub leaves : (ps : List Filed) (old : Place) (p : Filed) → drop old.plan ps ≡ p ∷ drop (old.plan + 1) ps
    → (new : Place) → new ≡ after_plan old → (rows : List Row)
    → AreAwaited (p ∷ drop (old.plan + 1) ps) (drop old.next old.slabs) old.shown old.place rows
    ↔ AreAwaited (drop (old.plan + 1) ps) [] old.shown 0 rows
    → Awaits ps old rows ↔ Awaits ps new rows
leaves ps old p is new at rows one = subst (λ n. Awaits ps old rows ↔ Awaits ps n rows) (sym at) (
  λ h. one.0 (subst (λ xs. AreAwaited xs (drop old.next old.slabs) old.shown old.place rows) is h),
  λ h. subst (λ xs. AreAwaited xs (drop old.next old.slabs) old.shown old.place rows) (sym is) (one.1 h),
)

pub leaves_closed : (ps : List Filed) (old : Place) (p : Filed)
    → drop old.plan ps ≡ p ∷ drop (old.plan + 1) ps → is_live p.row.usage ≡ false → (new : Place)
    → new ≡ after_plan old → AwaitsAlike ps old new
leaves_closed ps old p is closed new at rows = leaves ps old p is new at rows
    (passed_closed p (drop (old.plan + 1) ps) (drop old.next old.slabs) old.shown old.place closed rows)

pub leaves_done : (ps : List Filed) (old mid : Place) (p : Filed)
    → drop old.plan ps ≡ p ∷ drop (old.plan + 1) ps → mid.plan ≡ old.plan
    → ((later : List Filed) (rows : List Row)
    → AreAwaited (p ∷ later) (drop old.next old.slabs) old.shown old.place rows
    ↔ AreAwaited (p ∷ later) (drop mid.next mid.slabs) mid.shown mid.place rows)
    → drop mid.next mid.slabs ≡ [] → drop mid.place p.row.area ≡ [] → (new : Place)
    → new ≡ after_plan mid → AwaitsAlike ps old new
leaves_done ps old mid p is same on spent done new at rows =
    let here : drop mid.plan ps ≡ p ∷ drop (mid.plan + 1) ps =
    subst (λ n. drop n ps ≡ p ∷ drop (n + 1) ps) (sym same) is in
    let later = drop (mid.plan + 1) ps in
    alike (stays ps old mid p (drop (old.plan + 1) ps) is same rows (on (drop (old.plan + 1) ps) rows))
    (leaves ps mid p here new at rows
    (subst (λ ss. AreAwaited (p ∷ later) ss mid.shown mid.place rows ↔ AreAwaited later [] mid.shown 0 rows)
    (sym spent) (passed p later mid.shown mid.place done rows)))

some_after : {A : Type 0} (xs : List A) (i : ℕ) → i < length xs
    → (x : A) × (ys : List A) × (drop i xs ≡ x ∷ ys)
some_after [] i w = absurd (omega (arith, w))
some_after (x ∷ xs) zero w = (x, xs, refl)
some_after (x ∷ xs) (suc i) w = some_after xs i (omega (arith, w))

pub has_slab : (ps : List Filed) (old new : Place) (p : Filed)
    → drop old.plan ps ≡ p ∷ drop (old.plan + 1) ps → IsEntered p old new true → HasSlab ps new
has_slab ps old new p is (same, live, more) =
    let (s, slabs, first) = some_after new.slabs new.next more in record {
      plan = p;
      plans = drop (old.plan + 1) ps;
      slab = s;
      slabs = slabs;
      under_way = ap (λ n. drop n ps) same ∙ is;
      live = live;
      first = first;
    }

-- the plan at a cursor's index
pub under_way : (ps : List Filed) (i : ℕ) (at : Place) (p : Filed) → i ≡ at.plan → i < length ps
    → p ≡ get_or ps i p → drop at.plan ps ≡ p ∷ drop (at.plan + 1) ps
under_way ps i at p same within is =
    subst (λ n. drop n ps ≡ p ∷ drop (n + 1) ps) same (cut_at ps i p p within is)

head_is : {A : Type 0} {x y : A} {xs ys : List A} → x ∷ xs ≡ y ∷ ys → x ≡ y
head_is h = cc

module _ (ps : List Filed) (old mid at : Place) (p : Filed) (s : Slab) (row : Row) (view : at ≡ mid)
    (same : AwaitsAlike ps old mid) (has : HasSlab ps mid) (within : at.plan < length ps)
    (is : p ≡ get_or ps at.plan p) (slabs : List Slab) (are : slabs ≡ at.slabs)
    (inside : at.next < length slabs) (next : s ≡ get_or slabs at.next s) where
  plans_are : drop at.plan ps ≡ p ∷ drop (at.plan + 1) ps
  plans_are = cut_at ps at.plan p p within is

  slabs_are : drop at.next at.slabs ≡ s ∷ drop (at.next + 1) at.slabs
  slabs_are = subst (λ ss. drop at.next ss ≡ s ∷ drop (at.next + 1) ss) are
      (cut_at slabs at.next s s inside next)

  lives : is_live p.row.usage ≡ true
  lives = ap (λ q. is_live q.row.usage)
      (head_is (sym plans_are ∙ ap (λ (x : Place). drop x.plan ps) view ∙ has.under_way)) ∙ has.live

  alike_here : (rows : List Row) → Awaits ps old rows
      ↔ AreAwaited (p ∷ drop (at.plan + 1) ps) (s ∷ drop (at.next + 1) at.slabs) at.shown at.place rows
  alike_here rows = alike (same rows) (
    λ h. subst (λ xs. AreAwaited xs (s ∷ drop (at.next + 1) at.slabs) at.shown at.place rows) plans_are
        (subst (λ ss. AreAwaited (drop at.plan ps) ss at.shown at.place rows) slabs_are
        (subst (λ x. Awaits ps x rows) (sym view) h)),
    λ h. subst (λ x. Awaits ps x rows) view
        (subst (λ ss. AreAwaited (drop at.plan ps) ss at.shown at.place rows) (sym slabs_are)
        (subst (λ xs. AreAwaited xs (s ∷ drop (at.next + 1) at.slabs) at.shown at.place rows) (sym plans_are)
        h)),
  )

  pub takes : row ≡ slab_row p at.shown s → (rest : List Row) → Awaits ps old (row ∷ rest)
      ↔ Awaits ps (record at { next = at.next + 1 }) rest
  takes equal rest =
      alike (alike_here (row ∷ rest))
      (alike (goes_on p (drop (at.plan + 1) ps) s (drop (at.next + 1) at.slabs) at.shown at.place lives row
      rest equal) (
        subst (λ xs. AreAwaited xs (drop (at.next + 1) at.slabs) at.shown at.place rest) (sym plans_are),
        subst (λ xs. AreAwaited xs (drop (at.next + 1) at.slabs) at.shown at.place rest) plans_are,
      ))

  pub refuses : (row ≡ slab_row p at.shown s → ⊥) → (rest : List Row) → Awaits ps old (row ∷ rest) → ⊥
  refuses off rest h =
      is_other p (drop (at.plan + 1) ps) s (drop (at.next + 1) at.slabs) at.shown at.place lives row rest off
      ((alike_here (row ∷ rest)).0 h)

-- a slab that is left has a row that is to come
pub none_left : (ps : List Filed) (at : Place) → HasSlab ps at → Awaits ps at [] → ⊥
none_left ps at has h =
    some_left has.plan has.plans has.slab has.slabs at.shown at.place has.live
    (subst (λ xs. AreAwaited xs (has.slab ∷ has.slabs) at.shown at.place []) has.under_way
    (subst (λ ss. AreAwaited (drop at.plan ps) ss at.shown at.place []) has.first h))

-- ---- rows that were held against plans

all_and_one : (P : Row → Type 0) (rows : List Row) (row : Row) → AllByRecursion P rows → P row
    → AllByRecursion P (rows ++ row ∷ [])
all_and_one P [] row h one = (one, tt)
all_and_one P (r ∷ rows) row h one = (h.0, all_and_one P rows row h.1 one)

all_kept : (a b : SpanBounds) → Keeps a b → (rows : List Row) → AllByRecursion (IsKnownRow a) rows
    → AllByRecursion (IsKnownRow b) rows
all_kept a b keeps [] h = tt
all_kept a b keeps (r ∷ rows) h = ((λ x y one two. keeps _ (h.0 x y one two)), all_kept a b keeps rows h.1)

module _ (ps : List Filed) (old : Place) (count : ℕ) (bounds after : SpanBounds) (rows : List Row)
    (row : Row) (below : count + 1 < 2 ^ 63) (keeps : Keeps bounds after) (known : IsKnownRow after row) where
  pub checked_on : (new : Place) (is : Bool) → HasChecked ps old true count bounds rows
      → IsNextRow ps old new row is → HasChecked ps new is (count + 1) after (rows ++ row ∷ [])
  checked_on new is h next = record {
    same = λ rest. subst (λ xs. AreSpanRows ps xs ↔ (IsTrue is × Awaits ps new rest))
        (sym (append_assoc rows (row ∷ []) rest)) (by_next is next rest);
    counted = omega (arith, h.counted, length-append rows (row ∷ []));
    few = below;
    known = all_and_one (IsKnownRow after) rows row (all_kept bounds after keeps rows h.known) known;
  } where
    by_next : (is : Bool) → IsNextRow ps old new row is → (rest : List Row)
        → AreSpanRows ps (rows ++ row ∷ rest) ↔ (IsTrue is × Awaits ps new rest)
    by_next true next rest = (
      λ are. (refl, (next rest).0 ((h.same (row ∷ rest)).0 are).1),
      λ k. (h.same (row ∷ rest)).1 (refl, (next rest).1 k.1),
    )
    by_next false next rest = (
      λ are. absurd (next rest ((h.same (row ∷ rest)).0 are).1),
      λ k. absurd (true≢false (sym k.0)),
    )

  pub checked_off : HasChecked ps old false count bounds rows
      → HasChecked ps old false (count + 1) after (rows ++ row ∷ [])
  checked_off h = record {
    same = λ rest. subst (λ xs. AreSpanRows ps xs ↔ (IsTrue false × Awaits ps old rest))
        (sym (append_assoc rows (row ∷ []) rest)) (
          λ are. absurd (true≢false (sym ((h.same (row ∷ rest)).0 are).0)),
          λ k. absurd (true≢false (sym k.0)),
        );
    counted = omega (arith, h.counted, length-append rows (row ∷ []));
    few = below;
    known = all_and_one (IsKnownRow after) rows row (all_kept bounds after keeps rows h.known) known;
  }

module _ (ps : List Filed) (at : Place) (count : ℕ) (bounds : SpanBounds) (rows : List Row) where
  pub agrees_not : HasChecked ps at false count bounds rows → IsTrue false ↔ AreSpanRows ps rows
  agrees_not h = (
    λ t. absurd (true≢false (sym t)),
    λ are. absurd (true≢false (sym ((h.same []).0 (subst (AreSpanRows ps) (sym (append-nil rows)) are)).0)),
  )

  pub agrees_if : (new : Place) (found : Bool) → AwaitsAlike ps at new → IsFound ps new found
      → HasChecked ps at true count bounds rows → IsTrue (not found) ↔ AreSpanRows ps rows
  agrees_if new true same has h = (
    λ t. absurd (true≢false (sym t)),
    λ are. absurd (none_left ps new has ((same []).0 ((h.same []).0
        (subst (AreSpanRows ps) (sym (append-nil rows)) are)).1)),
  )
  agrees_if new false same done h = (
    λ t. subst (AreSpanRows ps) (append-nil rows) ((h.same []).1 (
      refl,
      (same []).1
          (subst (λ xs. AreAwaited xs (drop new.next new.slabs) new.shown new.place []) (sym done) refl),
    )),
    λ are. refl,
  )
