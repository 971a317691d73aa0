-- From the rows of `span` to how long the spans of plans are, and back.
use Rattle.std.proofs.Common.{◌≡◌, ℕ, pos, ◌+◌, ◌≤◌, Bool, true, false, MatchBool, ◌&&◌, not, cond, List, [], ◌∷◌, ◌++◌, map, refl, sym, ap, subst, ◌∙◌, arith, Less, Equal, Greater}
use Rattle.std.specs.Prelude.{⊤, nat_le, ◌||◌}
use Rattle.std.specs.List.{filter, AllByRecursion, list_any}
use Rattle.std.specs.Ordering.{is_ge, is_le, match_ordering}
use Rattle.std.specs.declared.cmp.Ordering.{Ordering}
use Rattle.std.proofs.lemmas.Int.{ints}
use Rattle.std.proofs.Math.Bool.{and-false}
use Rattle.std.proofs.lemmas.Bool.{and_parts, true≢false}
use Rattle.std.proofs.lemmas.Bool.Decides.{nat_tests}
use Rattle.sqlite_value.specs.declared.value.Value.TheVariants.{Int}
use Rattle.sqlite_value.specs.Order.{Row, column}
use Rattle.sqlite_value.proofs.OrderLemmas.{value_cmp-Int}
use Rattle.sqlite_trees.proofs.ListLemmas.{all-permutation}
use Rattle.s2_cover.specs.declared.spans.Span.{Span}
use Rattle.s2_cover.specs.Covers.{IsRanges}
use Rattle.volume4d.specs.declared.slab.Slab.{Slab}
use Rattle.volume4d.specs.Volume.{Block}
use Rattle.desk_rules.specs.declared.plan.PlanRow.{PlanRow}
use Rattle.desk_rules.specs.Outcome.{is_live}
use Rattle.desk_sql.specs.Rows as sql
use Rattle.desk_sql.specs.Rows.{Tables, is_above, is_at_least, is_at_most, is_below}
use Rattle.desk_store.specs.World.{Filed, World, text_cmp, rows_by, is_by, has_id}
use Rattle.desk_store.specs.Changes.{put_row, closed, close_row, is_named, clear_rows, filed_by, is_before, is_after, replaced, with_plans, with_operator, changed_by}
use Rattle.desk_store.specs.declared.change.Change.{Change}
use Rattle.desk_store.specs.declared.change.Change.TheVariants.{Enrol, Put, Close, Clear}
use Rattle.row_codec.specs.Tables.{row_of_span, AreSpanRowsFrom, ArePlanSpanRows, AreSpanRows, AreTables}
use Rattle.row_codec.specs.declared.span_bounds.SpanBounds.{SpanBounds}
use Rattle.row_codec.specs.RowsRead.{span_filter_of}
use Rattle.row_codec.specs.SpanBounds.{FindAll, IsKnown, IsWithinExtent, Keeps, begins_in, IsKnownBlock, IsKnownPlan, AreKnownPlans, Bounds, BringsKnown, IsKnownRow}
use Rattle.desk_sql.specs.Rows.{passes_filter}
use Rattle.row_codec.specs.RowsRead.{span_filter_from}

-- these columns are leaf positions, and the bounds hold for the span between them
pub record HasKnownSpan (span_bounds : SpanBounds) (row : Row) : Type 0 where
  pub span : Span
  pub begins : column row 3 ≡ Int (pos span.first)
  pub ends : column row 4 ≡ Int (pos span.last)
  pub known : IsKnown span_bounds span

-- a query for the spans that pass a test finds this row of `span2`
abbrev pub is_asked_if : (Row → Bool) → ℕ → Slab → Span → Row → Bool
is_asked_if passes least extent query row =
    is_at_least (column row 3) (pos query.first)
    && (passes_filter (span_filter_from query extent least) row && passes row)

-- ---- all of some elements

module _ {A : Type 0} (P : A → Type 0) where
  all_parts : (xs ys : List A) → AllByRecursion P (xs ++ ys) → AllByRecursion P xs × AllByRecursion P ys
  all_parts [] ys h = (tt, h)
  all_parts (x ∷ xs) ys h = let more = all_parts xs ys h.1 in ((h.0, more.0), more.1)

  all_both : (xs ys : List A) → AllByRecursion P xs → AllByRecursion P ys → AllByRecursion P (xs ++ ys)
  all_both [] ys h k = k
  all_both (x ∷ xs) ys h k = (h.0, all_both xs ys h.1 k)

  all_kept : (keep : A → Bool) (xs : List A) → AllByRecursion P xs → AllByRecursion P (filter keep xs)
  all_kept keep [] h = tt
  all_kept keep (x ∷ xs) h = go (keep x) (all_kept keep xs h.1) where
    go : (b : Bool) → AllByRecursion P (filter keep xs)
        → AllByRecursion P (cond b (x ∷ filter keep xs) (filter keep xs))
    go true more = (h.0, more)
    go false more = more

  all_weaker : (Q : A → Type 0) → ((x : A) → P x → Q x) → (xs : List A) → AllByRecursion P xs
      → AllByRecursion Q xs
  all_weaker Q weaker [] h = tt
  all_weaker Q weaker (x ∷ xs) h = (weaker x h.0, all_weaker Q weaker xs h.1)

-- ---- from rows to plans

module _ (one_list : (set : ℕ → Bool) (one other : List Span) → IsRanges set one → IsRanges set other
    → one ≡ other) (span_bounds : SpanBounds) where
  spans_near : (p : Filed) (place : ℕ) (v : Block) (spans : List Span)
      → AllByRecursion (IsKnownRow span_bounds) (map (row_of_span p place v) spans)
      → AllByRecursion (IsKnown span_bounds) spans
  spans_near p place v [] h = tt
  spans_near p place v (s ∷ spans) h = (h.0 s.first s.last refl refl, spans_near p place v spans h.1)

  blocks_near : (p : Filed) (place : ℕ) (vs : List Block) (rows : List Row)
      → AreSpanRowsFrom p place vs rows → AllByRecursion (IsKnownRow span_bounds) rows
      → AllByRecursion (IsKnownBlock span_bounds) vs
  blocks_near p place [] rows are near = tt
  blocks_near p place (v ∷ vs) rows (spans, rest, ranges, are, more) near =
      let parts = all_parts (IsKnownRow span_bounds) (map (row_of_span p place v) spans) rest
      (subst (AllByRecursion (IsKnownRow span_bounds)) are near) in
      let mine = spans_near p place v spans parts.0 in (
        λ others other. subst (AllByRecursion (IsKnown span_bounds))
            (one_list _ spans others ranges other) mine,
        blocks_near p (place + 1) vs rest more parts.1,
      )

  pub plan_near : (p : Filed) (rows : List Row) → ArePlanSpanRows p rows
      → AllByRecursion (IsKnownRow span_bounds) rows → IsKnownPlan span_bounds p.row
  plan_near p rows are near = go (is_live p.row.usage) are where
    go : (b : Bool) → MatchBool b (AreSpanRowsFrom p 0 p.row.area rows) (rows ≡ [])
        → MatchBool b (AllByRecursion (IsKnownBlock span_bounds) p.row.area) ⊤
    go true h = blocks_near p 0 p.row.area rows h near
    go false h = tt

  pub plans_near : (ps : List Filed) (rows : List Row) → AreSpanRows ps rows
      → AllByRecursion (IsKnownRow span_bounds) rows → AreKnownPlans span_bounds ps
  plans_near [] rows are near = tt
  plans_near (p ∷ ps) rows (front, rest, are, mine, more) near =
      let parts = all_parts (IsKnownRow span_bounds) front rest
      (subst (AllByRecursion (IsKnownRow span_bounds)) are near) in
      (plan_near p front mine parts.0, plans_near ps rest more parts.1)

-- ---- and back

module _ (span_bounds : SpanBounds) where
  spans_known : (p : Filed) (place : ℕ) (v : Block) (spans : List Span)
      → AllByRecursion (IsKnown span_bounds) spans
      → AllByRecursion (HasKnownSpan span_bounds) (map (row_of_span p place v) spans)
  spans_known p place v [] h = tt
  spans_known p place v (s ∷ spans) h =
      (record { span = s; begins = refl; ends = refl; known = h.0 }, spans_known p place v spans h.1)

  blocks_known : (p : Filed) (place : ℕ) (vs : List Block) (rows : List Row)
      → AllByRecursion (IsKnownBlock span_bounds) vs → AreSpanRowsFrom p place vs rows
      → AllByRecursion (HasKnownSpan span_bounds) rows
  blocks_known p place [] rows h are = subst (AllByRecursion (HasKnownSpan span_bounds)) (sym are) tt
  blocks_known p place (v ∷ vs) rows h (spans, rest, ranges, are, more) =
      subst (AllByRecursion (HasKnownSpan span_bounds)) (sym are)
      (all_both (HasKnownSpan span_bounds) (map (row_of_span p place v) spans) rest
      (spans_known p place v spans (h.0 spans ranges)) (blocks_known p (place + 1) vs rest h.1 more))

  plan_known : (p : Filed) (rows : List Row) → IsKnownPlan span_bounds p.row → ArePlanSpanRows p rows
      → AllByRecursion (HasKnownSpan span_bounds) rows
  plan_known p rows h are = go (is_live p.row.usage) h are where
    go : (b : Bool) → MatchBool b (AllByRecursion (IsKnownBlock span_bounds) p.row.area) ⊤
        → MatchBool b (AreSpanRowsFrom p 0 p.row.area rows) (rows ≡ [])
        → AllByRecursion (HasKnownSpan span_bounds) rows
    go true short mine = blocks_known p 0 p.row.area rows short mine
    go false short none = subst (AllByRecursion (HasKnownSpan span_bounds)) (sym none) tt

  plans_known : (ps : List Filed) (rows : List Row) → AreKnownPlans span_bounds ps → AreSpanRows ps rows
      → AllByRecursion (HasKnownSpan span_bounds) rows
  plans_known [] rows h are = subst (AllByRecursion (HasKnownSpan span_bounds)) (sym are) tt
  plans_known (p ∷ ps) rows h (front, rest, are, mine, more) =
      subst (AllByRecursion (HasKnownSpan span_bounds)) (sym are)
      (all_both (HasKnownSpan span_bounds) front rest (plan_known p front h.0 mine)
      (plans_known ps rest h.1 more))

  pub tables_known : (t : Tables) (w : World) → AreTables t w → AreKnownPlans span_bounds w.plans
      → AllByRecursion (HasKnownSpan span_bounds) t.spans
  tables_known t w are h =
      let (rows, mine, same) = are.spans in
      all-permutation (HasKnownSpan span_bounds) rows t.spans same (plans_known w.plans rows h mine)

-- ---- the queries leave out no rival, and find no others

at_least_is : (a b : Bool) → is_ge (cond a Less (cond b Greater Equal)) ≡ not a
at_least_is true b = refl
at_least_is false true = refl
at_least_is false false = refl

at_most_is : (a b : Bool) → (a && b) ≡ false → is_le (cond a Less (cond b Greater Equal)) ≡ not b
at_most_is true true h = absurd (true≢false h)
at_most_is true false h = refl
at_most_is false true h = refl
at_most_is false false h = refl

at_least_nat : (a b : ℕ) → is_at_least (Int (pos a)) (pos b) ≡ nat_le b a
at_least_nat a b = ap is_ge (value_cmp-Int (pos a) (pos b)) ∙ at_least_is _ _ ∙ grind (arith, nat_tests, ints)

at_most_nat : (a b : ℕ) → is_at_most (Int (pos a)) (pos b) ≡ nat_le a b
at_most_nat a b = ap is_le (value_cmp-Int (pos a) (pos b)) ∙ at_most_is _ _ (grind (arith, nat_tests, ints))
    ∙ grind (arith, nat_tests, ints)

-- a bound on a first leaf that another follows from
regrouped : (a b c r d : Bool) → (b ≡ true → c ≡ true)
    → (a && ((b && r) && d)) ≡ ((a && b) && ((c && r) && d))
regrouped false b c r d h = refl
regrouped true false c r d h = refl
regrouped true true c r d h = ap (λ t. (t && r) && d) (sym (h refl))

no_later : (a b c : ℕ) → b ≤ c → nat_le a b ≡ true → nat_le a c ≡ true
no_later a b c more h = grind (arith, nat_tests)

either_and : (a b d : Bool) → ((a && d) || (b && d)) ≡ ((a || b) && d)
either_and true b true = refl
either_and true true false = refl
either_and true false false = refl
either_and false b d = refl

module _ (another : Row → Bool) (least : ℕ) (extent : Slab) where
  abbrev rival : Row → Bool
  rival r = sql.passes_filter (span_filter_of extent least) r && another r

  abbrev asked : Span → Row → Bool
  asked query r = is_asked_if another least extent query r

  module _ (r : Row) (span : Span) (begins : column r 3 ≡ Int (pos span.first)) where
    -- the tests of a row, but for those of its first leaf
    abbrev others : Bool
    others = is_at_least (column r 4) (pos extent.first) && (is_below (column r 5) extent.upper
        && (is_above (column r 6) extent.lower && (is_below (column r 7) extent.end
        && (is_above (column r 8) extent.start && is_at_least (column r 9) (pos least)))))

    asked_is : (query : Span) → IsWithinExtent extent query
        → asked query r ≡ (begins_in span query && rival r)
    asked_is query within =
        (λ i. is_at_least (begins i) (pos query.first)
        && ((is_at_most (begins i) (pos query.last) && others) && another r))
        ∙ (λ i. at_least_nat span.first query.first i
        && ((at_most_nat span.first query.last i && others) && another r))
        ∙ regrouped (nat_le query.first span.first) (nat_le span.first query.last)
        (nat_le span.first extent.last) others (another r)
        (no_later span.first query.last extent.last within.1)
        ∙ (λ i. begins_in span query
        && ((sym (at_most_nat span.first extent.last) i && others) && another r))
        ∙ (λ i. begins_in span query
        && ((is_at_most (sym begins i) (pos extent.last) && others) && another r))

    asked_any : (queries : List Span) → AllByRecursion (IsWithinExtent extent) queries
        → list_any (λ query. asked query r) queries ≡ (list_any (begins_in span) queries && rival r)
    asked_any [] h = refl
    asked_any (q ∷ queries) h = (λ i. asked_is q h.0 i || asked_any queries h.1 i)
        ∙ either_and (begins_in span q) (list_any (begins_in span) queries) (rival r)

  rival_meets : (r : Row) (span : Span) → column r 3 ≡ Int (pos span.first) → column r 4 ≡ Int (pos span.last)
      → rival r ≡ true → (extent.first ≤ span.last) × (span.first ≤ extent.last)
  rival_meets r span begins ends h =
      let reached = and_parts (sql.passes_filter (span_filter_of extent least) r) _ h in
      let met = and_parts (is_at_most (column r 3) (pos extent.last)) _ reached.0 in
      let last = (and_parts (is_at_least (column r 4) (pos extent.first)) _ met.1).0 in
      let early : nat_le span.first extent.last ≡ true = sym (at_most_nat span.first extent.last)
      ∙ ap (λ v. is_at_most v (pos extent.last)) (sym begins) ∙ met.0 in
      let late : nat_le extent.first span.last ≡ true = sym (at_least_nat span.last extent.first)
      ∙ ap (λ v. is_at_least v (pos extent.first)) (sym ends) ∙ last in
      (grind (arith, nat_tests, late), grind (arith, nat_tests, early))

  module _ (span_bounds : SpanBounds) (queries : List Span) (whole : FindAll extent
      (IsKnown span_bounds) queries)
      (within : AllByRecursion (IsWithinExtent extent) queries) where
    pub asked_rival : (r : Row) → HasKnownSpan span_bounds r
        → list_any (λ query. asked query r) queries ≡ rival r
    asked_rival r has = asked_any r has.span has.begins queries within ∙ go (rival r) refl where
      go : (b : Bool) → rival r ≡ b → (list_any (begins_in has.span) queries && b) ≡ b
      go true h =
          let meets = rival_meets r has.span has.begins has.ends h in
          ap (λ c. c && true) (whole has.span has.known meets.0 meets.1)
      go false h = and-false (list_any (begins_in has.span) queries)

-- ---- changes

module _ (a b : SpanBounds) (more : Keeps a b) where
  kept_plan : (row : PlanRow) → IsKnownPlan a row → IsKnownPlan b row
  kept_plan row h = go (is_live row.usage) h where
    go : (live : Bool) → MatchBool live (AllByRecursion (IsKnownBlock a) row.area) ⊤
        → MatchBool live (AllByRecursion (IsKnownBlock b) row.area) ⊤
    go true known = all_weaker (IsKnownBlock a) (IsKnownBlock b)
        (λ v mine spans ranges. all_weaker (IsKnown a) (IsKnown b) more spans (mine spans ranges))
        row.area known
    go false known = tt

  kept_plans : (ps : List Filed) → AreKnownPlans a ps → AreKnownPlans b ps
  kept_plans = all_weaker (λ p. IsKnownPlan a p.row) (λ p. IsKnownPlan b p.row) (λ p. kept_plan p.row)

module _ (P : PlanRow → Type 0) (o : List ℕ) where
  all_filed : (rows : List PlanRow) → AllByRecursion P rows
      → AllByRecursion (λ p. P p.row) (map (filed_by o) rows)
  all_filed [] h = tt
  all_filed (r ∷ rows) h = (h.0, all_filed rows h.1)

  all_rows : (ps : List Filed) → AllByRecursion (λ p. P p.row) ps
      → AllByRecursion P (map (λ (p : Filed). p.row) ps)
  all_rows [] h = tt
  all_rows (p ∷ ps) h = (h.0, all_rows ps h.1)

  all_own : (ps : List Filed) → AllByRecursion (λ p. P p.row) ps → AllByRecursion P (rows_by o ps)
  all_own ps h = all_rows (filter (is_by o) ps) (all_kept (λ p. P p.row) (is_by o) ps h)

  all_replaced : (rows : List PlanRow) (ps : List Filed) → AllByRecursion P rows
      → AllByRecursion (λ p. P p.row) ps → AllByRecursion (λ p. P p.row) (replaced o rows ps)
  all_replaced rows ps mine h =
      all_both (λ p. P p.row) (filter (is_before o) ps) (map (filed_by o) rows ++ filter (is_after o) ps)
      (all_kept (λ p. P p.row) (is_before o) ps h)
      (all_both (λ p. P p.row) (map (filed_by o) rows) (filter (is_after o) ps) (all_filed rows mine)
      (all_kept (λ p. P p.row) (is_after o) ps h))

  all_put : (row : PlanRow) (rows : List PlanRow) → P row → AllByRecursion P rows
      → AllByRecursion P (put_row row rows)
  all_put row [] p h = (p, tt)
  all_put row (r ∷ rows) p h = go (text_cmp row.id r.id) (all_put row rows p h.1) where
    go : (n : Ordering) → AllByRecursion P (put_row row rows)
        → AllByRecursion P (match_ordering n (row ∷ r ∷ rows) (row ∷ rows) (r ∷ put_row row rows))
    go Less more = (p, h)
    go Equal more = (p, h.1)
    go Greater more = (h.0, more)

  all_closed : ((row : PlanRow) → P (closed row)) → (id : List ℕ) (rows : List PlanRow)
      → AllByRecursion P rows → AllByRecursion P (close_row id rows)
  all_closed shut id [] h = tt
  all_closed shut id (r ∷ rows) h = (go (has_id id r), all_closed shut id rows h.1) where
    go : (b : Bool) → P (cond b (closed r) r)
    go true = shut r
    go false = h.0

changed_known : (span_bounds : SpanBounds) (change : Change) (w : World) → BringsKnown span_bounds change
    → AreKnownPlans span_bounds w.plans → AreKnownPlans span_bounds (changed_by change w).plans
unfolding BringsKnown changed_by with_plans with_operator
changed_known span_bounds (Enrol operator ceiling) w brings h = h
changed_known span_bounds (Put operator row) w brings h =
    all_replaced (IsKnownPlan span_bounds) operator (put_row row (rows_by operator w.plans)) w.plans
    (all_put (IsKnownPlan span_bounds) operator row (rows_by operator w.plans) brings
    (all_own (IsKnownPlan span_bounds) operator w.plans h)) h
changed_known span_bounds (Close operator id) w brings h =
    all_replaced (IsKnownPlan span_bounds) operator (close_row id (rows_by operator w.plans)) w.plans
    (all_closed (IsKnownPlan span_bounds) operator (λ row. tt) id (rows_by operator w.plans)
    (all_own (IsKnownPlan span_bounds) operator w.plans h)) h
changed_known span_bounds (Clear operator ids) w brings h =
    all_replaced (IsKnownPlan span_bounds) operator (clear_rows ids.items (rows_by operator w.plans)) w.plans
    (all_kept (IsKnownPlan span_bounds) (λ r. not (is_named ids.items r)) (rows_by operator w.plans)
    (all_own (IsKnownPlan span_bounds) operator w.plans h)) h

-- what was known before a change and what it brings
pub bounds_after : (old next : SpanBounds) (change : Change) (w : World) → Bounds old w → Keeps old next
    → BringsKnown next change → Bounds next (changed_by change w)
bounds_after old next change w was more brings =
    record { known = changed_known next change w brings (kept_plans old next more w.plans was.known) }

pub bounds_of : ((set : ℕ → Bool) (one other : List Span) → IsRanges set one → IsRanges set other
    → one ≡ other) → (span_bounds : SpanBounds) (w : World) (rows : List Row) → AreSpanRows w.plans rows
    → AllByRecursion (IsKnownRow span_bounds) rows → Bounds span_bounds w
bounds_of one_list span_bounds w rows are known =
    record { known = plans_near one_list span_bounds w.plans rows are known }

-- ---- the walk along rows

-- what is known of those that are left is known of all
abbrev pub AreLeft : {A : Type 0} → (SpanBounds → A → Type 0) → List A → List A → SpanBounds → Type 0
AreLeft MemoryIndex all left span_bounds =
    (n : SpanBounds) → Keeps span_bounds n → AllByRecursion (MemoryIndex n) left → AllByRecursion (MemoryIndex n) all

module _ {A : Type 0} (MemoryIndex : SpanBounds → A → Type 0)
    (more : (a b : SpanBounds) → Keeps a b → (x : A) → MemoryIndex a x → MemoryIndex b x)
    (all left : List A) (span_bounds : SpanBounds) (before : AreLeft MemoryIndex all left span_bounds) where
  walk_on : (x : A) (later : List A) → left ≡ x ∷ later → (next : SpanBounds) → Keeps span_bounds next
      → MemoryIndex next x → AreLeft MemoryIndex all later next
  walk_on x later is next kept known = λ n above h.
      before n (λ span was. above span (kept span was)) (subst (AllByRecursion (MemoryIndex n)) (sym is)
      (more next n above x known, h))

  walk_ends : left ≡ [] → AllByRecursion (MemoryIndex span_bounds) all
  walk_ends is = before span_bounds (λ span was. was) (subst (AllByRecursion (MemoryIndex span_bounds)) (sym is) tt)

known_more : (a b : SpanBounds) → Keeps a b → (row : Row) → IsKnownRow a row → IsKnownRow b row
known_more a b more row h = λ first last begins ends. more _ (h first last begins ends)

module _ {A : Type 0} (row_of : A → Row) (all left : List A) (span_bounds : SpanBounds)
    (before : AreLeft (λ n x. IsKnownRow n (row_of x)) all left span_bounds) where
  pub records_on : (x : A) (later : List A) → left ≡ x ∷ later → (next : SpanBounds)
      → Keeps span_bounds next → IsKnownRow next (row_of x)
      → AreLeft (λ n y. IsKnownRow n (row_of y)) all later next
  records_on = walk_on (λ n x. IsKnownRow n (row_of x)) (λ a b up x. known_more a b up (row_of x)) all left
      span_bounds before

  pub records_end : left ≡ [] → AllByRecursion (IsKnownRow span_bounds) (map row_of all)
  records_end is = as_rows all (walk_ends (λ n x. IsKnownRow n (row_of x))
      (λ a b up x. known_more a b up (row_of x)) all left span_bounds before is) where
        as_rows : (xs : List A) → AllByRecursion (λ x. IsKnownRow span_bounds (row_of x)) xs
            → AllByRecursion (IsKnownRow span_bounds) (map row_of xs)
        as_rows [] h = tt
        as_rows (x ∷ xs) h = (h.0, as_rows xs h.1)
