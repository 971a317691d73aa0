-- What a put adds fits, each in its turn: what there was of the plan is gone.
use Rattle.std.proofs.Common.{◌≡◌, ◌+◌, inl, inr, ℕ, Bool, true, false, not, ◌&&◌, ◌||◌, List, [], ◌∷◌, length, filter, refl, sym, ap, subst, ◌∙◌, arith, IsPermutation}
use Rattle.std.specs.Ordering.{is_eq}
use Rattle.std.specs.List.{list_any}
use Rattle.std.proofs.lemmas.Bool.{and_from, and_parts, both_ways, cases_Bool, false_from_ne_true, or_cases, or_parts, or_from}
use Rattle.std.proofs.lemmas.Cmp.{tied_itself}
use Rattle.std.proofs.lemmas.List.Sorted.{list_any-IsPermutation}
use Rattle.sqlite_value.proofs.OrderLemmas.{value_cmp_total}
use Rattle.sqlite_value.specs.Keys.{plain}
use Rattle.sqlite_trees.proofs.ListLemmas.{all_weaker}
use Rattle.sqlite.specs.Order.{Row, column}
use Rattle.sqlite.specs.declared.types.Value.TheVariants.{Text}
use Rattle.sqlite.specs.Tree.{Trees}
use Rattle.sqlite.specs.Table.{Table}
use Rattle.sqlite.specs.Effect.{Database, IsDatabase}
use Rattle.sqlite_rules.specs.Lists.{Has}
use Rattle.sqlite_rules.proofs.ListLemmas.{some_has}
use Rattle.sqlite_rules.proofs.RuleLemmas.{refers_at}
use Rattle.sqlite_schema.specs.Rules.{agree, has_null, has_parent, is_held, Obeys, Refers}
use Rattle.sqlite_schema.specs.declared.schema.Among.TheVariants.{All}
use Rattle.desk_sql.specs.Schema.{span_made, volume_made, to_plan, Beside, StandsApart, desk_in, desk_with}
use Rattle.desk_sql.specs.Rows.{IsDesk, Tables, columns, is_of, is_same, plan_row, tables_of, AddsPlan, RemovesPlan}
use Rattle.desk_changes.specs.RowChanges.{AddsVolumes, PlanPut, AreNewRows, AreNewSpans, AreNewVolumes, AreOfPlan, HasRoomFor, IsPuttable, TakesRoom}
use Rattle.desk_sql.specs.Changing.{FitsPlan, HasKey, LacksKey, has_same_key}
use Rattle.desk_sql.proofs.lemmas.Number.{any_map, any_same}
use Rattle.desk_sql.proofs.lemmas.Cascade.{agrees, has_key, key_places, not_null, same_text, turned_eq}
use Rattle.desk_sql.proofs.lemmas.Key.{obeyed_refers, plan_key}
use Rattle.desk_changes.proofs.RoomLemmas.{fewer}

-- ---- some rows pass a test, and none

none_left : (p : Row → Bool) (rows : List Row) → list_any p (filter (λ r. not (p r)) rows) ≡ false
none_left p [] = refl
none_left p (r ∷ rows) = elim (cases_Bool (p r)) [
  | inl e ↦ rw e (none_left p rows)
  | inr e ↦ rw (e, e) (none_left p rows)
]

narrower : (p q : Row → Bool) → ((r : Row) → q r ≡ true → p r ≡ true) → (rows : List Row)
    → list_any p rows ≡ false → list_any q rows ≡ false
narrower p q wider [] none = refl
narrower p q wider (r ∷ rows) none =
    let parts = or_parts _ _ none in
    or_from _ _ (false_from_ne_true _ (λ is. both_ways _ parts.0 (wider r is)))
    (narrower p q wider rows parts.1)

module _ (operator id : List ℕ) where
  -- ---- rows of one plan share the first two columns of their keys

  key_is : (x r : Row) (rest : Bool) → is_of operator id r ≡ true
      → (is_same (column x 0) (column r 0) && (is_same (column x 1) (column r 1) && rest)) ≡ true
      → is_of operator id x ≡ true
  key_is x r rest own h =
      let first = and_parts _ _ h in
      let second = and_parts _ _ first.1 in
      let mine = and_parts _ _ own in
      and_from _ _ (sym (same_text (column x 0) (column r 0) operator mine.0) ∙ first.0)
      (sym (same_text (column x 1) (column r 1) id mine.1) ∙ second.0)

  abbrev Begins : ℕ → Type 0
  Begins width = (x r : Row) → is_of operator id r ≡ true → has_same_key width x r ≡ true
      → is_of operator id x ≡ true

  begins_2 : Begins 2
  begins_2 x r own h = key_is x r _ own h

  begins_3 : Begins 3
  begins_3 x r own h = key_is x r _ own h

  begins_4 : Begins 4
  begins_4 x r own h = key_is x r _ own h

  lacks : (width : ℕ) → Begins width → (r : Row) (shown : List Row) → is_of operator id r ≡ true
      → list_any (is_of operator id) shown ≡ false → LacksKey width r shown
  lacks width begins r shown own none =
      narrower (is_of operator id) (λ x. has_same_key width x r) (λ x. begins x r own) shown none

  module _ (priority usage aircraft : ℕ) where
    abbrev plan : Row
    plan = plan_row operator id priority usage aircraft

    plan_own : is_of operator id plan ≡ true
    plan_own = and_from _ _ (ap is_eq (tied_itself value_cmp_total (Text operator)))
        (ap is_eq (tied_itself value_cmp_total (Text id)))

    plan_has : (r : Row) → is_of operator id r ≡ true → has_same_key 2 plan r ≡ true
    plan_has r own =
        let mine = and_parts _ _ own in
        and_from _ _ (turned_eq (Text operator) (column r 0) ∙ mine.0)
        (and_from _ _ (turned_eq (Text id) (column r 1) ∙ mine.1) refl)

    -- the plan of its rows is among those with it
    has_plan : (plans now : List Row) → IsPermutation (plan ∷ plans) now → (r : Row)
        → is_of operator id r ≡ true
        → HasKey 2 r now
    has_plan plans now same r own =
        sym (list_any-IsPermutation (λ p. has_same_key 2 p r) (plan ∷ plans) now same)
        ∙ ap (λ b. b || list_any (λ p. has_same_key 2 p r) plans) (plan_has r own)

  rows_new : (width : ℕ) → Begins width → (rows stored shown plans : List Row)
      → AreOfPlan operator id width rows
      → HasRoomFor (length rows) stored → list_any (is_of operator id) shown ≡ false
      → ((r : Row) → is_of operator id r ≡ true → HasKey 2 r plans)
      → AreNewRows width rows stored shown plans
  rows_new width begins rows stored shown plans are room none has = record {
    short = are.short;
    room = room;
    apart = are.apart;
    free = all_weaker (λ r. is_of operator id r ≡ true) (λ r. LacksKey width r shown)
        (λ r own. lacks width begins r shown own none) rows are.own;
    planned = all_weaker (λ r. is_of operator id r ≡ true) (λ r. HasKey 2 r plans) has rows are.own;
  }

  -- ---- without its plan no row is there

  module _ {beside : Beside} (away : StandsApart beside) where
    module _ (db : Trees) (refers : Refers All (desk_with beside) db)
        (gone : list_any (has_key operator id) (db 2) ≡ false) where
      no_null : (r : Row) → has_key operator id r ≡ true → has_null key_places r ≡ false
      no_null r own =
          let mine = and_parts _ _ own in
          or_from _ _ (not_null (column r 1) operator mine.0)
          (or_from _ _ (not_null (column r 2) id mine.1) refl)

      orphan : (r : Row) → has_key operator id r ≡ true → ¬ (has_parent (desk_with beside).tables db r to_plan
          ≡ true)
      orphan r own h = elim (or_cases (has_null key_places r) _ h) [
        | inl null ↦ both_ways _ (no_null r own) null
        | inr held ↦ both_ways _
            (any_same (λ p. agree plain key_places p key_places r) (has_key operator id)
            (λ p. agrees operator id p r own)
            (db 2) ∙ gone)
            (subst (λ o. is_held db key_places r o ≡ true) (plan_key away) held)
      ]

      pub no_rows : (table : Table) → Has (desk_with beside).tables table → Has table.references to_plan
          → list_any (has_key operator id) (db table.tree) ≡ false
      no_rows table listed known = false_from_ne_true _ (λ some.
          let r = some_has (has_key operator id) (db table.tree) some in
          orphan r.0 r.2 (refers_at All (desk_with beside) db table r.0 to_plan refers listed r.1 known refl))

-- ---- a put, step by step

-- what is put, by what its rows are made of
abbrev pub put_of : (operator id : List ℕ) (priority usage aircraft : ℕ) (volumes covers spans : List Row)
    → PlanPut
put_of operator id priority usage aircraft volumes covers spans = record {
  operator = operator;
  id = id;
  plan = plan_row operator id priority usage aircraft;
  volumes = volumes;
  covers = covers;
  spans = spans;
}

module _ (operator id : List ℕ) (priority usage aircraft : ℕ) (volumes covers spans : List Row)
    (old : Database)
    (put : IsPuttable (put_of operator id priority usage aircraft volumes covers spans) old)
    (cut : Database) (removes : RemovesPlan operator id (tables_of old.trees) (tables_of cut.trees))
    (takes : TakesRoom 0 0 0 old.trees cut.trees) where
  cut_plans : list_any (is_of operator id) (tables_of cut.trees).plans ≡ false
  cut_plans = ap (λ (t : Tables). list_any (is_of operator id) t.plans) removes
      ∙ none_left (is_of operator id) (tables_of old.trees).plans

  pub plan_fits : FitsPlan operator id (plan_row operator id priority usage aircraft) cut
  plan_fits = (
    put.operator_short,
    put.id_short,
    (
      (takes.of_plans 1 (fewer (0 + 1) 1 (old.trees 2) (omega arith) put.plan_room)).1,
      lacks operator id 2 (begins_2 operator id) (plan_row operator id priority usage aircraft)
          (tables_of cut.trees).plans (plan_own operator id priority usage aircraft) cut_plans,
    ),
    subst (HasKey 1 (plan_row operator id priority usage aircraft))
        (sym (ap (λ (t : Tables). t.operators) removes)) put.listed,
  )

  module _ (desk : IsDesk cut) (sound : IsDatabase cut) (planned : Database)
      (adds : AddsPlan (plan_row operator id priority usage aircraft) (tables_of cut.trees)
      (tables_of planned.trees))
      (taking : TakesRoom 1 0 0 cut.trees planned.trees) where
    refers : Refers All (desk_in cut.schema) cut.trees
    refers = obeyed_refers (desk_in cut.schema) cut.trees
        (subst (λ s. Obeys s cut.trees) desk.schema.is sound.obeys)

    gone : list_any (has_key operator id) (cut.trees 2) ≡ false
    gone = sym (any_map (is_of operator id) (columns 5) (cut.trees 2)) ∙ cut_plans

    no_volumes : list_any (is_of operator id) (tables_of planned.trees).volumes ≡ false
    no_volumes = ap (λ (t : Tables). list_any (is_of operator id) t.volumes) adds.1
        ∙ any_map (is_of operator id) (columns 8) (cut.trees 9)
        ∙ no_rows operator id desk.schema.apart cut.trees refers gone volume_made
        (inr (inr (inr (inr (inl refl))))) (inl refl)

    no_spans : list_any (is_of operator id) (tables_of planned.trees).spans ≡ false
    no_spans = ap (λ (t : Tables). list_any (is_of operator id) t.spans) adds.1
        ∙ any_map (is_of operator id) (columns 10) (cut.trees 11)
        ∙ no_rows operator id desk.schema.apart cut.trees refers gone span_made
        (inr (inr (inr (inr (inr (inl refl)))))) (inl refl)

    -- room that the two changes leave
    stays : (count : ℕ) (a b c : List Row) → ((left : ℕ) → HasRoomFor (0 + left) a → HasRoomFor left b)
        → ((left : ℕ) → HasRoomFor (0 + left) b → HasRoomFor left c) → HasRoomFor count a → HasRoomFor count c
    stays count a b c first second room =
        second count (fewer (0 + count) count b (omega arith)
        (first count (fewer (0 + count) count a (omega arith) room)))

    pub volumes_new : AreNewVolumes volumes covers planned
    volumes_new = (
      rows_new operator id 3 (begins_3 operator id) volumes (planned.trees 9)
          (tables_of planned.trees).volumes (tables_of planned.trees).plans put.volumes_of
          (stays (length volumes) (old.trees 9) (cut.trees 9) (planned.trees 9) takes.of_volumes
          taking.of_volumes put.volume_room) no_volumes
          (has_plan operator id priority usage aircraft (tables_of cut.trees).plans
          (tables_of planned.trees).plans adds.0),
      put.short_covers,
    )

    module _ (count : ℕ) (filled : Database)
        (added : AddsVolumes volumes covers (tables_of planned.trees) (tables_of filled.trees))
        (takes_volumes : TakesRoom 0 count 0 planned.trees filled.trees) where
      pub spans_new : AreNewSpans spans filled
      spans_new = rows_new operator id 4 (begins_4 operator id) spans (filled.trees 11)
          (tables_of filled.trees).spans (tables_of filled.trees).plans put.spans_of
          (takes_volumes.of_spans (length spans) (fewer (0 + length spans) (length spans) (planned.trees 11)
          (omega arith) (stays (length spans) (old.trees 11) (cut.trees 11) (planned.trees 11) takes.of_spans
          taking.of_spans put.span_room)))
          (ap (λ (t : Tables). list_any (is_of operator id) t.spans) added.2 ∙ no_spans)
          (λ r own. subst (HasKey 2 r) (sym (ap (λ (t : Tables). t.plans) added.2))
          (has_plan operator id priority usage aircraft (tables_of cut.trees).plans
          (tables_of planned.trees).plans adds.0 r own))
