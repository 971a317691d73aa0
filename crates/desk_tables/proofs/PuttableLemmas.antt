-- The rows of a plan of a content can be put, where there is room for them.
use Rattle.std.proofs.Common.{◌≡◌, ◌≤◌, ◌+◌, ℕ, Bool, true, false, ◌&&◌, ◌||◌, cond, List, [], ◌∷◌, drop, length, map, Some, refl, sym, ap, subst, ◌∙◌, arith, IsTrue}
use Rattle.std.specs.Prelude.{IsSome, is_some}
use Rattle.std.specs.List.{AllByRecursion, find, list_any}
use Rattle.std.specs.Ordering.{is_eq}
use Rattle.std.proofs.lemmas.Bool.{and_from}
use Rattle.std.proofs.lemmas.Cmp.{tied_itself}
use Rattle.std.proofs.lemmas.List.Sorted.{list_any-IsPermutation}
use Rattle.sqlite_value.specs.declared.value.Value.TheVariants.{Text}
use Rattle.sqlite_value.specs.Order.{Row}
use Rattle.sqlite_value.proofs.OrderLemmas.{value_cmp_total, value_cmp-Text}
use Rattle.sqlite.specs.Effect.{Database}
use Rattle.s2_cover.specs.Covers.{canonical_list}
use Rattle.volume4d.specs.Footprint.{HasValidParts}
use Rattle.volume4d.specs.VolumeLimits.{max_cover}
use Rattle.volume4d.specs.Volume.{Shape, is_footprint, shape_positions, Block}
use Rattle.desk_rules.specs.declared.plan.PlanRow.{PlanRow}
use Rattle.desk_rules.specs.Limits.{is_operator_name}
use Rattle.desk_sql.specs.Rows as sql
use Rattle.desk_sql.specs.Rows.{is_of, tables_of}
use Rattle.desk_sql.specs.Changing.{HasKey, IsShort, has_same_key}
use Rattle.desk_changes.specs.RowChanges.{AreOfPlan, AreShort, HasRoomFor, IsPuttable}
use Rattle.desk_store.specs.Changes.{filed_by, IsFitting}
use Rattle.desk_store.specs.declared.change.Change.TheVariants.{Put}
use Rattle.desk_store.specs.World.{Filed, Listed, World, ceiling_of, text_cmp, IsPlan}
use Rattle.desk_store.proofs.lemmas.Order.{all_weaker}
use Rattle.row_codec.specs.Tables.{id_text, row_of_operator, area_rows, area_covers, volume_rows_from, ArePlanSpanRows, AreTables}
use Rattle.desk_tables.specs.Store.{HasRoomForPlan}
use Rattle.table_load.proofs.lemmas.NewRow.{name_short}
use Rattle.row_codec.proofs.lemmas.Order.{turned}
use Rattle.table_load.proofs.lemmas.KeyOrder.{area_up, plan_up}
use Rattle.row_codec.proofs.lemmas.Plan.{HasKey as BeginsAs, area_keyed}
use Rattle.row_codec.proofs.lemmas.Share.{has_name, if_listed}
use Rattle.table_load.proofs.lemmas.Span.{spans_keyed}
use Rattle.desk_tables.proofs.PutLemmas.{put_as}
use Rattle.table_load.proofs.lemmas.NewRow.{covers_short, spans_apart, spans_short, volumes_apart, volumes_short}

-- ---- keys

module _ (p : Filed) where
  own_rows : (rows : List Row) → AllByRecursion (BeginsAs p) rows
      → AllByRecursion (λ r. is_of p.operator (id_text p.row.id) r ≡ true) rows
  own_rows = all_weaker (BeginsAs p) (λ r. is_of p.operator (id_text p.row.id) r ≡ true) (λ r begins.
      subst (λ r. is_of p.operator (id_text p.row.id) r ≡ true) (sym begins.1)
      (and_from _ _ (ap is_eq (tied_itself value_cmp_total (Text p.operator)))
      (ap is_eq (tied_itself value_cmp_total (Text (id_text p.row.id))))))

-- ---- how many

volumes_count : (p : Filed) (n : ℕ) (vs : List Block) → length (volume_rows_from p n vs) ≡ length vs
volumes_count p n [] = refl
volumes_count p n (v ∷ vs) = let more = volumes_count p (n + 1) vs in omega (arith, more)

-- ---- the operator

both_hold : (a : Bool) → (a && true) ≡ a
both_hold true = refl
both_hold false = refl

same_name : (name : List ℕ) (rest : Row) (l : Listed)
    → has_same_key 1 (row_of_operator l) (Text name ∷ rest) ≡ is_eq (text_cmp name l.name)
same_name name rest l = both_hold _ ∙ ap is_eq (value_cmp-Text l.name name) ∙ turned l.name name

pub named_row : (name : List ℕ) (rest : Row) (ls : List Listed) → has_name name ls ≡ true
    → HasKey 1 (Text name ∷ rest) (map row_of_operator ls)
named_row name rest [] h = h
named_row name rest (l ∷ ls) h =
    by_test (is_eq (text_cmp name l.name)) (has_same_key 1 (row_of_operator l) (Text name ∷ rest))
    (same_name name rest l) h (named_row name rest ls) where
      by_test : (b c : Bool) → c ≡ b
          → is_some (cond b (Some l) (find (λ l. is_eq (text_cmp name l.name)) ls)) ≡ true
          → (has_name name ls ≡ true → HasKey 1 (Text name ∷ rest) (map row_of_operator ls))
          → (c || list_any (λ r. has_same_key 1 r (Text name ∷ rest)) (map row_of_operator ls)) ≡ true
      by_test true true e h later = refl
      by_test false false e h later = later h
      by_test true false e h later = cc
      by_test false true e h later = refl

listed_for : (operator : List ℕ) (row : PlanRow) (w : World) → IsFitting (Put operator row) w
    → IsSome (ceiling_of operator w)
unfolding IsFitting
listed_for operator row w fits = fits.2

-- ---- a put

pub puttable : ((shape : Shape) → IsTrue (is_footprint shape) → HasValidParts shape
    → length (canonical_list (shape_positions shape)) ≤ max_cover)
    → (operator : List ℕ) (row : PlanRow) (text : List ℕ) (volumes covers spans : List Row) (w : World)
    (db : Database) (priority usage aircraft : ℕ) → text ≡ id_text row.id
    → volumes ≡ area_rows (filed_by operator row) → covers ≡ area_covers (filed_by operator row)
    → ArePlanSpanRows (filed_by operator row) spans → IsPlan row
    → IsTrue (is_operator_name operator) → IsShort text → IsFitting (Put operator row) w
    → AreTables (tables_of db.trees) w → HasRoomForPlan (filed_by operator row) db
    → IsPuttable (put_as operator text priority usage aircraft volumes covers spans) db
puttable few operator row text volumes covers spans w db priority usage aircraft is are covers_are span_rows
    plan valid short fits
    tables room =
    let p = filed_by operator row in
    let name = name_short operator valid in
    let id_short : IsShort (id_text row.id) = subst IsShort is short in
    let plan_is : Row = sql.plan_row operator text priority usage aircraft in
    let same = list_any-IsPermutation (λ r. has_same_key 1 r plan_is) (map row_of_operator w.operators)
    (tables_of db.trees).operators tables.operators in
    let listed = if_listed w.operators w.plans p (listed_for operator row w fits) in
    record {
      operator_short = name;
      id_short = short;
      listed = sym same ∙ named_row operator (drop 1 plan_is) w.operators listed;
      volumes_of = subst (AreOfPlan operator text 3) (sym are)
          (subst (λ t. AreOfPlan operator t 3 (area_rows p)) (sym is) (record {
            short = volumes_short p name id_short 0 row.area plan.each;
            own = own_rows p (area_rows p) (area_keyed p 0 row.area);
            apart = volumes_apart (area_rows p) (area_up p 0 row.area plan);
          }));
      spans_of = subst (λ t. AreOfPlan operator t 4 spans) (sym is) (record {
        short = spans_short p name id_short spans span_rows;
        own = own_rows p spans (spans_keyed p spans span_rows);
        apart = spans_apart spans (plan_up p spans plan span_rows);
      });
      short_covers = subst AreShort (sym covers_are) (covers_short p name id_short few 0 row.area plan.each);
      plan_room = room.plan;
      volume_room = subst (λ rows. HasRoomFor (length rows) (db.trees 9)) (sym are)
          (subst (λ n. HasRoomFor n (db.trees 9)) (sym (volumes_count p 0 row.area)) room.volumes);
      span_room = room.spans spans span_rows;
    }
