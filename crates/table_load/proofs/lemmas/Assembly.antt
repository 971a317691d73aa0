-- A content from all that was read, and where there is none.
use Rattle.std.proofs.Common.{◌≡◌, ℕ, ◌≤◌, Bool, true, false, cond, Some, List, [], ◌∷◌, refl, sym, ap, subst, ◌∙◌, IsTrue, is_some}
use Rattle.std.specs.List.{AllByRecursion, find}
use Rattle.std.specs.List.Sorted.{IsStrictlySortedBy}
use Rattle.std.specs.Ordering.{is_eq}
use Rattle.std.proofs.lemmas.Map.Lookups.{exact_bytes}
use Rattle.volume4d.specs.Footprint.{footprint_bytes, HasValidParts}
use Rattle.volume4d.specs.Volume.{Shape}
use Rattle.desk_rules.specs.Limits.{max_priority, is_operator_name}
use Rattle.sqlite_value.specs.Order.{Row}
use Rattle.desk_sql.specs.Rows.{Tables}
use Rattle.desk_store.specs.World.{Filed, Listed, World, text_cmp, listed_cmp, filed_cmp, IsListed, IsPlan, IsContent}
use Rattle.desk_store.proofs.lemmas.Order.{is_equal, all_weaker}
use Rattle.row_codec.specs.Tables.{AreSpanRows, IsOperator, IsFiled, AreOperatorRows, ArePlanRows, HaveOperatorsAndRoom}
use Rattle.table_load.specs.Opening.{AreRows}
use Rattle.table_load.proofs.lemmas.Content.{one_operators, one_plans}
use Rattle.row_codec.proofs.lemmas.Plan.{plans_within}
use Rattle.row_codec.proofs.lemmas.Share.{has_name, if_listed}

-- operators by name, plans by operator and id, each operator's plans few, and these span rows are the plans'
pub record AreAgreed (ls : List Listed) (ps : List Filed) (rows : List Row) : Type 0 where
  pub names : IsStrictlySortedBy listed_cmp ls
  pub keys : IsStrictlySortedBy filed_cmp ps
  pub shared : HaveOperatorsAndRoom ls ps
  pub spans : AreSpanRows ps rows

abbrev pub world_of : List Listed → List Filed → World
world_of ls ps = record { operators = ls; plans = ps }

both : {X : Type 0} (P Q R : X → Type 0) → ((x : X) → P x → Q x → R x) → (xs : List X)
    → AllByRecursion P xs
    → AllByRecursion Q xs → AllByRecursion R xs
both P Q R f [] h k = tt
both P Q R f (x ∷ xs) h k = (f x h.0 k.0, both P Q R f xs h.1 k.1)

-- who is listed has an operator's name
named : (o : List ℕ) (ls : List Listed) → AllByRecursion (λ l. IsTrue (is_operator_name l.name)) ls
    → has_name o ls ≡ true → IsTrue (is_operator_name o)
named o [] h e = cc
named o (l ∷ ls) h e = by_test (is_eq (text_cmp o l.name)) refl e (named o ls h.1) where
  by_test : (b : Bool) → is_eq (text_cmp o l.name) ≡ b
      → is_some (cond b (Some l) (find (λ k. is_eq (text_cmp o k.name)) ls)) ≡ true
      → (has_name o ls ≡ true → IsTrue (is_operator_name o)) → IsTrue (is_operator_name o)
  by_test true f g ih = subst (λ n. IsTrue (is_operator_name n))
      (sym (exact_bytes o l.name (is_equal (text_cmp o l.name) f))) h.0
  by_test false f g ih = ih g

pub filed_within : (w : World) → IsContent w → AllByRecursion IsFiled w.plans
filed_within w h =
    both (λ p. IsPlan p.row) (λ p. IsTrue (is_operator_name p.operator)
    × (p.row.priority ≤ max_priority))
    IsFiled (λ p row k. record { operator = k.0; row = row; priority = k.1 }) w.plans h.rows
    (both (IsListed w) (λ p. p.row.priority ≤ max_priority)
    (λ p. IsTrue (is_operator_name p.operator) × (p.row.priority ≤ max_priority))
    (λ p there low. (named p.operator w.operators h.names (if_listed w.operators w.plans p there), low))
    w.plans h.world.listed h.world.priorities)

pub plan_rows_of : (t : Tables) (w : World) → IsContent w → AreRows t w
    → ArePlanRows w.plans t.plans t.volumes
plan_rows_of t w h are = record {
  within = filed_within w h;
  plans = are.plan_part;
  areas = are.volume_part;
}

module _ (one_shape : (one other : Shape) → HasValidParts one → HasValidParts other
    → footprint_bytes one
    ≡ footprint_bytes other → one ≡ other) (t : Tables) (ls : List Listed) (ps : List Filed)
    (operators : AreOperatorRows ls t.operators) (plans : ArePlanRows ps t.plans t.volumes) where
  pub assembled : AreAgreed ls ps t.spans → IsContent (world_of ls ps) × AreRows t (world_of ls ps)
  assembled are = (
    record {
      world = record {
        operators = are.names;
        plans = are.keys;
        listed = are.shared.listed;
        rows = are.shared.few;
        ceilings = all_weaker IsOperator (λ l. l.ceiling ≤ max_priority) (λ l k. k.ceiling) ls
            operators.within;
        priorities = all_weaker IsFiled (λ p. p.row.priority ≤ max_priority) (λ p k. k.priority) ps
            plans.within;
      };
      names = all_weaker IsOperator (λ l. IsTrue (is_operator_name l.name)) (λ l k. k.name) ls
          operators.within;
      rows = plans_within ps plans.within;
    },
    record {
      operator_part = operators.are;
      plan_part = plans.plans;
      volume_part = plans.areas;
      span_part = are.spans;
    },
  )

  same_operators : (w : World) → AreRows t w → ls ≡ w.operators
  same_operators w are = one_operators ls w.operators (sym operators.are ∙ are.operator_part)

  same_plans : (w : World) → IsContent w → AreRows t w → ps ≡ w.plans
  same_plans w h are = one_plans one_shape ps w.plans (plans_within ps plans.within) h.rows
      (sym plans.plans ∙ are.plan_part) (sym plans.areas ∙ are.volume_part)

  -- a content with these rows agrees
  pub agreed : (w : World) → IsContent w → AreRows t w → AreAgreed ls ps t.spans
  agreed w h are =
      let one = sym (same_operators w are) in
      let two = sym (same_plans w h are) in record {
        names = subst (IsStrictlySortedBy listed_cmp) one h.world.operators;
        keys = subst (IsStrictlySortedBy filed_cmp) two h.world.plans;
        shared = subst (λ ks. HaveOperatorsAndRoom ks ps) one
            (subst (HaveOperatorsAndRoom w.operators) two (record
            { listed = h.world.listed; few = h.world.rows }));
        spans = subst (λ qs. AreSpanRows qs t.spans) two are.span_part;
      }

-- the same of what references show
pub no_plans : (inside t : Tables) (head_rows volumes : List Row) → inside ≡ t → head_rows ≡ inside.plans
    → volumes
    ≡ inside.volumes
    → ((ps : List Filed) → IsStrictlySortedBy filed_cmp ps → ArePlanRows ps head_rows volumes → ⊥)
    → (w : World)
    → IsContent w → AreRows t w → ⊥
no_plans inside t head_rows volumes view one two none w h are =
    none w.plans h.world.plans (subst (λ rs. ArePlanRows w.plans rs volumes)
    (sym (one ∙ ap (λ x. x.plans) view)) (subst (ArePlanRows w.plans t.plans)
    (sym (two ∙ ap (λ x. x.volumes) view)) (plan_rows_of t w h are)))

module _ (one_shape : (one other : Shape) → HasValidParts one → HasValidParts other
    → footprint_bytes one
    ≡ footprint_bytes other → one ≡ other) (inside t : Tables)
    (operators head_rows volumes spans : List Row)
    (ls ks : List Listed) (ps qs : List Filed) (view : inside ≡ t) (one : operators ≡ inside.operators)
    (two : head_rows ≡ inside.plans) (three : volumes ≡ inside.volumes) (four : spans ≡ inside.spans)
    (five : ks ≡ ls) (six : qs ≡ ps) (listed : AreOperatorRows ls operators)
    (filed : ArePlanRows ps head_rows volumes) where
  operators_of : AreOperatorRows ls t.operators
  operators_of = subst (AreOperatorRows ls) (one ∙ ap (λ x. x.operators) view) listed

  plans_of : ArePlanRows ps t.plans t.volumes
  plans_of = subst (λ rs. ArePlanRows ps rs t.volumes) (two ∙ ap (λ x. x.plans) view)
      (subst (ArePlanRows ps head_rows) (three ∙ ap (λ x. x.volumes) view) filed)

  pub none_if : (AreAgreed ks qs spans → ⊥) → (w : World) → IsContent w → AreRows t w → ⊥
  none_if none w h are =
      none (subst (λ xs. AreAgreed xs qs spans) (sym five)
      (subst (λ xs. AreAgreed ls xs spans) (sym six)
      (subst (AreAgreed ls ps) (sym (four ∙ ap (λ x. x.spans) view))
      (agreed one_shape t ls ps operators_of plans_of w h are))))
