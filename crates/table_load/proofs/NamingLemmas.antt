-- Which part of rows is named.
use Rattle.std.proofs.Common.{◌≡◌, ◌≤◌, ℕ, List, length, IsTrue, inl, inr, refl, sym, ap, subst, ◌∙◌}
use Rattle.std.specs.List.Sorted.{IsStrictlySortedBy}
use Rattle.sqlite_value.specs.declared.value.Value.TheVariants.{Text}
use Rattle.sqlite_value.specs.Order.{Row, column}
use Rattle.volume4d.specs.Footprint.{footprint_bytes, HasValidParts}
use Rattle.volume4d.specs.Volume.{Shape}
use Rattle.desk_rules.specs.declared.plan.PlanRow.{PlanRow}
use Rattle.desk_rules.specs.Limits.{max_priority, is_operator_name}
use Rattle.desk_sql.specs.Rows.{Tables}
use Rattle.desk_store.specs.World.{IsId, Filed, Listed, listed_cmp, filed_cmp}
use Rattle.table_load.specs.declared.naming.InvalidPart.{InvalidPart}
use Rattle.table_load.specs.declared.naming.InvalidPart.TheVariants.{Operator, Plan}
use Rattle.table_load.specs.OpeningSteps.{FailsHeads, IsPlanHead}
use Rattle.row_codec.specs.Tables.{AreOperatorRows, ArePlanRows, AreNumbersOf, IsKeyed, id_text}
use Rattle.table_load.proofs.lemmas.Content.{one_operators, one_plans}
use Rattle.row_codec.proofs.lemmas.Exact.{plan_row_is}
use Rattle.row_codec.proofs.lemmas.Plan.{plans_within}

-- ---- a row of `plan` alone

module _ (head : Row) (operator name id text : List ℕ) (same : name ≡ operator) (of : text ≡ id_text id) where
  pub head_is : (p : PlanRow) → IsTrue (is_operator_name operator) → IsId id → p.priority ≤ max_priority
      → AreNumbersOf head p → IsKeyed name text 5 head → IsPlanHead head
  head_is p named is few numbers key =
      let plan : Filed = record { operator = operator; row = record p { id = id } } in
      record {
        plan = plan;
        operator = named;
        id = is;
        priority = few;
        row = plan_row_is plan name text same of head key (record
            { priority = numbers.priority; usage = numbers.usage; aircraft = numbers.aircraft });
      }

  pub not_keyed : column head 0 ≡ Text operator
      → ((other : List ℕ) → IsId other → column head 1 ≡ Text (id_text other) → id ≡ other)
      → (IsKeyed name text 5 head → ⊥) → IsPlanHead head → ⊥
  not_keyed by ids off h =
      let there : column head 1 ≡ Text (id_text h.plan.row.id) = ap (λ r. column r 1) h.row in
      off (record {
        wide = ap length h.row;
        name = by ∙ ap Text (sym same);
        text = there ∙ ap Text (sym (of ∙ ap id_text (ids h.plan.row.id h.id there)));
      })

-- ---- the rows that references show are those of these tables

pub unsorted_operators : (t : Tables) (other : InvalidPart) (rows : List Row) → rows ≡ t.operators
    → (ls : List Listed) → AreOperatorRows ls rows → (IsStrictlySortedBy listed_cmp ls → ⊥)
    → FailsHeads t other Operator
unsorted_operators t other rows same ls are off = inl (
  refl,
  λ ks sorted more.
      off (subst (IsStrictlySortedBy listed_cmp) (one_operators ks ls (sym more.are ∙ sym same ∙ are.are)) sorted),
)

pub unsorted_plans : ((one other : Shape) → HasValidParts one → HasValidParts other
    → footprint_bytes one ≡ footprint_bytes other → one ≡ other)
    → (t : Tables) (other : InvalidPart) (heads volumes : List Row) → heads ≡ t.plans → volumes ≡ t.volumes
    → (ps : List Filed) → ArePlanRows ps heads volumes → (IsStrictlySortedBy filed_cmp ps → ⊥)
    → FailsHeads t other Plan
unsorted_plans one_shape t other heads volumes one two ps are off =
    inr (inl (
      inl refl,
      λ qs sorted more. off (subst (IsStrictlySortedBy filed_cmp)
          (one_plans one_shape qs ps (plans_within qs more.within) (plans_within ps are.within)
          (sym more.plans ∙ sym one ∙ are.plans) (sym more.areas ∙ sym two ∙ are.areas)) sorted),
    ))
