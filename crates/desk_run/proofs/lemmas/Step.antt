-- Laws of steps, with their proofs: what they leave each operator.
use Rattle.std.proofs.Common.{◌≡◌, ℕ, ℤ, false, List, Option, Some, None, refl, ap, ◌∙◌}
use Rattle.std.specs.Prelude.{is_some}
use Rattle.std.specs.Option.{unwrap_or}
use Rattle.std.specs.Ordering.{is_eq}
use Rattle.desk_rules.specs.declared.plan.PlanRow.{PlanRow}
use Rattle.desk_rules.specs.declared.words.Usage.TheVariants as usage
use Rattle.desk_rules.specs.declared.call.Call.{Call}
use Rattle.desk_rules.specs.declared.call.Call.TheVariants.{Delete}
use Rattle.desk_store.specs.World.{World, IsWorld, Own, own, text_cmp, ceiling_of, plans_of, stored_of}
use Rattle.desk_store.specs.Changes.{with_plans}
use Rattle.desk_run.specs.Verdicts.{DeskWorld, side, held_in, delete_ruling, enrolled_ruling, ruling_under, ruling_in, world_with_plans, makes_change, step, verdict, side_left}
use Rattle.desk_store.proofs.lemmas.Order.{rows_sorted}
use Rattle.desk_store.proofs.lemmas.World.{own_replaced, others_kept, close_closed, replaced_by_own}

abbrev owner : World → List ℕ → List PlanRow → Own
owner w o rows = record { ceiling = ceiling_of o w; plans = rows }

others_changed :
    (w : World) (o q : List ℕ) (rows : Option (List PlanRow)) → is_eq (text_cmp q o) ≡ false
    → own (world_with_plans w o rows) q ≡ own w q
unfolding own with_plans ceiling_of
others_changed w o q None e = refl
others_changed w o q (Some rows) e = ap (owner w q) (others_kept q o rows w e)

pub others_stay :
    (w : DeskWorld) (o q : List ℕ) (moment : ℤ) (asked : Call) → is_eq (text_cmp q o) ≡ false
    → side (step w o moment asked) q ≡ side w q
unfolding step
others_stay w o q moment asked e = λ i. record {
  own = others_changed w.content o q (ruling_in w o moment asked).plans e i;
  terms = w.terms;
}

own_changed :
    (w : World) (o : List ℕ) (rows : Option (List PlanRow))
    → own (world_with_plans w o rows) o ≡ record (own w o) { plans = unwrap_or rows (plans_of o w) }
unfolding own with_plans ceiling_of
own_changed w o None = refl
own_changed w o (Some rows) = ap (owner w o) (own_replaced o rows w)

pub own_stays :
    (w : DeskWorld) (o : List ℕ) (moment : ℤ) (asked : Call)
    → side (step w o moment asked) o ≡ side_left (side w o) (held_in w o) moment asked
unfolding step side_left own
own_stays w o moment asked = λ i. record {
  own = own_changed w.content o (ruling_in w o moment asked).plans i;
  terms = w.terms;
}

-- a call that makes no change leaves the world as it is
none_changed :
    (w : World) (o : List ℕ) (rows : Option (List PlanRow)) → is_some rows ≡ false
    → world_with_plans w o rows ≡ w
none_changed w o None e = refl
none_changed w o (Some rows) e = cc

pub unchanged :
    (w : DeskWorld) (o : List ℕ) (moment : ℤ) (asked : Call) → makes_change w o moment asked ≡ false
    → step w o moment asked ≡ w
unfolding makes_change step
unchanged w o moment asked e =
    ap (λ content. record w { content = content })
    (none_changed w.content o (ruling_in w o moment asked).plans e)

-- closing a closed plan leaves the world as it is
pub closing_closed :
    (w : DeskWorld) (o id : List ℕ) (moment : ℤ) (row : PlanRow) → IsWorld w.content
    → stored_of id (plans_of o w.content) ≡ Some row → row.usage ≡ usage.Closed
    → step w o moment (Delete id) ≡ w
unfolding step verdict own enrolled_ruling
closing_closed w o id moment row h stored shut =
    ap (λ v. record w { content = v }) (by_ceiling (ceiling_of o w.content)) where
      by_ceiling :
          (c : Option ℕ) → world_with_plans w.content o
          (ruling_under c w.terms (own w.content o) (held_in w o) moment (Delete id)).plans ≡ w.content
      by_ceiling None = refl
      by_ceiling (Some c) =
          ap (λ s. world_with_plans w.content o (delete_ruling (plans_of o w.content) id s).plans) stored
          ∙ ap (with_plans w.content o)
          (close_closed id (plans_of o w.content) row (rows_sorted o w.content.plans h.plans) stored shut)
          ∙ replaced_by_own o w.content h
