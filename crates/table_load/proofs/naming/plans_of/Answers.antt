use Rattle.std.proofs.Common.{◌∙◌, ap, subst, sym, true≢false}
use Rattle.std.specs.List.Sorted.{IsStrictlySortedBy}
use Rattle.desk_sql.specs.Rows.{Tables}
use Rattle.desk_store.specs.World.{filed_cmp, listed_cmp}
use Rattle.table_load.proofs.NamingLemmas.{unsorted_operators, unsorted_plans}
use Rattle.table_load.proofs.naming.plans_of.Goals as goal

pub returns-then-not-are_names_ascending-clause-fault : goal.returns-then-not-are_names_ascending-clause-fault
returns-then-not-are_names_ascending-clause-fault c =
    unsorted_operators c.args.rows.now c.args.volume c.deref.result.now
    (c.deref.ensures.value ∙ ap (λ (t : Tables). t.operators) c.rows.view_is) c.in-Ok.operators.items
    c.in-Ok.ensures.ok
    (λ sorted. true≢false (sym (c.are_names_ascending.ensures.1 (subst (IsStrictlySortedBy listed_cmp)
    (sym c.deref-4.ensures.value) sorted)) ∙ c.if-not-are_names_ascending.true))

pub returns-then-not-are_keys_ascending-clause-fault : goal.returns-then-not-are_keys_ascending-clause-fault
returns-then-not-are_keys_ascending-clause-fault c =
    unsorted_plans c.one_shape.ensures c.args.rows.now c.args.volume c.deref-2.result.now c.deref-3.result.now
    (c.deref-2.ensures.value ∙ ap (λ (t : Tables). t.plans) c.rows.view_is)
    (c.deref-3.ensures.value ∙ ap (λ (t : Tables). t.volumes) c.rows.view_is) c.in-Ok-plans_in.plans.items
    c.in-Ok-plans_in.ensures.ok
    (λ sorted. true≢false (sym (c.are_keys_ascending.ensures.1 (subst (IsStrictlySortedBy filed_cmp)
    (sym c.deref-5.ensures.value) sorted)) ∙ c.if-not-are_keys_ascending.true))
