use Rattle.std.proofs.Common.{◌≤◌, sym, subst, ◌∙◌, w64}
use Rattle.std.specs.Prelude.{IfSome}
use Rattle.std.proofs.lemmas.Int.{to_z-of_z}
use Rattle.desk_rules.specs.Limits.{max_priority}
use Rattle.desk_store.proofs.lemmas.Fault.{was_honest}
use Rattle.desk_store.proofs.lemmas.World.{ceiling_within}
use Rattle.desk_run.proofs.CallLemmas.{unlisted_is, status_ready, prepares_from, list_readies, show_readies, put_readies, delete_readies, clear_readies}
use Rattle.desk_run.specs.Verdicts.{with_content}
use Rattle.desk_run.proofs.pending.prepare_over.Goals as goal

pub prepare_put-requires-clause-low : goal.prepare_put-requires-clause-low
prepare_put-requires-clause-low g c = λ honest.
    subst (λ found. IfSome found (λ n. n ≤ max_priority))
    (sym (c.in_ok-ceiling.ensures.value honest) ∙ c.in-Some.is)
    (ceiling_within c.args.asked.now.operator (g.S.PlanStore.content c.args.store.now)
    (c.in_ok-ceiling.ensures.content honest).world)

pub returns-in_default-clause-value : goal.returns-in_default-clause-value
returns-in_default-clause-value g c = λ honest.
    unlisted_is (with_content c.args.terms.now (g.S.PlanStore.content c.args.store.now)) c.args.moment
    c.args.asked.now
    (sym (c.in_ok-ceiling.ensures.value honest) ∙ c.in_default.is)

pub returns-in-Status-clause-value : goal.returns-in-Status-clause-value
returns-in-Status-clause-value g c = λ honest.
    status_ready (with_content c.args.terms.now (g.S.PlanStore.content c.args.store.now)) c.args.moment
    c.args.asked.now
    c.in-Some.ceiling
    (sym (c.in_ok-ceiling.ensures.value honest) ∙ c.in-Some.is) c.in-Status.is

pub returns-in-Put-clause-value : goal.returns-in-Put-clause-value
returns-in-Put-clause-value g c = λ honest.
    let listing = was_honest c.prepare_put.ensures.reads.doubt honest in
    let before = with_content c.args.terms.now (g.S.PlanStore.content c.args.store.now) in
    let asked = c.args.asked.now in
    prepares_from before c.args.moment asked c.in-Some.ceiling c.prepare_put.result
    (sym (c.in_ok-ceiling.ensures.value listing) ∙ c.in-Some.is)
    (put_readies before.terms (g.S.PlanStore.content c.ceiling.new.self) before.content _ c.args.moment
    asked c.in-Put.put
    c.in-Some.ceiling c.prepare_put.result c.ceiling.ensures.reads.same
    (to_z-of_z w64 c.args.moment c.ranges.moment) c.in-Put.is (c.prepare_put.ensures.value honest))

pub returns-in-Delete-clause-value : goal.returns-in-Delete-clause-value
returns-in-Delete-clause-value g c = λ honest.
    let listing = was_honest c.prepare_delete.ensures.reads.doubt honest in
    let before = with_content c.args.terms.now (g.S.PlanStore.content c.args.store.now) in
    let asked = c.args.asked.now in
    prepares_from before c.args.moment asked c.in-Some.ceiling c.prepare_delete.result
    (sym (c.in_ok-ceiling.ensures.value listing) ∙ c.in-Some.is)
    (delete_readies before.terms (g.S.PlanStore.content c.ceiling.new.self) before.content c.args.moment
    asked c.in-Delete.id
    c.in-Some.ceiling c.prepare_delete.result c.ceiling.ensures.reads.same
    c.in-Delete.is (c.prepare_delete.ensures.value honest))

pub returns-in-List-clause-value : goal.returns-in-List-clause-value
returns-in-List-clause-value g c = λ honest.
    let listing = was_honest c.prepare_list.ensures.reads.doubt honest in
    let before = with_content c.args.terms.now (g.S.PlanStore.content c.args.store.now) in
    let asked = c.args.asked.now in
    prepares_from before c.args.moment asked c.in-Some.ceiling c.prepare_list.result
    (sym (c.in_ok-ceiling.ensures.value listing) ∙ c.in-Some.is)
    (list_readies before.terms (g.S.PlanStore.content c.ceiling.new.self) before.content c.args.moment
    asked
    c.in-Some.ceiling
    c.prepare_list.result c.ceiling.ensures.reads.same
    c.in-List.is (c.prepare_list.ensures.value honest))

pub returns-in-Show-clause-value : goal.returns-in-Show-clause-value
returns-in-Show-clause-value g c = λ honest.
    let listing = was_honest c.prepare_show.ensures.reads.doubt honest in
    let before = with_content c.args.terms.now (g.S.PlanStore.content c.args.store.now) in
    let asked = c.args.asked.now in
    prepares_from before c.args.moment asked c.in-Some.ceiling c.prepare_show.result
    (sym (c.in_ok-ceiling.ensures.value listing) ∙ c.in-Some.is)
    (show_readies before.terms (g.S.PlanStore.content c.ceiling.new.self) before.content c.args.moment
    asked c.in-Show.id
    c.in-Some.ceiling c.prepare_show.result c.ceiling.ensures.reads.same
    c.in-Show.is (c.prepare_show.ensures.value honest))

pub returns-in-Clear-clause-value : goal.returns-in-Clear-clause-value
returns-in-Clear-clause-value g c = λ honest.
    let listing = was_honest c.prepare_clear.ensures.reads.doubt honest in
    let before = with_content c.args.terms.now (g.S.PlanStore.content c.args.store.now) in
    let asked = c.args.asked.now in
    prepares_from before c.args.moment asked c.in-Some.ceiling c.prepare_clear.result
    (sym (c.in_ok-ceiling.ensures.value listing) ∙ c.in-Some.is)
    (clear_readies before.terms (g.S.PlanStore.content c.ceiling.new.self) before.content c.args.moment
    asked
    c.in-Clear.extent
    c.in-Some.ceiling c.prepare_clear.result c.ceiling.ensures.reads.same
    c.in-Clear.is (c.prepare_clear.ensures.value honest))
