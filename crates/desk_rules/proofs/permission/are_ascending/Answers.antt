use Rattle.std.proofs.Common.{rules}
use Rattle.std.specs.Prelude.{nat_lt}
use Rattle.std.proofs.lemmas.List.Sorted.{answers_always}
use Rattle.desk_rules.proofs.PermissionLemmas.{ascend_by_adjacent}
use Rattle.desk_rules.proofs.permission.are_ascending.Goals as goal

pub returns : goal.returns
returns c =
    ascend_by_adjacent c.args.priorities.now c.is_sorted_by.result
    (c.is_sorted_by.ensures.cases nat_lt (answers_always _ _ _ (λ f a r q k. search rules)))
