use Rattle.std.proofs.Common.{◌≡◌, map, take}
use Rattle.desk_wire.proofs.batch.copy_answers.Given as goal

-- the answers so far
abbrev pub invariant-loop-answer : goal.invariant-loop-answer
invariant-loop-answer l = map (λ v. v.items) l.copies.items
    ≡ map (λ v. v.items) (take l.answer-index l.answers.items)
