use Rattle.std.proofs.Common.{◌≡◌, drop, map}
use Rattle.desk_cli.specs.Malformed.{first_malformed_enrolment}
use Rattle.desk_cli.proofs.malformed.malformed_enrolment.Given as goal

-- none of the words so far is the first
abbrev pub invariant-loop-word : goal.invariant-loop-word
invariant-loop-word l = first_malformed_enrolment (map (λ word. word.now) l.words)
    ≡ first_malformed_enrolment (map (λ word. word.now) (drop l.word-index l.words))
