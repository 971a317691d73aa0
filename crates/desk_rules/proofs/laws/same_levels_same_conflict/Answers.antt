use Rattle.std.proofs.Common.{subst}
use Rattle.std.proofs.Math.Path.{fun_ext}
use Rattle.desk_rules.specs.Conflict.{IsConflict}
use Rattle.desk_rules.proofs.ConflictLemmas.{conflict_same_levels}
use Rattle.desk_rules.proofs.laws.same_levels_same_conflict.Goals as goal

pub returns-clause-found : goal.returns-clause-found
returns-clause-found c = conflict_same_levels

pub returns-clause-kept : goal.returns-clause-kept
returns-clause-kept c = λ permitted area f g priority spot same h. subst
    (λ levels. IsConflict permitted area levels priority spot) (fun_ext same) h
