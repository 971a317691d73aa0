use Rattle.std.proofs.Common.{inl, inr}
use Rattle.desk_tables.proofs.LeavingLemmas.{cut_leaves}
use Rattle.desk_tables.proofs.laws.an_interrupted_start_keeps_the_state.Goals as goal

pub returns-clause-opened : goal.returns-clause-opened
returns-clause-opened g c = λ last image new w only files cut.
    cut_leaves last w only c.one_state.ensures image files new (record {
      found = cut.found;
      opened = cut.opened;
      left = λ clean db may. elim (cut.left clean db may) [ inl same ↦ inl same | inr done ↦ inr (inl done) ];
    })

pub returns-clause-moved : goal.returns-clause-moved
returns-clause-moved g c = λ last image new w only files.
    cut_leaves last w only c.one_state.ensures image files new
