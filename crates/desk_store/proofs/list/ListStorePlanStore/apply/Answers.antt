use Rattle.std.proofs.Common.{◌∙◌, ap, refl}
use Rattle.desk_store.specs.Changes.{changed_by}
use Rattle.desk_store.specs.declared.change.Change.TheVariants.{Put}
use Rattle.desk_store.proofs.list.ListStorePlanStore.apply.Goals as goal

pub enrol-requires : goal.enrol-requires
enrol-requires c = rw c.in-Enrol.is at c.requires refl

pub put-requires : goal.put-requires
put-requires c = rw c.in_ok-copy-in-Put.ensures (rw c.in-Put.is at c.requires refl)

pub close-requires : goal.close-requires
close-requires c = rw c.in-Close.is at c.requires refl

pub clear-requires : goal.clear-requires
clear-requires c = rw c.in-Clear.is at c.requires refl

pub returns-in_ok-enrol-in-Enrol-clause-ok : goal.returns-in_ok-enrol-in-Enrol-clause-ok
returns-in_ok-enrol-in-Enrol-clause-ok c = λ _. rw c.in-Enrol.is c.in_ok-enrol-in-Enrol.ensures.ok

pub returns-in_ok-put-in-Put-clause-ok : goal.returns-in_ok-put-in-Put-clause-ok
returns-in_ok-put-in-Put-clause-ok c = λ _. rw c.in-Put.is
    (c.in_ok-put-in-Put.ensures.ok ∙ ap (λ row. changed_by (Put c.in-Put.operator row) c.args.self.now)
    c.in_ok-copy-in-Put.ensures)

pub returns-in-Close-clause-ok : goal.returns-in-Close-clause-ok
returns-in-Close-clause-ok c = λ _. rw c.in-Close.is c.close.ensures

pub returns-in-Clear-clause-ok : goal.returns-in-Clear-clause-ok
returns-in-Clear-clause-ok c = λ _. rw c.in-Clear.is c.clear.ensures
